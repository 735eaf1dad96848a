-- Which call gives a value which fate.
use Rattle.std.specs.Prelude.{ℕ, Bool, false, if◌then◌else◌, List, [], ◌∷◌, ◌++◌}
use Rattle.ua_types.specs.Configuration.{Configuration}
use Rattle.ua_item_queue.specs.Causes.{is_cleared, GetsOnly}
use Rattle.ua_item_queue.specs.Fates.{Fate, is_sent, is_lost}
use Rattle.ua_monitored_items.specs.Item.{is_enabled}
use Rattle.ua_monitored_items.specs.Moves.{Move, account_of}
use Rattle.ua_monitored_items.specs.Moves.Move.{Create, Modify, SetMode, Link, Delete, End, Show, TakeNotes}

-- A message sends values. They are lost only where the item takes another one, which it does when it is made or enabled, and
-- when it sees one that was written. They are cleared where the item gets a smaller queue, is disabled or deleted, or its
-- subscription ends. Links give a value no fate
abbrev pub call_may_give : Move → Fate → Bool
call_may_give (TakeNotes subscription n) f = is_sent f
call_may_give (Create nodes clock subscription timestamps requests) f = is_lost f
call_may_give (Show changed) f = is_lost f
call_may_give (SetMode nodes clock subscription mode numbers) f = if is_enabled mode then is_lost f else is_cleared f
call_may_give (Link subscription triggering add remove) f = false
call_may_give (Modify subscription timestamps requests) f = is_cleared f
call_may_give (Delete subscription numbers) f = is_cleared f
call_may_give (End subscription) f = is_cleared f

-- no call gives a value another fate
abbrev pub FatesHaveTheirCauses : Type 0
FatesHaveTheirCauses = (config : Configuration) (moves : List Move) (move : Move) (number : ℕ) →
    GetsOnly (call_may_give move) (account_of config moves number) (account_of config (moves ++ move ∷ []) number)
