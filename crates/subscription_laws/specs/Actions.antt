-- What comes of a row's actions, one after the other, and of the messages that one of them sends: what a row makes, tells and asks of
-- the items are said over these.
use Rattle.std.specs.Prelude.{List, [], ◌∷◌, ◌++◌, if◌then◌else◌}
use Rattle.ua_state_table.specs.StateTable.{actions_of}
use Rattle.ua_state_table.specs.declared.action.Action.{Action}
use Rattle.ua_state_table.specs.declared.row.RowId.{RowId}
use Rattle.ua_subscriptions.specs.declared.publish_call.PublishCall.{PublishCall}
use Rattle.ua_subscriptions.specs.Scenes.{Scene, Noting, noting, note_sent, with_asked, done}

-- of each action what comes at the scene that those before it left
abbrev pub of_actions : {A : Type 0} → (Scene → Action → List A) → Scene → List Action → List A
of_actions each c [] = []
of_actions each c (action ∷ actions) = each c action ++ of_actions each (done c action) actions

abbrev pub of_row : {A : Type 0} → (Scene → Action → List A) → RowId → Scene → List A
of_row each r c = of_actions each c (actions_of r)

-- what stands as each message is made: one, and as long as values are left, one more for each request that waits
abbrev pub rest_notings : List PublishCall → Noting → List Noting
rest_notings [] n = []
rest_notings (asked ∷ calls) n = if n.subscription.more then with_asked n asked ∷ rest_notings calls (note_sent (with_asked n asked)) else []

abbrev pub notings : List PublishCall → Noting → List Noting
notings calls n = n ∷ rest_notings calls (note_sent n)

-- where notifications are sent
abbrev pub notings_at : Scene → List Noting
notings_at c = notings c.part.requests (noting c.round c.subscription c.items)
