-- What messages tell: each message, and the values that items gave to it.
use Rattle.std.specs.Prelude.{◌≡◌, ⊤, ℕ, List, [], ◌∷◌, ◌++◌}
use Rattle.std.specs.List.{flat_map}
use Rattle.ua_types.specs.Configuration.{Configuration}
use Rattle.ua_types.specs.declared.moment.Moment.{Moment}
use Rattle.ua_types.specs.declared.data_value.DataValue.{DataValue}
use Rattle.ua_subscription_messages.specs.DataChangeMessages.{data_change_message}
use Rattle.ua_item_queue.specs.declared.entry.Entry.{Entry}
use Rattle.ua_monitored_items.specs.Givings.{Giving, given_to, notes_given, entries_of}
use Rattle.ua_monitored_items.specs.Items.{ItemsState, no_items}
use Rattle.ua_monitored_items.specs.Moves as item_moves
use Rattle.subscription_laws.specs.ItemCalls.{item_calls}
use Rattle.subscription_laws.specs.Messaging.{Made}
use Rattle.subscription_laws.specs.Runs.{Move}

-- what the items of a subscription gave at once
pub record Taken : Type 0 where
  pub subscription : ℕ
  pub givings : List Giving

-- by a call of the items; one alone takes values
abbrev pub taken_by : ItemsState → item_moves.Move → List Taken
taken_by s (item_moves.Move.TakeNotes subscription n) = record { subscription = subscription; givings = given_to s subscription n } ∷ []
taken_by s move = []

abbrev pub taken_from : ItemsState → List item_moves.Move → List Taken
taken_from s [] = []
taken_from s (m ∷ ms) = taken_by s m ++ taken_from (item_moves.moved s m).state ms

-- all that items ever gave, over any calls
abbrev pub all_taken : Configuration → List Move → List Taken
all_taken config moves = taken_from (no_items config) (item_calls config moves)

-- a message of a subscription, whose bytes are those of its notes: of what its items gave, and nothing else
pub record IsMadeOf (m : Made) (t : Taken) : Type 0 where
  pub subscription : m.subscription ≡ t.subscription
  pub clock : Moment
  pub bytes : m.message.bytes ≡ data_change_message m.message.number clock (notes_given t.givings)

-- a message for each taking, in order, and no other
abbrev pub AreMadeOf : List Made → List Taken → Type 0
AreMadeOf [] [] = ⊤
AreMadeOf [] (t ∷ ts) = ⊥
AreMadeOf (m ∷ ms) [] = ⊥
AreMadeOf (m ∷ ms) (t ∷ ts) = IsMadeOf m t × AreMadeOf ms ts

-- the values that the item of a number gave, message after message
abbrev pub entries_sent : ℕ → List Taken → List (Entry DataValue)
entries_sent number ts = flat_map (λ (t : Taken). entries_of number t.givings) ts
