-- The calls of the items that any calls come to: what clients ask of the items of a subscription, what the rows of
-- subscriptions take of their items and end of them, and the values that are shown.
use Rattle.std.specs.Prelude.{◌≡◌, List, [], ◌∷◌, map, Some}
use Rattle.std.specs.List.{flat_map}
use Rattle.ua_types.specs.Configuration.{Configuration}
use Rattle.ua_state_table.specs.declared.action.Action.{Action}
use Rattle.ua_state_table.specs.declared.action.Action.TheVariants.{SendNotifications, DeleteItems}
use Rattle.ua_state_table.specs.declared.row.RowId.{RowId}
use Rattle.ua_monitored_items.specs.Moves as item_moves
use Rattle.ua_subscriptions.specs.Firing.{row_of}
use Rattle.ua_subscriptions.specs.Scenes.{Scene, Noting}
use Rattle.subscription_laws.specs.Actions.{of_row, notings_at}
use Rattle.subscription_laws.specs.Encounters.{CallsItems, ShowsItems, Encounter, Meets, Does, encounters}
use Rattle.subscription_laws.specs.Runs.{on_items, Move, Ran, start, run, of_run}

-- ---- a row

-- a message takes the first values of its subscription's items, as many as it may have
abbrev pub note_call : Noting → item_moves.Move
note_call n = item_moves.Move.TakeNotes n.round.own n.subscription.notifications

-- of all actions two touch the items: one that sends notifications, and one that deletes the items
abbrev pub action_calls : Scene → Action → List item_moves.Move
action_calls c SendNotifications = map note_call (notings_at c)
action_calls c DeleteItems = item_moves.Move.End c.round.own ∷ []
action_calls c action = []

abbrev pub row_calls : RowId → Scene → List item_moves.Move
row_calls r c = of_row action_calls r c

-- ---- any call

-- those of an encounter: of the row that fires, or what is asked of the items themselves
abbrev pub calls_at : Encounter → List item_moves.Move
calls_at (Meets c) = row_calls (row_of c) c
calls_at (Does w (CallsItems number (Some asked))) = on_items number asked ∷ []
calls_at (Does w (ShowsItems changed)) = item_moves.Move.Show changed ∷ []
calls_at (Does w b) = []

-- what a call comes to at the items
abbrev pub calls_of : Ran → Move → List item_moves.Move
calls_of r m = flat_map calls_at (encounters r m)

-- all calls of the items, from the first on
abbrev pub item_calls : Configuration → List Move → List item_moves.Move
item_calls config moves = of_run calls_of (start config) moves

-- ---- what the law says

-- the items come by these calls, from no items on
abbrev pub ItemsComeByTheirCalls : Type 0
ItemsComeByTheirCalls = (config : Configuration) (moves : List Move) → (run config moves).items ≡ (item_moves.run config (item_calls config moves)).state
