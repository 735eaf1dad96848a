-- The items come by their calls.
use Rattle.std.proofs.Common.{◌+◌, ◌≡◌, ℕ, Bool, true, false, cond, List, [], ◌∷◌, ◌++◌, append-nil, map, fold, refl, sym, ap, ◌∙◌, Some, None}
use Rattle.std.proofs.lemmas.List.Sums.{fold-append}
use Rattle.std.proofs.lemmas.List.Concat.{flat_map-append}
use Rattle.std.specs.List.{flat_map}
use Rattle.ua_types.specs.Configuration.{Configuration}
use Rattle.ua_state_table.specs.StateTable.{actions_of}
use Rattle.ua_state_table.specs.declared.action.Action.{Action}
use Rattle.ua_state_table.specs.declared.action.Action.TheVariants.{SendNotifications, DeleteItems}
use Rattle.ua_state_table.specs.declared.row.RowId.{RowId}
use Rattle.ua_monitored_items.specs.Items.{ItemsState, no_items}
use Rattle.ua_monitored_items.specs.Moves as item_moves
use Rattle.ua_monitored_items.specs.Moves.{Moved, moved_on}
use Rattle.ua_subscriptions.specs.declared.publish_call.PublishCall.{PublishCall}
use Rattle.ua_subscriptions.specs.declared.settings.Settings.{Settings}
use Rattle.ua_subscriptions.specs.Firing.{row_of, fired}
use Rattle.ua_subscriptions.specs.Making.{refused_one, added}
use Rattle.ua_subscriptions.specs.Named.{all_refused}
use Rattle.ua_subscriptions.specs.Scenes.{Scene, Noting, noting, sending, note_sent, with_asked, rest_sent, notes_sent, done, all_done, row_done}
use Rattle.ua_subscriptions.specs.Tables.{Stage, scene_at}
use Rattle.subscription_laws.specs.Encounters.{Beside, CallsItems, ShowsItems, beside, Encounter, Meets, Does, made_scene}
use Rattle.subscription_laws.specs.Actions.{of_actions, rest_notings, notings}
use Rattle.subscription_laws.specs.ItemCalls.{note_call, action_calls, row_calls, calls_at, calls_of, item_calls, ItemsComeByTheirCalls}
use Rattle.subscription_laws.specs.Runs.{Move, Ran, start, moved, run, of_run}
use Rattle.ua_subscriptions.specs.SubscriptionCalls.{stage_of}
use Rattle.subscription_laws.proofs.Folds.{of_run-append}
use Rattle.subscription_laws.proofs.Walks.{left_is, Follows, FollowsMaking, Any, any_begins, walked}

-- the items after a call, and after several
abbrev pub after_call : ItemsState → item_moves.Move → ItemsState
after_call s m = (item_moves.moved s m).state

abbrev pub after_calls : ItemsState → List item_moves.Move → ItemsState
after_calls s calls = fold after_call s calls

-- after these calls, and then those
then_calls : (before mid after : ItemsState) (xs ys : List item_moves.Move) → mid ≡ after_calls before xs → after ≡ after_calls mid ys → after ≡ after_calls before (xs ++ ys)
then_calls before mid after xs ys p q = q ∙ ap (λ (s : ItemsState). after_calls s ys) p ∙ sym (fold-append after_call before xs ys)

-- ---- a row

pub note_is : (n : Noting) → (note_sent n).items ≡ after_call n.items (note_call n)
unfolding note_sent
note_is n = refl

rest_is_if : (more : Bool) (asked : PublishCall) (calls : List PublishCall) (n : Noting) → let next = note_sent (with_asked n asked) in
    (rest_sent calls next).noting.items ≡ after_calls next.items (map note_call (rest_notings calls next)) →
    (cond more (rest_sent calls next) (sending n (asked ∷ calls))).noting.items ≡ after_calls n.items (map note_call (cond more (with_asked n asked ∷ rest_notings calls next) []))
rest_is_if true asked calls n h =
    let next = note_sent (with_asked n asked) in
    h ∙ ap (λ (s : ItemsState). after_calls s (map note_call (rest_notings calls next))) (note_is (with_asked n asked))
rest_is_if false asked calls n h = refl

rest_is : (calls : List PublishCall) (n : Noting) → (rest_sent calls n).noting.items ≡ after_calls n.items (map note_call (rest_notings calls n))
rest_is [] n = refl
rest_is (asked ∷ calls) n = rest_is_if n.subscription.more asked calls n (rest_is calls (note_sent (with_asked n asked)))

notes_are : (calls : List PublishCall) (n : Noting) → (notes_sent calls n).noting.items ≡ after_calls n.items (map note_call (notings calls n))
unfolding notes_sent
notes_are calls n = rest_is calls (note_sent n) ∙ ap (λ (s : ItemsState). after_calls s (map note_call (rest_notings calls (note_sent n)))) (note_is n)

action_is : (c : Scene) (action : Action) → (done c action).items ≡ after_calls c.items (action_calls c action)
action_is c SendNotifications = notes_are c.part.requests (noting c.round c.subscription c.items)
action_is c DeleteItems = refl
action_is c action = refl

actions_are : (actions : List Action) (c : Scene) → (all_done c actions).items ≡ after_calls c.items (of_actions action_calls c actions)
actions_are [] c = refl
actions_are (action ∷ actions) c =
    then_calls c.items (done c action).items (all_done (done c action) actions).items (action_calls c action) (of_actions action_calls (done c action) actions)
    (action_is c action) (actions_are actions (done c action))

row_is : (r : RowId) (c : Scene) → (row_done r c).items ≡ after_calls c.items (row_calls r c)
unfolding row_done
row_is r c = actions_are (actions_of r) c

fired_is : (c : Scene) → (fired c).items ≡ after_calls c.items (row_calls (row_of c) c)
unfolding fired
fired_is c = row_is (row_of c) c

-- ---- any call

abbrev pub ItemsCome : Stage → List Encounter → Stage → Type 0
ItemsCome w es v = v.items ≡ after_calls w.items (flat_map calls_at es)

items_beside : (w : Stage) (b : Beside) → ItemsCome w (Does w b ∷ []) (beside w b)
unfolding all_refused
items_beside w (CallsItems number None) = refl
items_beside w (CallsItems number (Some asked)) = refl
items_beside w (ShowsItems changed) = refl
items_beside w b = refl

items_one : (c : Scene) → (fired c).items ≡ after_calls c.items (calls_at (Meets c) ++ [])
items_one c = fired_is c ∙ ap (after_calls c.items) (sym (append-nil (calls_at (Meets c))))

items_next : (w v u : Stage) (es fs : List Encounter) → ItemsCome w es v → ItemsCome v fs u → ItemsCome w (es ++ fs) u
items_next w v u es fs p q = then_calls w.items v.items u.items (flat_map calls_at es) (flat_map calls_at fs) p q ∙ ap (after_calls w.items) (sym (flat_map-append calls_at es fs))

pub follows_items : Follows Any ItemsCome
follows_items = record {
  rest = λ whose asked w n ns given. tt;
  none = λ w. refl;
  next = items_next;
  passes = λ w n asked. refl;
  aside = λ w b fits. items_beside w b;
  one = λ whose asked w n ns s plain given meant found. items_one (scene_at w n asked s);
}

items_refused : (session number : ℕ) (settings : Settings) (enabled : Bool) (w : Stage) → ItemsCome w (Meets (made_scene true number session settings enabled w) ∷ []) (refused_one session settings enabled w)
unfolding refused_one fired row_done
items_refused session number settings enabled w = refl

items_added : (session number : ℕ) (settings : Settings) (enabled : Bool) (w : Stage) → ItemsCome w (Meets (made_scene false number session settings enabled w) ∷ []) (added session number settings enabled w)
unfolding added fired row_done
items_added session number settings enabled w = refl

pub items_making : FollowsMaking ItemsCome
items_making = record { refuses = items_refused; adds = λ r clock session settings enabled room. items_added session (r.subscriptions.made + 1) settings enabled (stage_of r.subscriptions r.items clock) }

pub one_is : (r : Ran) (m : Move) → (moved r m).items ≡ after_calls r.items (calls_of r m)
one_is r m = (left_is r m).items ∙ walked Any ItemsCome follows_items items_making r m (any_begins r m)

all_from : (moves : List Move) (r : Ran) → (fold moved r moves).items ≡ after_calls r.items (of_run calls_of r moves)
all_from [] r = refl
all_from (m ∷ ms) r = then_calls r.items (moved r m).items (fold moved (moved r m) ms).items (calls_of r m) (of_run calls_of (moved r m) ms) (one_is r m) (all_from ms (moved r m))

state_from : (calls : List item_moves.Move) (before : Moved) → (fold moved_on before calls).state ≡ after_calls before.state calls
state_from [] before = refl
state_from (m ∷ ms) before = state_from ms (moved_on before m)

pub items_come_by_their_calls : ItemsComeByTheirCalls
items_come_by_their_calls config moves = all_from moves (start config) ∙ sym (state_from (item_calls config moves) (record { state = no_items config; queue_moves = [] }))

-- later calls come behind
pub calls_go_on : (config : Configuration) (moves more : List Move) → item_calls config (moves ++ more) ≡ item_calls config moves ++ of_run calls_of (run config moves) more
calls_go_on config moves more = of_run-append calls_of moves more (start config)
