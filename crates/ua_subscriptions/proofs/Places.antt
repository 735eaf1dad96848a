-- Places only rise while what comes to subscriptions fires rows.
use Rattle.std.proofs.Common.{◌≡◌, ◌≤◌, ◌<◌, ◌++◌, ◌∷◌, ℕ, ◌^◌, Bool, true, false, List, [], length, take, slice_index, Option, Some, None, Err, refl, arith, cond, subst}
use Rattle.ua_state_table.specs.StateTable.{actions_of}
use Rattle.ua_state_table.specs.declared.row.RowId.{RowId}
use Rattle.ua_types.specs.declared.status.Status.{Status}
use Rattle.ua_types.specs.declared.status.TheConstants.Status as status
use Rattle.ua_subscriptions.specs.declared.call.Call.TheVariants.{Delete, SessionEnd}
use Rattle.server_messages.specs.declared.halt.Halt.{Halt}
use Rattle.server_messages.specs.declared.halt.Halt.TheVariants.{Memory, Exhausted}
use Rattle.ua_subscriptions.specs.declared.call.Call.{Call}
use Rattle.ua_subscriptions.specs.declared.subscription.Subscription.{Subscription}
use Rattle.ua_subscriptions.specs.Ending.{session_ended}
use Rattle.ua_subscriptions.specs.Firing.{fired, row_of}
use Rattle.ua_subscriptions.specs.Named.{Outcome, outcome, Comes, own_met, named_one, named_all, is_own, all_refused, has_none, deleted}
use Rattle.ua_subscriptions.specs.Scenes.{Scene, row_done, is_overspent}
use Rattle.ua_subscriptions.specs.Tables.{Stage, scene_at, met_by, met, meet_each, all_met, part_at, subscription_at, Meets}
use Rattle.ua_subscriptions.proofs.Doings.{all_place}
use Rattle.ua_subscriptions.proofs.Folding.{fold_rises, reaches, reaches_on}

row_place : (row : RowId) (c : Scene) → c.round.message_count ≤ (row_done row c).round.message_count
unfolding row_done
row_place row c = all_place (actions_of row) c

pub fired_place : (c : Scene) → c.round.message_count ≤ (fired c).round.message_count
unfolding fired
fired_place c = row_place (row_of c) c

by_place : (w : Stage) (own : ℕ) (call : Call) (o : Option Subscription) → w.round.message_count ≤ (met_by w own call o).round.message_count
by_place w own call None = grind arith
by_place w own call (Some s) = fired_place (scene_at w own call s)

pub met_place : (w : Stage) (own : ℕ) (call : Call) → w.round.message_count ≤ (met w own call).round.message_count
unfolding met
met_place w own call = by_place w own call (subscription_at own w.table.subscriptions)

-- ---- several

pub all_met_place : (call : Call) (numbers : List ℕ) (w : Stage) → w.round.message_count ≤ (all_met call w numbers).round.message_count
all_met_place call numbers w = fold_rises (meet_each call) (λ v. v.round.message_count) (λ v n. met_place v n call) numbers w

spent_at : (call : Call) (numbers : List ℕ) (i : ℕ) (w : Stage) → i < length numbers → is_overspent (met (all_met call w (take i numbers)) (slice_index numbers i) call).round ≡ true → is_overspent (all_met call w numbers).round ≡ true
spent_at call numbers i w lt h = grind (arith, reaches (meet_each call) (λ v. v.round.message_count) (λ v n. met_place v n call) numbers i w 0 (2 ^ 64) lt (grind (arith, h)))

-- where one of several can't be served, all can't
pub stops : (halt : Halt) (call : Call) (numbers : List ℕ) (i : ℕ) (w before new all : Stage) → before ≡ all_met call w (take i numbers) → i < length numbers → Meets {A = Unit} (Err halt) new (met before (slice_index numbers i) call) → Meets {A = Unit} (Err halt) all (all_met call w numbers)
stops Memory call numbers i w before new all so_far lt h = tt
stops Exhausted call numbers i w before new all so_far lt h = spent_at call numbers i w lt (subst (λ v. is_overspent (met v (slice_index numbers i) call).round ≡ true) so_far h)

own_place_by : (own : Bool) (a b : Outcome Status) (n : ℕ) → n ≤ a.stage.round.message_count → n ≤ b.stage.round.message_count → n ≤ (cond own a b).stage.round.message_count
own_place_by true a b n g h = g
own_place_by false a b n g h = h

pub own_place : (session : ℕ) (call : Call) (w : Stage) (number : ℕ) → w.round.message_count ≤ (own_met session call w number).stage.round.message_count
unfolding own_met
own_place session call w number = own_place_by (is_own w.table session number) _ _ _ (met_place w number call) (grind arith)

named_place : (session : ℕ) (call : Call) (before : Outcome (List Status)) (number : ℕ) → before.stage.round.message_count ≤ (named_one session call before number).stage.round.message_count
named_place session call before number = own_place session call before.stage number

named_spent_at : (session : ℕ) (call : Call) (done : List ℕ) (number : ℕ) (rest : List ℕ) (w : Stage) → is_overspent (own_met session call (named_all session call w done).stage number).stage.round ≡ true → is_overspent (named_all session call w (done ++ number ∷ rest)).stage.round ≡ true
named_spent_at session call done number rest w h = grind (arith, reaches_on (named_one session call) (λ o. o.stage.round.message_count) (named_place session call) done number rest (outcome [] w) (2 ^ 64) (grind (arith, h)))

pub named_stops : (halt : Halt) (session : ℕ) (call : Call) (done : List ℕ) (number : ℕ) (rest numbers : List ℕ) (w before new all : Stage) (results : List Status) → outcome results before ≡ named_all session call w done → done ++ number ∷ rest ≡ numbers → Comes {A = Status} (Err halt) new (own_met session call before number) → Comes {A = List Status} (Err halt) all (named_all session call w numbers)
named_stops Memory session call done number rest numbers w before new all results so_far whole h = tt
named_stops Exhausted session call done number rest numbers w before new all results so_far whole h =
    subst (λ (list : List ℕ). is_overspent (named_all session call w list).stage.round ≡ true) whole
    (named_spent_at session call done number rest w (subst (λ o. is_overspent (own_met session call o.stage number).stage.round ≡ true) so_far h))

left_place_by : (none : Bool) (session : ℕ) (w : Stage) → (cond none (all_refused session status.BAD_NO_SUBSCRIPTION w) w).round.message_count ≡ w.round.message_count
unfolding all_refused
left_place_by true session w = refl
left_place_by false session w = refl

pub deleted_stops : (halt : Halt) (session : ℕ) (numbers : List ℕ) (w new all : Stage) → Comes {A = List Status} (Err halt) new (named_all session Delete w numbers) → Comes {A = List Status} (Err halt) all (deleted session w numbers)
unfolding deleted
deleted_stops Memory session numbers w new all h = tt
deleted_stops Exhausted session numbers w new all h =
    let named = (named_all session Delete w numbers).stage in
    grind (arith, h, left_place_by (has_none session named.table) session named)

refused_place : (session : ℕ) (code : Status) (w : Stage) → (all_refused session code w).round.message_count ≡ w.round.message_count
unfolding all_refused
refused_place session code w = refl

end_spent : (session : ℕ) (deleting : Bool) (w : Stage) → is_overspent (all_met (SessionEnd deleting) w (part_at session w.table.sessions).numbers).round ≡ true → is_overspent (session_ended session deleting w).round ≡ true
unfolding session_ended
end_spent session deleting w h =
    grind (arith, h, refused_place session status.BAD_SESSION_CLOSED (all_met (SessionEnd deleting) w (part_at session w.table.sessions).numbers))

pub end_stops : (halt : Halt) (session : ℕ) (deleting : Bool) (numbers : List ℕ) (w new all : Stage) → numbers ≡ (part_at session w.table.sessions).numbers → Meets {A = Unit} (Err halt) new (all_met (SessionEnd deleting) w numbers) → Meets {A = Unit} (Err halt) all (session_ended session deleting w)
end_stops Memory session deleting numbers w new all is h = tt
end_stops Exhausted session deleting numbers w new all is h = end_spent session deleting w (subst (λ ns. is_overspent (all_met (SessionEnd deleting) w ns).round ≡ true) is h)
