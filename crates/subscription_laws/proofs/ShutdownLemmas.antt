-- A server's shutdown: what it answers, whom it concerns, and what it leaves.
use Rattle.std.proofs.Common.{◌≡◌, ℕ, Bool, true, false, cond, List, [], ◌∷◌, ◌++◌, map, fold, Option, Some, None, unwrap_or, refl, sym, ap, ◌∙◌}
use Rattle.std.specs.BTreeMap.{is_at}
use Rattle.std.specs.List.{AllByRecursion, flat_map}
use Rattle.std.specs.Map.{keys_of, values_of, lookup, set_value}
use Rattle.std.specs.Ordering.{nat_cmp}
use Rattle.ua_types.specs.Configuration.{Configuration}
use Rattle.ua_types.specs.declared.moment.Moment.{Moment}
use Rattle.ua_types.specs.declared.status.TheConstants.Status as status
use Rattle.server_messages.specs.declared.reply.Reply.{Reply}
use Rattle.ua_subscriptions.specs.declared.call.Call.TheVariants as call
use Rattle.ua_subscriptions.specs.declared.publish_call.PublishCall.{PublishCall}
use Rattle.ua_subscriptions.specs.declared.session_part.SessionSubscriptions.{SessionSubscriptions}
use Rattle.ua_subscriptions.specs.declared.subscription.Subscription.{Subscription}
use Rattle.ua_subscriptions.specs.Answers.{refused_of}
use Rattle.ua_subscriptions.specs.Ending.{all_requests, shut_down}
use Rattle.ua_subscriptions.specs.Firing.{fired}
use Rattle.ua_subscriptions.specs.Named as named
use Rattle.ua_subscriptions.specs.Scenes.{Scene, row_done}
use Rattle.ua_subscriptions.specs.SubscriptionCalls.{stage_of}
use Rattle.ua_subscriptions.specs.Subscriptions.{no_part}
use Rattle.ua_subscriptions.specs.Tables.{TableState, Stage, no_table, met, all_met, part_at, part_of, set_part, subscription_at, scene_at, met_by}
use Rattle.ua_subscriptions.proofs.Shutdowns.{nothing_left, first_found, first_gone}
use Rattle.subscription_laws.specs.Concern.{subscription_of, concerns_at, concerned}
use Rattle.subscription_laws.specs.Encounters.{Beside, Acknowledges, beside, Encounter, Meets, meets_by, meets, all_meet}
use Rattle.subscription_laws.specs.Runs.{Move, Ran, moved, run}
use Rattle.subscription_laws.proofs.Acknowledgements.{all_acknowledged}
use Rattle.subscription_laws.proofs.Walks.{makes, left_is, Follows, Any, any_begins, walked_on}

-- ---- its row answers nothing, and takes no request

-- what a round has answered, at which clock, and the requests that wait
pub record Waiting : Type 0 where
  pub replies : List Reply
  pub clock : Moment
  pub calls : List PublishCall

abbrev those : List Reply → Moment → List PublishCall → Waiting
those replies clock calls = record { replies = replies; clock = clock; calls = calls }

abbrev waiting : Stage → Waiting
waiting w = those w.round.replies w.round.clock (all_requests (values_of w.table.sessions))

-- a session's part with the requests that it had
same_requests : (k : ℕ) (part : SessionSubscriptions) (sessions : List (ℕ × SessionSubscriptions)) → part.requests ≡ (part_at k sessions).requests →
    all_requests (values_of (set_value (is_at (nat_cmp k)) sessions part)) ≡ all_requests (values_of sessions)
same_requests k part [] same = refl
same_requests k part (e ∷ sessions) same = by (is_at (nat_cmp k) e.0) same (same_requests k part sessions)
  where
    rest : List (ℕ × SessionSubscriptions)
    rest = set_value (is_at (nat_cmp k)) sessions part

    by : (b : Bool) → part.requests ≡ (unwrap_or (cond b (Some e.1) (lookup (is_at (nat_cmp k)) sessions)) no_part).requests →
        (part.requests ≡ (part_at k sessions).requests → all_requests (values_of rest) ≡ all_requests (values_of sessions)) →
        all_requests (values_of (cond b ((e.0, part) ∷ sessions) (e ∷ rest))) ≡ e.1.requests ++ all_requests (values_of sessions)
    by true here more = ap (λ (calls : List PublishCall). calls ++ all_requests (values_of sessions)) here
    by false here more = ap (λ (calls : List PublishCall). e.1.requests ++ calls) (more here)

same_set : (session : Option ℕ) (part : SessionSubscriptions) (sessions : List (ℕ × SessionSubscriptions)) → part.requests ≡ (part_of session sessions).requests →
    all_requests (values_of (set_part session sessions part)) ≡ all_requests (values_of sessions)
same_set None part sessions same = refl
same_set (Some session) part sessions same = same_requests session part sessions same

-- what a row of a shutdown leaves as it was
pub record StaysWaiting (before after : Scene) : Type 0 where
  pub replies : after.round.replies ≡ before.round.replies
  pub clock : after.round.clock ≡ before.round.clock
  pub requests : after.part.requests ≡ before.part.requests

row_waits : (w : Stage) (n : ℕ) (s : Subscription) → StaysWaiting (scene_at w n call.Shutdown s) (fired (scene_at w n call.Shutdown s))
unfolding fired row_done
row_waits w n s = record { replies = refl; clock = refl; requests = refl }

same_waiting : (a b : Waiting) → a.replies ≡ b.replies → a.clock ≡ b.clock → a.calls ≡ b.calls → a ≡ b
same_waiting a b p q r =
    ap (λ (replies : List Reply). those replies a.clock a.calls) p ∙ ap (λ (clock : Moment). those b.replies clock a.calls) q ∙ ap (λ (calls : List PublishCall). those b.replies b.clock calls) r

one_waits : (w : Stage) (n : ℕ) → waiting (met w n call.Shutdown) ≡ waiting w
unfolding met
one_waits w n = by (subscription_at n w.table.subscriptions)
  where
    by : (o : Option Subscription) → waiting (met_by w n call.Shutdown o) ≡ waiting w
    by None = refl
    by (Some s) =
        let stays = row_waits w n s in
        same_waiting _ _ stays.replies stays.clock (same_set s.session (fired (scene_at w n call.Shutdown s)).part w.table.sessions stays.requests)

all_wait : (ns : List ℕ) (w : Stage) → waiting (all_met call.Shutdown w ns) ≡ waiting w
all_wait [] w = refl
all_wait (n ∷ ns) w = all_wait ns (met w n call.Shutdown) ∙ one_waits w n

-- ---- so all that wait are answered

refused_by : Waiting → List Reply
refused_by x = x.replies ++ map (refused_of x.clock status.BAD_SHUTDOWN) x.calls

all_refused : (w : Stage) → (shut_down w).round.replies ≡ w.round.replies ++ map (refused_of w.round.clock status.BAD_SHUTDOWN) (all_requests (values_of w.table.sessions))
unfolding shut_down refused_by
all_refused w = ap refused_by (all_wait (keys_of w.table.subscriptions) w)

pub all_are_answered : (config : Configuration) (moves : List Move) (clock : Moment) → let r = run config moves in
    (moved r (Move.Shutdown clock)).replies ≡ r.replies ++ map (refused_of clock status.BAD_SHUTDOWN) (all_requests (values_of r.subscriptions.table.sessions))
all_are_answered config moves clock = let r = run config moves in ap (λ (rs : List Reply). r.replies ++ rs) (all_refused (stage_of r.subscriptions r.items clock))

-- ---- and nothing is left

pub none_is_left : (config : Configuration) (moves : List Move) (clock : Moment) → (moved (run config moves) (Move.Shutdown clock)).subscriptions.table ≡ no_table
none_is_left config moves clock = let r = run config moves in nothing_left (stage_of r.subscriptions r.items clock)

-- ---- each subscription that lives is concerned

first_is : (w : Stage) (n : ℕ) (s : Subscription) (es : List (ℕ × Subscription)) → w.table.subscriptions ≡ (n, s) ∷ es → meets w n call.Shutdown ≡ Meets (scene_at w n call.Shutdown s) ∷ []
first_is w n s es is =
    ap (λ (xs : List (ℕ × Subscription)). meets_by w n call.Shutdown (subscription_at n xs)) is ∙ ap (λ (o : Option Subscription). meets_by w n call.Shutdown o) (first_found n s es)

-- whatever is done behind
each_is : (es : List (ℕ × Subscription)) (w : Stage) (behind : List Encounter) → flat_map concerns_at behind ≡ [] → w.table.subscriptions ≡ es →
    map subscription_of (flat_map concerns_at (all_meet None call.Shutdown w (keys_of es) ++ behind)) ≡ keys_of es
each_is [] w behind none is = ap (map subscription_of) none
each_is (e ∷ es) w behind none is =
    ap (λ (fs : List Encounter). map subscription_of (flat_map concerns_at ((fs ++ all_meet None call.Shutdown (met w e.0 call.Shutdown) (keys_of es)) ++ behind))) (first_is w e.0 e.1 es is)
    ∙ ap (λ (ns : List ℕ). e.0 ∷ ns) (each_is es (met w e.0 call.Shutdown) behind none (first_gone w e.0 e.1 es is))

pub all_are_concerned : (config : Configuration) (moves : List Move) (clock : Moment) → let r = run config moves in
    map subscription_of (concerned r (Move.Shutdown clock)) ≡ keys_of r.subscriptions.table.subscriptions
all_are_concerned config moves clock = let r = run config moves in each_is r.subscriptions.table.subscriptions (stage_of r.subscriptions r.items clock) _ refl refl

-- ---- and none comes back, but by a call that makes one

abbrev StaysNone : Stage → List Encounter → Stage → Type 0
StaysNone w es v = w.table.subscriptions ≡ [] → v.table.subscriptions ≡ []

beside_none : (w : Stage) (b : Beside) → w.table.subscriptions ≡ [] → (beside w b).table.subscriptions ≡ []
unfolding named.all_refused
beside_none w (Acknowledges session acks) none =
    all_acknowledged session (λ (subscriptions : List (ℕ × Subscription)). subscriptions ≡ [])
    (λ subscriptions n number s found its is. let clash : None ≡ Some s = sym (ap (subscription_at n) is) ∙ found in absurd (cc)) acks w.table.subscriptions none
beside_none w b none = none

follows_none : Follows Any StaysNone
follows_none = record {
  rest = λ whose asked w n ns given. tt;
  none = λ w none. none;
  next = λ w v u es fs p q none. q (p none);
  passes = λ w n asked none. none;
  aside = λ w b fits none. beside_none w b none;
  one = λ whose asked w n ns s plain given meant found none. let clash : None ≡ Some s = sym (ap (subscription_at n) none) ∙ found in absurd (cc);
}

one_none : (r : Ran) (m : Move) → makes m ≡ false → r.subscriptions.table.subscriptions ≡ [] → (moved r m).subscriptions.table.subscriptions ≡ []
one_none r m plain none = ap (λ (t : TableState). t.subscriptions) (left_is r m).table ∙ walked_on Any StaysNone follows_none r m plain (any_begins r m) none

pub none_comes : (ms : List Move) (r : Ran) → AllByRecursion (λ (m : Move). makes m ≡ false) ms → r.subscriptions.table.subscriptions ≡ [] → (fold moved r ms).subscriptions.table.subscriptions ≡ []
none_comes [] r plain none = none
none_comes (m ∷ ms) r plain none = none_comes ms (moved r m) plain.1 (one_none r m plain.0 none)
