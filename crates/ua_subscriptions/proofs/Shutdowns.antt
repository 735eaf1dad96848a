-- A server's shutdown: a subscription that meets it is gone, and nothing is left in the end.
use Rattle.std.proofs.Common.{◌≡◌, ◌<◌, ℕ, Bool, true, cond, List, [], ◌∷◌, ◌++◌, length, Option, Some, None, Err, refl, arith, sym, ap, subst, ◌∙◌}
use Rattle.std.specs.BTreeMap.{is_at}
use Rattle.std.specs.Map.{keys_of, values_of, lookup, set_value, remove_entry}
use Rattle.std.specs.Ordering.{nat_cmp}
use Rattle.server_messages.specs.declared.halt.Halt.{Halt}
use Rattle.server_messages.specs.declared.halt.Halt.TheVariants.{Memory, Exhausted}
use Rattle.ua_monitored_items.specs.Items.{ItemsState}
use Rattle.collections.proofs.NumberMaps.{numbers_same}
use Rattle.ua_subscriptions.specs.declared.call.Call.TheVariants.{Shutdown}
use Rattle.ua_subscriptions.specs.declared.publish_call.PublishCall.{PublishCall}
use Rattle.ua_subscriptions.specs.declared.session_part.SessionSubscriptions.{SessionSubscriptions}
use Rattle.ua_subscriptions.specs.declared.subscription.Subscription.{Subscription}
use Rattle.ua_subscriptions.specs.declared.round.Round.{Round}
use Rattle.ua_subscriptions.specs.Ending.{all_requests, shut_down}
use Rattle.ua_subscriptions.specs.Firing.{fired, is_closed}
use Rattle.ua_subscriptions.specs.Queues.{first_of}
use Rattle.ua_subscriptions.specs.Scenes.{scene, row_done, is_overspent}
use Rattle.ua_subscriptions.specs.Tables.{Stage, no_table, with_call, scene_at, put_back, met_by, met, all_met, subscription_at, part_of, Meets}
use Rattle.ua_subscriptions.proofs.Places.{all_met_place}

-- ---- one subscription

-- whatever it was, it is closed
closed_then : (round : Round) (n : ℕ) (s : Subscription) (part : SessionSubscriptions) (items : ItemsState) → is_closed (fired (scene (with_call round n Shutdown) s part items)).subscription ≡ true
unfolding fired row_done
closed_then round n s part items = refl

module _ {X : Type 0} (n : ℕ) where
  removed_first : (v w : X) (es : List (ℕ × X)) → remove_entry (is_at (nat_cmp n)) (set_value (is_at (nat_cmp n)) ((n, v) ∷ es) w) ≡ es
  removed_first v w es =
      let same : is_at (nat_cmp n) n ≡ true = numbers_same n n refl in
      ap (λ (b : Bool). remove_entry (is_at (nat_cmp n)) (cond b ((n, w) ∷ es) ((n, v) ∷ set_value (is_at (nat_cmp n)) es w))) same
      ∙ ap (λ (b : Bool). cond b es ((n, w) ∷ remove_entry (is_at (nat_cmp n)) es)) same

  pub first_found : (v : X) (es : List (ℕ × X)) → lookup (is_at (nat_cmp n)) ((n, v) ∷ es) ≡ Some v
  first_found v es = rw (numbers_same n n refl) refl

gone_by : (w : Stage) (n : ℕ) (s : Subscription) (es : List (ℕ × Subscription)) → w.table.subscriptions ≡ (n, s) ∷ es → (met_by w n Shutdown (Some s)).table.subscriptions ≡ es
gone_by w n s es is =
    let t : Subscription = (fired (scene_at w n Shutdown s)).subscription in
    ap (λ (xs : List (ℕ × Subscription)). put_back n t xs) is
    ∙ ap (λ (b : Bool). cond b (remove_entry (is_at (nat_cmp n)) (set_value (is_at (nat_cmp n)) ((n, s) ∷ es) t)) (set_value (is_at (nat_cmp n)) ((n, s) ∷ es) t))
    (closed_then w.round n s (part_of s.session w.table.sessions) w.items)
    ∙ removed_first n s t es

-- the first one is gone
pub first_gone : (w : Stage) (n : ℕ) (s : Subscription) (es : List (ℕ × Subscription)) → w.table.subscriptions ≡ (n, s) ∷ es → (met w n Shutdown).table.subscriptions ≡ es
unfolding met
first_gone w n s es is =
    ap (λ (o : Option Subscription). (met_by w n Shutdown o).table.subscriptions) (ap (λ (xs : List (ℕ × Subscription)). subscription_at n xs) is ∙ first_found n s es)
    ∙ gone_by w n s es is

-- ---- all of them

all_gone : (es : List (ℕ × Subscription)) (w : Stage) → w.table.subscriptions ≡ es → (all_met Shutdown w (keys_of es)).table.subscriptions ≡ []
all_gone [] w is = is
all_gone (e ∷ es) w is = all_gone es (met w e.0 Shutdown) (first_gone w e.0 e.1 es is)

-- nothing is left
pub nothing_left : (w : Stage) → (shut_down w).table ≡ no_table
unfolding shut_down
nothing_left w = ap (λ (xs : List (ℕ × Subscription)). record { subscriptions = xs; sessions = [] }) (all_gone w.table.subscriptions w refl)

-- ---- the walk, which begins anew after each

abbrev pub all_closed : Stage → Stage
all_closed w = all_met Shutdown w (keys_of w.table.subscriptions)

closed_by : (es : List (ℕ × Subscription)) (w : Stage) (n : ℕ) → w.table.subscriptions ≡ es → first_of (keys_of es) ≡ Some n → all_met Shutdown w (keys_of es) ≡ all_closed (met w n Shutdown)
closed_by [] w n is first = absurd (cc)
closed_by (e ∷ es) w n is first =
    let same : e.0 ≡ n = cc in
    ap (λ (ns : List ℕ). all_met Shutdown (met w e.0 Shutdown) ns) (sym (ap keys_of (first_gone w e.0 e.1 es is)))
    ∙ ap (λ (k : ℕ). all_closed (met w k Shutdown)) same

pub first_closed : (w : Stage) (n : ℕ) → first_of (keys_of w.table.subscriptions) ≡ Some n → all_closed w ≡ all_closed (met w n Shutdown)
first_closed w n first = closed_by w.table.subscriptions w n refl first

fewer_by : (es : List (ℕ × Subscription)) (w : Stage) (n : ℕ) → w.table.subscriptions ≡ es → first_of (keys_of es) ≡ Some n → length (met w n Shutdown).table.subscriptions < length es
fewer_by [] w n is first = absurd (cc)
fewer_by (e ∷ es) w n is first =
    let same : e.0 ≡ n = cc in
    let left : (met w n Shutdown).table.subscriptions ≡ es = subst (λ (k : ℕ). (met w k Shutdown).table.subscriptions ≡ es) same (first_gone w e.0 e.1 es is) in
    grind (arith, ap length left)

pub fewer_left : (w : Stage) (n : ℕ) → first_of (keys_of w.table.subscriptions) ≡ Some n → length (met w n Shutdown).table.subscriptions < length w.table.subscriptions
fewer_left w n first = fewer_by w.table.subscriptions w n refl first

none_by : (es : List (ℕ × Subscription)) → first_of (keys_of es) ≡ None → es ≡ []
none_by [] first = refl
none_by (e ∷ es) first = absurd (cc)

-- where there is no first, there is none
pub none_first : (w : Stage) → first_of (keys_of w.table.subscriptions) ≡ None → w.table.subscriptions ≡ []
none_first w first = none_by w.table.subscriptions first

-- where one can't be served, all can't
pub close_stops : (halt : Halt) (w v new all : Stage) (n : ℕ) → all_closed v ≡ all_closed w → first_of (keys_of v.table.subscriptions) ≡ Some n →
    Meets {A = Unit} (Err halt) new (met v n Shutdown) → Meets {A = Unit} (Err halt) all (all_closed w)
close_stops Memory w v new all n so_far first h = tt
close_stops Exhausted w v new all n so_far first h =
    let after = met v n Shutdown in
    let is : all_closed after ≡ all_closed w = sym (first_closed v n first) ∙ so_far in
    subst (λ (x : Stage). is_overspent x.round ≡ true) is (grind (arith, h, all_met_place Shutdown (keys_of after.table.subscriptions) after))

-- ---- where nothing lives and none waits, nothing grows

pub both_none : (calls more : List PublishCall) → calls ++ more ≡ [] → (calls ≡ []) × (more ≡ [])
both_none [] more none = (refl, none)
both_none (x ∷ xs) more none = absurd (cc)

pub none_lives : (es : List (ℕ × Subscription)) (n : ℕ) → es ≡ [] → first_of (keys_of es) ≡ Some n → ⊥
none_lives [] n none first = absurd (cc)
none_lives (e ∷ es) n none first = absurd (cc)

-- the requests that wait are those that waited
pub none_waits : (w v : Stage) → v ≡ all_closed w → w.table.subscriptions ≡ [] → all_requests (values_of w.table.sessions) ≡ [] → all_requests (values_of v.table.sessions) ≡ []
none_waits w v is none calm =
    ap (λ (x : Stage). all_requests (values_of x.table.sessions)) (is ∙ ap (λ (es : List (ℕ × Subscription)). all_met Shutdown w (keys_of es)) none) ∙ calm
