-- Values by their times.
use Rattle.std.proofs.Common.{◌≡◌, ℤ, int_lt, Bool, true, false, cond, List, [], ◌∷◌, ◌++◌, Option, Some, None, if◌then◌else◌, refl, sym, ◌∙◌, ap, subst, inl, inr}
use Rattle.std.proofs.lemmas.Bool.{cases_Bool}
use Rattle.std.proofs.lemmas.Map.Lookups.{exact_signed}
use Rattle.std.specs.BTreeMap.{insert_entry, is_at}
use Rattle.std.specs.Cmp.{int_cmp_total}
use Rattle.std.specs.List.{AllByRecursion}
use Rattle.std.specs.List.Sorted.{IsStrictlySortedBy}
use Rattle.std.specs.Map.{keys_of, lookup, values_of}
use Rattle.std.specs.Option.{option_or}
use Rattle.std.specs.Ordering.{is_eq, int_cmp, match_ordering, ordering_reverse}
use Rattle.std.specs.declared.cmp.Ordering.{Ordering}
use Rattle.std.specs.declared.cmp.Ordering.TheVariants.{Less, Equal, Greater}
use Rattle.ua_types.specs.declared.moment.Moment.{Moment}
use Rattle.ua_types.specs.declared.data_value.DataValue.{DataValue}
use Rattle.ua_space.specs.Histories.{are_later, rises}
use Rattle.server_messages.specs.Kept.{Past, is_at_time, put_at}
use Rattle.store_restoring.specs.Opened.{AreTimed, Timed, has_added}
use Rattle.store_restoring.specs.Restored.{past_of}

abbrev moment_of : ℤ → Moment
moment_of time = record { 0 = time }

turned : (o p : Ordering) → o ≡ ordering_reverse p → is_eq o ≡ is_eq p
turned o Less e = ap is_eq e
turned o Equal e = ap is_eq e
turned o Greater e = ap is_eq e

at_time : (a b : ℤ) → is_eq (int_cmp a b) ≡ is_eq (int_cmp b a)
at_time a b = turned (int_cmp a b) (int_cmp b a) (int_cmp_total.antisymm a b)

-- a value is looked up by its time
pub past_looked_up : (es : Timed) (t : ℤ) → AreTimed es → past_of (values_of es) t ≡ lookup (is_at (int_cmp t)) es
past_looked_up [] t timed = refl
past_looked_up (e ∷ es) t timed =
    let rest = past_looked_up es t timed.1 in
    rw (timed.0, at_time e.0 t, rest) refl

-- ---- one more

timed_step : (o : Ordering) (e : ℤ × DataValue) (es rest : Timed) (k : ℤ) (v : DataValue) → (o ≡ Equal → k ≡ e.0) → v.source_time ≡ Some (moment_of k) → AreTimed (e ∷ es) → AreTimed rest
    → AreTimed (match_ordering o ((k, v) ∷ e ∷ es) ((e.0, v) ∷ es) (e ∷ rest))
timed_step Less e es rest k v same is timed more = (is, timed)
timed_step Equal e es rest k v same is timed more = (is ∙ ap (λ (x : ℤ). Some (moment_of x)) (same refl), timed.1)
timed_step Greater e es rest k v same is timed more = (timed.0, more)

pub still_timed : (es : Timed) (k : ℤ) (v : DataValue) → v.source_time ≡ Some (moment_of k) → AreTimed es → AreTimed (insert_entry int_cmp es k v)
still_timed [] k v is timed = (is, tt)
still_timed (e ∷ es) k v is timed =
    timed_step (int_cmp k e.0) e es (insert_entry int_cmp es k v) k v (exact_signed k e.0) is timed (still_timed es k v is timed.1)

-- ---- times rise

less : (a b : ℤ) → int_cmp a b ≡ Less → int_lt a b ≡ true
less a b h = by (int_lt a b) (int_lt b a) h
  where
    by : (x y : Bool) → cond x Less (cond y Greater Equal) ≡ Less → x ≡ true
    by true y e = refl
    by false true e = absurd cc
    by false false e = absurd cc

all_later : (k : ℤ) (es : Timed) → AreTimed es → AllByRecursion (λ y. int_cmp k y ≡ Less) (keys_of es) → are_later (Some (moment_of k)) (values_of es) ≡ true
all_later k [] timed later = refl
all_later k (e ∷ es) timed later = rw (timed.0, less k e.0 later.0, all_later k es timed.1 later.1) refl

pub timed_rise : (es : Timed) → AreTimed es → IsStrictlySortedBy int_cmp (keys_of es) → rises (values_of es) ≡ true
unfolding rises IsStrictlySortedBy
timed_rise [] timed sorted = refl
timed_rise (e ∷ es) timed sorted = rw (timed.0, all_later e.0 es timed.1 sorted.0, timed_rise es timed.1 sorted.1) refl

-- ---- values that are added, where there is none at their time

pub past_append : (vs : List DataValue) (v : DataValue) (t : ℤ) → past_of (vs ++ v ∷ []) t ≡ has_added v (past_of vs) t
past_append [] v t = refl
past_append (w ∷ ws) v t =
    elim (cases_Bool (is_at_time t w.source_time)) [
      | inl here ↦ rw here refl
      | inr apart ↦ rw apart (past_append ws v t)
    ]

-- one more value, put in at its time
pub past_put_in : (es now : Timed) (moment : Moment) (v : DataValue) (t : ℤ) → AreTimed es → AreTimed now → v.source_time ≡ Some moment
    → lookup (is_at (int_cmp t)) now ≡ cond (is_at (int_cmp moment.0) t) (Some v) (lookup (is_at (int_cmp t)) es) → past_of (values_of now) t ≡ put_at v.source_time v (past_of (values_of es)) t
past_put_in es now moment v t timed more time found =
    let P : Option Moment → Type 0 = λ x. cond (is_at (int_cmp moment.0) t) (Some v) (past_of (values_of es) t) ≡ put_at x v (past_of (values_of es)) t in
    let one : cond (is_at (int_cmp moment.0) t) (Some v) (past_of (values_of es) t) ≡ put_at v.source_time v (past_of (values_of es)) t = subst P (sym time) refl in
    past_looked_up now t more ∙ found ∙ ap (λ (o : Option DataValue). cond (is_at (int_cmp moment.0) t) (Some v) o) (sym (past_looked_up es t timed)) ∙ one

pub put_same : (time : Option Moment) (v : DataValue) (past other : Past) (t : ℤ) → past t ≡ other t → put_at time v past t ≡ put_at time v other t
put_same None v past other t e = e
put_same (Some moment) v past other t e = ap (λ (o : Option DataValue). if is_eq (int_cmp moment.0 t) then Some v else o) e

pub added_same : (v : DataValue) (past other : Past) (t : ℤ) → past t ≡ other t → has_added v past t ≡ has_added v other t
added_same v past other t e = ap (λ (o : Option DataValue). option_or o (past_of (v ∷ []) t)) e
