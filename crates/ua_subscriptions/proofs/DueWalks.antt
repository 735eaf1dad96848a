-- What the order of the moments says of those that are due.
use Rattle.std.proofs.Common.{◌≡◌, ℕ, Bool, true, false, ◌||◌, ◌&&◌, cond, List, [], ◌∷◌, ◌++◌, Some, refl, sym, ap, subst, ◌∙◌, arith, All}
use Rattle.std.proofs.lemmas.Int.{ints}
use Rattle.std.proofs.lemmas.List.Elements.{recursion_from_All}
use Rattle.std.specs.Prelude.{map}
use Rattle.std.specs.Borrow.{Bor}
use Rattle.std.specs.Map.Iter.{deref}
use Rattle.std.specs.List.{AllByRecursion, slice_get}
use Rattle.std.specs.List.Sorted.{IsStrictlySortedBy}
use Rattle.std.specs.BTreeMap.{is_at}
use Rattle.std.specs.BTreeMap.Range.{IsLeBy}
use Rattle.std.specs.Ordering.{nat_cmp, is_gt}
use Rattle.std.specs.declared.cmp.Ordering.TheVariants.{Less}
use Rattle.ua_types.specs.declared.moment.Moment.{Moment}
use Rattle.ua_subscriptions.specs.declared.due_list.Due.{Due}
use Rattle.ua_subscriptions.specs.DueLists.{due_cmp, is_past, any_past, past_at}

-- what comes no earlier is due no earlier
later : (clock : Moment) (a b : Due) → is_gt (due_cmp a b) ≡ false → is_past clock a ≡ false → is_past clock b ≡ false
later clock a b before late = grind (arith, ints)

below : (clock : Moment) (a b : Due) → due_cmp a b ≡ Less → is_past clock a ≡ false → is_past clock b ≡ false
below clock a b before late = later clock a b (ap is_gt before) late

-- ---- the first tells of all

none_by : (b c : Bool) → b ≡ false → c ≡ false → (b || c) ≡ false
none_by b c e f = rw (e, f) refl

all_late : (clock : Moment) (a : Due) (dues : List Due) → is_past clock a ≡ false → AllByRecursion (λ q. is_gt (due_cmp a q) ≡ false) dues → any_past clock dues ≡ false
all_late clock a [] late h = refl
all_late clock a (d ∷ ds) late h = none_by (is_past clock d) (any_past clock ds) (later clock a d h.0 late) (all_late clock a ds late h.1)

pub any_by_first : (clock : Moment) (dues : List Due) (first : Due) → slice_get dues 0 ≡ Some first → All (IsLeBy due_cmp first) dues → is_past clock first ≡ any_past clock dues
any_by_first clock [] first e h = absurd (cc)
any_by_first clock (d ∷ ds) first e h = by (is_past clock first) refl
  where
    same : d ≡ first
    same = cc e

    by : (b : Bool) → is_past clock first ≡ b → b ≡ any_past clock (d ∷ ds)
    by true due = sym (ap (λ (x : Bool). x || any_past clock ds) (ap (is_past clock) same ∙ due))
    by false late = sym (all_late clock first (d ∷ ds) late (recursion_from_All _ (d ∷ ds) h))

-- ---- those that were passed

pub any_push : (clock : Moment) (dues : List Due) (d : Due) (n : ℕ) (o w : Bool)
    → is_past clock d ≡ true → o ≡ past_at clock dues n → w ≡ cond (is_at (nat_cmp d.number) n) true o → w ≡ past_at clock (dues ++ d ∷ []) n
any_push clock dues d n o w due old new = new ∙ ap (cond (is_at (nat_cmp d.number) n) true) old ∙ by dues
  where
    one : (a b : Bool) → a ≡ true → cond b true false ≡ (a && b || false)
    one true true e = refl
    one true false e = refl
    one false b e = absurd (cc)

    more : (a b rest : Bool) → cond b true (a || rest) ≡ (a || cond b true rest)
    more true true rest = refl
    more true false rest = refl
    more false b rest = refl

    by : (ds : List Due) → cond (is_at (nat_cmp d.number) n) true (past_at clock ds n) ≡ past_at clock (ds ++ d ∷ []) n
    by [] = one (is_past clock d) (is_at (nat_cmp d.number) n) due
    by (e ∷ es) =
        more (is_past clock e && is_at (nat_cmp e.number) n) (is_at (nat_cmp d.number) n) (past_at clock es n)
        ∙ ap (λ (x : Bool). is_past clock e && is_at (nat_cmp e.number) n || x) (by es)

late_in : (clock : Moment) (a : Due) (dues : List Due) (n : ℕ) → is_past clock a ≡ false → AllByRecursion (λ q. due_cmp a q ≡ Less) dues → past_at clock dues n ≡ false
late_in clock a [] n late h = refl
late_in clock a (d ∷ ds) n late h =
    none_by (is_past clock d && is_at (nat_cmp d.number) n) (past_at clock ds n) (ap (λ (x : Bool). x && is_at (nat_cmp d.number) n) (below clock a d h.0 late)) (late_in clock a ds n late h.1)

-- behind one whose moment hasn't come no other has
pub rest_is_late : (clock : Moment) (dues : List Due) (a : Due) (rest : List Due) (n : ℕ) → IsStrictlySortedBy due_cmp (dues ++ a ∷ rest) → is_past clock a ≡ false
    → past_at clock dues n ≡ past_at clock (dues ++ a ∷ rest) n
unfolding IsStrictlySortedBy
rest_is_late clock [] a rest n sorted late =
    sym (none_by (is_past clock a && is_at (nat_cmp a.number) n) (past_at clock rest n) (ap (λ (x : Bool). x && is_at (nat_cmp a.number) n) late) (late_in clock a rest n late sorted.0))
rest_is_late clock (d ∷ ds) a rest n sorted late = ap (λ (x : Bool). is_past clock d && is_at (nat_cmp d.number) n || x) (rest_is_late clock ds a rest n sorted.1 late)

-- the walk stops at the first one that isn't due
pub passed : (clock : Moment) (keys : List Due) (xs : List (Bor Due)) (s t u : List Due) (x : Bor Due) (n : ℕ)
    → s ≡ keys → s ≡ map deref xs ++ t → t ≡ deref x ∷ u → IsStrictlySortedBy due_cmp keys → is_past clock (deref x) ≡ false
    → past_at clock (map deref xs) n ≡ past_at clock keys n
passed clock keys xs s t u x n start so_far next sorted late =
    let e : keys ≡ map deref xs ++ deref x ∷ u = sym start ∙ so_far ∙ ap (λ (l : List Due). map deref xs ++ l) next in
    rest_is_late clock (map deref xs) (deref x) u n (subst (IsStrictlySortedBy due_cmp) e sorted) late ∙ ap (λ (l : List Due). past_at clock l n) (sym e)
