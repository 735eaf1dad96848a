-- When sessions are due.
use Rattle.std.proofs.Common.{◌≡◌, ℕ, ℤ, ◌≤ℤ◌, ◌<ℤ◌, int_le, arith, Bool, true, false, cond, List, [], ◌∷◌, Option, Some, None, IfSome, refl, sym, ap, subst, ◌∙◌}
use Rattle.std.specs.Prelude.{◌&&◌, T}
use Rattle.std.specs.List.{AllByRecursion}
use Rattle.std.specs.Ordering.{nat_cmp, eq_by_cmp, is_eq, is_lt}
use Rattle.std.specs.declared.cmp.Ordering.{Ordering}
use Rattle.std.specs.declared.cmp.Ordering.TheVariants.{Less, Equal, Greater}
use Rattle.std.specs.Cmp.{nat_cmp_total, eq_by_cmp_equiv}
use Rattle.std.specs.FinMap.{FinMap, get, insert, remove, entries, empty, get-empty, get-insert, get-remove, get-entries, entries_sorted, is_sorted, find}
use Rattle.std.specs.FinMap.Entries.{below_all}
use Rattle.collections.proofs.NumberMaps.{same_number}
use Rattle.ua_types.specs.declared.moment.Moment.{Moment}
use Rattle.ua_session.specs.SessionTables.{due_in, IsNoneDueBefore}
use Rattle.ua_session.specs.declared.session.Session.{Session}

-- no deadline of these sessions lies before the moment
abbrev pub NoneBefore : ℤ → List (ℕ × Session) → Type 0
NoneBefore bound es = AllByRecursion (λ (e : ℕ × Session). bound ≤ℤ e.1.deadline.0) es

by_cond : (P : Session → Type 0) (b : Bool) (s : Session) (rest : Option Session) → P s → IfSome rest P → IfSome (cond b (Some s) rest) P
by_cond P true s rest p q = p
by_cond P false s rest p q = q

without_cond : (P : Session → Type 0) (b : Bool) (rest : Option Session) → IfSome rest P → IfSome (cond b None rest) P
without_cond P true rest q = tt
without_cond P false rest q = q

-- ---- maps that change

pub none_in_empty : (earliest : Moment) → IsNoneDueBefore earliest empty
none_in_empty earliest n = subst (λ (o : Option Session). IfSome o (λ s. earliest.0 ≤ℤ s.deadline.0)) (sym (get-empty nat_cmp n)) tt

pub none_in_inserted : (earliest : Moment) (m : FinMap nat_cmp Session) (n : ℕ) (s : Session) → earliest.0 ≤ℤ s.deadline.0 → IsNoneDueBefore earliest m → IsNoneDueBefore earliest (insert m n s)
none_in_inserted earliest m n s p h q =
    subst (λ (o : Option Session). IfSome o (λ t. earliest.0 ≤ℤ t.deadline.0)) (sym (get-insert nat_cmp_total m n s q)) (by_cond (λ t. earliest.0 ≤ℤ t.deadline.0) (eq_by_cmp nat_cmp q n) s (get m q) p (h q))

pub none_in_removed : (earliest : Moment) (m : FinMap nat_cmp Session) (n : ℕ) → IsNoneDueBefore earliest m → IsNoneDueBefore earliest (remove m n)
none_in_removed earliest m n h q =
    subst (λ (o : Option Session). IfSome o (λ t. earliest.0 ≤ℤ t.deadline.0)) (sym (get-remove nat_cmp_total m n q)) (without_cond (λ t. earliest.0 ≤ℤ t.deadline.0) (eq_by_cmp nat_cmp q n) (get m q) (h q))

weaker : (a b : ℤ) (slot : Option Session) → a ≤ℤ b → IfSome slot (λ s. b ≤ℤ s.deadline.0) → IfSome slot (λ s. a ≤ℤ s.deadline.0)
weaker a b None p h = tt
weaker a b (Some s) p h = grind (arith, p, h)

pub none_in_weaker : (early late : Moment) (m : FinMap nat_cmp Session) → early.0 ≤ℤ late.0 → IsNoneDueBefore late m → IsNoneDueBefore early m
none_in_weaker early late m p h q = weaker early.0 late.0 (get m q) p (h q)

-- one more session, or one in the place of another, under an earlier bound
pub none_in_put : (early late : Moment) (m put : FinMap nat_cmp Session) (n : ℕ) (s : Session) → put ≡ insert m n s → early.0 ≤ℤ late.0 → early.0 ≤ℤ s.deadline.0 → IsNoneDueBefore late m → IsNoneDueBefore early put
none_in_put early late m put n s is p r h = subst (IsNoneDueBefore early) (sym is) (none_in_inserted early m n s r (none_in_weaker early late m p h))

-- ---- entries and numbers

found_in : (bound : ℤ) (q : ℕ) (es : List (ℕ × Session)) → NoneBefore bound es → IfSome (find nat_cmp q es) (λ s. bound ≤ℤ s.deadline.0)
found_in bound q [] h = tt
found_in bound q (e ∷ es) h = by_cond (λ s. bound ≤ℤ s.deadline.0) (eq_by_cmp nat_cmp q e.0) e.1 (find nat_cmp q es) h.0 (found_in bound q es h.1)

pub points_from_all : (earliest : Moment) (m : FinMap nat_cmp Session) → NoneBefore earliest.0 (entries m) → IsNoneDueBefore earliest m
points_from_all earliest m h q = subst (λ (o : Option Session). IfSome o (λ s. earliest.0 ≤ℤ s.deadline.0)) (sym (get-entries m q)) (found_in earliest.0 q (entries m) h)

first_of : (a b : Bool) → T (a && b) → T a
first_of true b p = tt
first_of false b p = p

second_of : (a b : Bool) → T (a && b) → T b
second_of true b p = p
second_of false b p = absurd p

lower : (o : Ordering) → T (is_lt o) → is_eq o ≡ false
lower Less p = refl
lower Equal p = absurd p
lower Greater p = absurd p

-- a number below all entries is none of theirs
not_below : (k : ℕ) (es : List (ℕ × Session)) → T (below_all nat_cmp k es) → find nat_cmp k es ≡ None
not_below k [] h = refl
not_below k (e ∷ es) h =
    ap (λ (b : Bool). cond b (Some e.1) (find nat_cmp k es)) (lower (nat_cmp k e.0) (first_of (is_lt (nat_cmp k e.0)) (below_all nat_cmp k es) h))
    ∙ not_below k es (second_of (is_lt (nat_cmp k e.0)) (below_all nat_cmp k es) h)

module _ (P : Session → Type 0) where
  later_ones : (q : ℕ) (e : ℕ × Session) (es : List (ℕ × Session)) → T (below_all nat_cmp e.0 es) → (b : Bool) → eq_by_cmp nat_cmp q e.0 ≡ b → IfSome (cond b (Some e.1) (find nat_cmp q es)) P → IfSome (find nat_cmp q es) P
  later_ones q e es below true is h =
      subst (λ (o : Option Session). IfSome o P) (sym (subst (λ (k : ℕ). find nat_cmp k es ≡ None) (sym (same_number q e.0 is)) (not_below e.0 es below))) tt
  later_ones q e es below false is h = h

  all_from_points : (es : List (ℕ × Session)) → T (is_sorted nat_cmp es) → ((q : ℕ) → IfSome (find nat_cmp q es) P) → AllByRecursion (λ (e : ℕ × Session). P e.1) es
  all_from_points [] h f = tt
  all_from_points (e ∷ es) h f = (
    subst (λ (b : Bool). IfSome (cond b (Some e.1) (find nat_cmp e.0 es)) P) ((eq_by_cmp_equiv nat_cmp_total).refl e.0) (f e.0),
    all_from_points es (second_of (below_all nat_cmp e.0 es) (is_sorted nat_cmp es) h)
        (λ q. later_ones q e es (first_of (below_all nat_cmp e.0 es) (is_sorted nat_cmp es) h) (eq_by_cmp nat_cmp q e.0) refl (f q)),
  )

not_due : (clock deadline bound : ℤ) → clock <ℤ bound → bound ≤ℤ deadline → int_le deadline clock ≡ false
not_due clock deadline bound p q = grind (arith, p, q)

no_one : (clock : Moment) (bound : ℤ) → clock.0 <ℤ bound → (es : List (ℕ × Session)) → NoneBefore bound es → due_in clock es ≡ []
no_one clock bound p [] h = refl
no_one clock bound p (e ∷ es) h =
    ap (λ (b : Bool). cond b (e.0 ∷ due_in clock es) (due_in clock es)) (not_due clock.0 e.1.deadline.0 bound p h.0) ∙ no_one clock bound p es h.1

-- before that moment, none is due
pub none_due : (earliest : Moment) (m : FinMap nat_cmp Session) (clock : Moment) → clock.0 <ℤ earliest.0 → IsNoneDueBefore earliest m → due_in clock (entries m) ≡ []
none_due earliest m clock p h =
    no_one clock earliest.0 p (entries m) (all_from_points (λ s. earliest.0 ≤ℤ s.deadline.0) (entries m) (entries_sorted m)
    (λ q. subst (λ (o : Option Session). IfSome o (λ s. earliest.0 ≤ℤ s.deadline.0)) (get-entries m q) (h q)))
