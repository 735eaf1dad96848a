-- What the fields of `Sessions` keep.
use Rattle.std.proofs.Common.{◌≡◌, ◌≢◌, ℕ, ◌<◌, ◌≤◌, arith, ◌≤ℤ◌, ◌<ℤ◌, ℤ, int_lt, List, [], ◌∷◌, Bool, true, false, cond, leb, Option, Some, None, is_some, refl, sym, ap, subst, ◌∙◌}
use Rattle.std.specs.Ordering.{nat_cmp, eq_by_cmp}
use Rattle.std.specs.Cmp.{nat_cmp_total}
use Rattle.std.specs.FinMap.{FinMap, get, insert, remove, entries, empty, get-empty, get-insert, get-remove}
use Rattle.std.proofs.lemmas.Bool.{false≢true, leb-false, leb-true}
use Rattle.collections.proofs.NumberMaps.{told_apart}
use Rattle.ua_types.specs.declared.moment.Moment.{Moment}
use Rattle.ua_session.specs.Points.{PointsState}
use Rattle.ua_session.specs.SessionTables.{due_in, IsNoneDueBefore}
use Rattle.ua_session.specs.Sessions.{SessionsState, AreHeld, without, at_clock, ended_at}
use Rattle.ua_session.specs.declared.session.Session.{Session}
use Rattle.ua_session.proofs.DueLemmas.{none_in_empty, none_in_put, none_in_removed, none_due}

pub held_in_empty : (earliest : Moment) (made : ℕ) → AreHeld earliest made empty
held_in_empty earliest made = record { due = none_in_empty earliest; fresh = λ n above. get-empty nat_cmp n }

-- a session that is held has a number that was given
pub number_given : (earliest : Moment) (made : ℕ) (m : FinMap nat_cmp Session) (n : ℕ) → AreHeld earliest made m → is_some (get m n) ≡ true → n ≤ made
number_given earliest made m n p held = by (leb n made) refl
  where
    by : (b : Bool) → leb n made ≡ b → n ≤ made
    by true e = leb-true n made e
    by false e = absurd (false≢true (sym (ap is_some (p.fresh n (leb-false n made e))) ∙ held))

-- one more session, or one in the place of another
pub held_with : (early late : Moment) (made more : ℕ) (m put : FinMap nat_cmp Session) (n : ℕ) (s : Session) → put ≡ insert m n s → early.0 ≤ℤ late.0 → early.0 ≤ℤ s.deadline.0 → n ≤ more → made ≤ more →
    AreHeld late made m → AreHeld early more put
held_with early late made more m put n s is p r given less h =
    record {
      due = none_in_put early late m put n s is p r h.due;
      fresh = λ q above.
          let other : q ≢ n = λ e. omega (arith, above, given, e) in
          ap (λ (k : FinMap nat_cmp Session). get k q) is ∙ get-insert nat_cmp_total m n s q ∙ ap (λ (b : Bool). cond b (Some s) (get m q)) (told_apart q n (nat_cmp q n) refl other) ∙ h.fresh q (omega (arith, above, less));
    }

gone : {A : Type 0} (b : Bool) (slot : Option A) → slot ≡ None → cond b None slot ≡ None
gone true slot e = refl
gone false slot e = e

pub held_without : (earliest : Moment) (made : ℕ) (m less : FinMap nat_cmp Session) (n : ℕ) → less ≡ remove m n → AreHeld earliest made m → AreHeld earliest made less
held_without earliest made m less n is h =
    subst (AreHeld earliest made) (sym is)
    (record { due = none_in_removed earliest m n h.due; fresh = λ q above. get-remove nat_cmp_total m n q ∙ gone (eq_by_cmp nat_cmp q n) (get m q) (h.fresh q above) })

pub held_without_all : (earliest : Moment) (made : ℕ) (m : FinMap nat_cmp Session) (numbers : List ℕ) → AreHeld earliest made m → AreHeld earliest made (without m numbers)
held_without_all earliest made m [] h = h
held_without_all earliest made m (n ∷ ns) h = held_without_all earliest made (remove m n) ns (held_without earliest made m (remove m n) n refl h)

-- a bound that was found anew
pub held_anew : (old new : Moment) (made : ℕ) (m less : FinMap nat_cmp Session) (numbers : List ℕ) → less ≡ without m numbers → IsNoneDueBefore new less → AreHeld old made m → AreHeld new made less
held_anew old new made m less numbers is due h =
    record { due = due; fresh = subst (λ (k : FinMap nat_cmp Session). (q : ℕ) → made < q → get k q ≡ None) (sym is) (held_without_all old made m numbers h).fresh }

nobody : {V : Type 0} (m : FinMap nat_cmp V) (numbers : List ℕ) → numbers ≡ [] → without m numbers ≡ m
nobody m numbers e = ap (without m) e

is_less : (a b : ℤ) → int_lt a b ≡ true → a <ℤ b
is_less a b e = grind (arith, e)

-- before the bound, a tick ends none
pub none_ended : (earliest : Moment) (made : ℕ) (m : FinMap nat_cmp Session) (clock : Moment) → int_lt clock.0 earliest.0 ≡ true → AreHeld earliest made m → due_in clock (entries m) ≡ []
none_ended earliest made m clock before h = none_due earliest m clock (is_less clock.0 earliest.0 before) h.due

-- and brings the clock alone
pub clock_alone : (s : SessionsState) (earliest clock : Moment) → int_lt clock.0 earliest.0 ≡ true → AreHeld earliest s.made s.sessions → record s { clock = clock } ≡ at_clock s clock
clock_alone s earliest clock before h =
    let none = none_ended earliest s.made s.sessions clock before h in
    ap (λ (m : FinMap nat_cmp Session). record s { clock = clock; sessions = m }) (sym (nobody s.sessions (ended_at s clock) none))
    ∙ ap (λ (m : FinMap nat_cmp PointsState). record s { clock = clock; sessions = without s.sessions (ended_at s clock); points = m }) (sym (nobody s.points (ended_at s clock) none))
