-- The list of moments tells which subscriptions are due.
use Rattle.std.proofs.Common.{◌≡◌, ◌≢◌, ℕ, ℤ, Bool, true, false, ◌||◌, ◌&&◌, cond, List, [], ◌∷◌, Option, Some, None, fold, option_map, refl, sym, ap, subst, ◌∙◌, arith}
use Rattle.std.proofs.lemmas.Int.{ints}
use Rattle.std.proofs.lemmas.Cmp.{nat_cmp_total}
use Rattle.std.proofs.lemmas.Map.Lookups.{btree_set_from_contains, exact_unsigned}
use Rattle.std.specs.List.{list_any, AllByRecursion}
use Rattle.std.specs.List.Sorted.{IsStrictlySortedBy}
use Rattle.std.specs.BTreeMap.{is_at}
use Rattle.std.specs.BTreeSet.{BTreeSet, contains}
use Rattle.std.specs.Map.{keys_of}
use Rattle.std.specs.Ordering.{nat_cmp, int_cmp, int_eq, is_eq, ordering_then}
use Rattle.std.specs.declared.cmp.Ordering.{Ordering}
use Rattle.std.specs.declared.cmp.Ordering.TheVariants.{Less, Equal, Greater}
use Rattle.ua_types.specs.declared.moment.Moment.{Moment}
use Rattle.collections.proofs.NumberMaps.{same_number, numbers_same}
use Rattle.ua_subscriptions.specs.declared.due_list.Due.{Due}
use Rattle.ua_subscriptions.specs.declared.ranks.Rank.{Rank}
use Rattle.ua_subscriptions.specs.declared.subscription.Subscription.{Subscription}
use Rattle.ua_subscriptions.specs.DueLists.{due_at, due_cmp, has_due, has_moved, is_past, any_past, past_at, is_moment, AreListed, rising_due, rank_by, with_rank_at, ranks_at}
use Rattle.ua_subscriptions.specs.Ranks.{is_due, is_due_at, is_any_due, with_due, due_of, with_rank, rank_of}
use Rattle.ua_subscriptions.specs.Tables.{subscription_at}
use Rattle.ua_subscriptions.proofs.MapEntries.{AreFound, all_found}

-- ---- what the orders tell apart

number_itself : (n : ℕ) → is_at (nat_cmp n) n ≡ true
number_itself n = numbers_same n n refl

-- both are at one moment, and of one number
pub at_parts : (m : Moment) (n : ℕ) (q : Due) → is_at (due_cmp (due_at m n)) q ≡ (int_eq m.0 q.moment.0 && is_at (nat_cmp n) q.number)
at_parts m n q = by (nat_cmp n q.number)
  where
    by : (o : Ordering) → is_eq (ordering_then (int_cmp m.0 q.moment.0) o) ≡ (int_eq m.0 q.moment.0 && is_eq o)
    by Less = grind (arith, ints)
    by Equal = grind (arith, ints)
    by Greater = grind (arith, ints)

same_int : (a b : ℤ) → int_eq a b ≡ true → a ≡ b
same_int a b h = grind (arith, ints)

int_itself : (a : ℤ) → int_eq a a ≡ true
int_itself a = grind (arith, ints)

moment_by : ℤ → Moment
moment_by x = record { 0 = x }

both_true : (a b : Bool) → (a && b) ≡ true → (a ≡ true) × (b ≡ true)
both_true true true h = (refl, refl)
both_true true false h = absurd (cc)
both_true false b h = absurd (cc)

same_due : (q d : Due) → is_at (due_cmp q) d ≡ true → q ≡ d
unfolding moment_by
same_due q d h =
    let both = both_true (int_eq q.moment.0 d.moment.0) (is_at (nat_cmp q.number) d.number) (sym (at_parts q.moment q.number d) ∙ h) in
    ap (λ (x : ℤ). due_at (moment_by x) q.number) (same_int q.moment.0 d.moment.0 both.0) ∙ ap (λ (n : ℕ). due_at d.moment n) (same_number q.number d.number both.1)

due_itself : (d : Due) → is_at (due_cmp d) d ≡ true
due_itself d = at_parts d.moment d.number d ∙ rw (int_itself d.moment.0, number_itself d.number) refl

or_right : (a b : Bool) → b ≡ true → (a || b) ≡ true
or_right true b h = refl
or_right false b h = h

-- ---- a moment in the list that has come, by its number

record IsWitness (clock : Moment) (dues : List Due) (n : ℕ) : Type 0 where
  witness : Due
  there : has_due dues witness ≡ true
  past : is_past clock witness ≡ true
  number : witness.number ≡ n

witness_in : (clock : Moment) (dues : List Due) (n : ℕ) → past_at clock dues n ≡ true → IsWitness clock dues n
witness_in clock [] n h = absurd (cc)
witness_in clock (d ∷ ds) n h = by (is_past clock d) (is_at (nat_cmp d.number) n) refl refl h (witness_in clock ds n)
  where
    more : IsWitness clock ds n → IsWitness clock (d ∷ ds) n
    more w = record { witness = w.witness; there = or_right (is_at (due_cmp w.witness) d) (has_due ds w.witness) w.there; past = w.past; number = w.number }

    by : (a b : Bool) → is_past clock d ≡ a → is_at (nat_cmp d.number) n ≡ b → (a && b || past_at clock ds n) ≡ true → (past_at clock ds n ≡ true → IsWitness clock ds n) → IsWitness clock (d ∷ ds) n
    by true true past at h rest = record { witness = d; there = rw (due_itself d) refl; past = past; number = same_number d.number n at }
    by true false past at h rest = more (rest h)
    by false b past at h rest = more (rest h)

found_in : (clock : Moment) (dues : List Due) (q : Due) → has_due dues q ≡ true → is_past clock q ≡ true → past_at clock dues q.number ≡ true
found_in clock [] q there past = absurd (cc)
found_in clock (d ∷ ds) q there past = by (is_at (due_cmp q) d) refl there (λ h. found_in clock ds q h past)
  where
    by : (b : Bool) → is_at (due_cmp q) d ≡ b → (b || has_due ds q) ≡ true → (has_due ds q ≡ true → past_at clock ds q.number ≡ true) → past_at clock (d ∷ ds) q.number ≡ true
    by true at h rest = subst (λ (e : Due). past_at clock (e ∷ ds) q.number ≡ true) (same_due q d at) (rw (past, number_itself q.number) refl)
    by false at h rest = or_right (is_past clock d && is_at (nat_cmp d.number) q.number) (past_at clock ds q.number) (rest h)

both_ways : (a b : Bool) → (a ≡ true → b ≡ true) → (b ≡ true → a ≡ true) → a ≡ b
both_ways true b f g = sym (f refl)
both_ways false true f g = g refl
both_ways false false f g = refl

-- the timer of the subscription of a number is due
abbrev is_due_by : Moment → Option Subscription → Bool
is_due_by clock None = false
is_due_by clock (Some s) = is_due clock s

due_by_moment : (clock m : Moment) (o : Option Subscription) → is_moment m o ≡ true → is_due_by clock o ≡ is_past clock (due_at m 0)
unfolding moment_by
due_by_moment clock m None h = absurd (cc)
due_by_moment clock m (Some s) h = ap (λ (x : ℤ). is_past clock (due_at (moment_by x) 0)) (same_int s.due.0 m.0 h)

module _ (subscriptions : List (ℕ × Subscription)) (dues : List Due) (listed : AreListed subscriptions dues) where
  -- the timer of a number is due where the list has a moment for it that has come
  pub past_is_due : (clock : Moment) (n : ℕ) → past_at clock dues n ≡ is_due_by clock (subscription_at n subscriptions)
  past_is_due clock n = both_ways (past_at clock dues n) (is_due_by clock (subscription_at n subscriptions)) to from
    where
      to : past_at clock dues n ≡ true → is_due_by clock (subscription_at n subscriptions) ≡ true
      to h =
          let w = witness_in clock dues n h in
          let d = w.witness in
          let due : is_due_by clock (subscription_at d.number subscriptions) ≡ true = due_by_moment clock d.moment (subscription_at d.number subscriptions) (sym (listed d) ∙ w.there) ∙ w.past in
          subst (λ (k : ℕ). is_due_by clock (subscription_at k subscriptions) ≡ true) w.number due

      from_by : (o : Option Subscription) → subscription_at n subscriptions ≡ o → is_due_by clock o ≡ true → past_at clock dues n ≡ true
      from_by None is h = absurd (cc)
      from_by (Some s) is h = found_in clock dues (due_at s.due n) (listed (due_at s.due n) ∙ ap (is_moment s.due) is ∙ int_itself s.due.0) h

      from : is_due_by clock (subscription_at n subscriptions) ≡ true → past_at clock dues n ≡ true
      from h = from_by (subscription_at n subscriptions) refl h

-- ---- the numbers of those that are due, as a rising list

abbrev Above : ℕ → List ℕ → Type 0
Above k ns = AllByRecursion (λ n. nat_cmp k n ≡ Less) ns

above_due : (clock : Moment) (k : ℕ) (subscriptions : List (ℕ × Subscription)) → Above k (keys_of subscriptions) → Above k (rising_due clock subscriptions)
above_due clock k [] h = tt
above_due clock k (e ∷ es) h = by (is_due_at clock e) h.0 (above_due clock k es h.1)
  where
    by : (b : Bool) → nat_cmp k e.0 ≡ Less → Above k (rising_due clock es) → Above k (cond b (e.0 ∷ rising_due clock es) (rising_due clock es))
    by true first rest = (first, rest)
    by false first rest = rest

due_rise : (clock : Moment) (subscriptions : List (ℕ × Subscription)) → IsStrictlySortedBy nat_cmp (keys_of subscriptions) → IsStrictlySortedBy nat_cmp (rising_due clock subscriptions)
unfolding IsStrictlySortedBy
due_rise clock [] h = tt
due_rise clock (e ∷ es) h = by (is_due_at clock e) (above_due clock e.0 es h.0) (due_rise clock es h.1)
  where
    by : (b : Bool) → Above e.0 (rising_due clock es) → IsStrictlySortedBy nat_cmp (rising_due clock es) → IsStrictlySortedBy nat_cmp (cond b (e.0 ∷ rising_due clock es) (rising_due clock es))
    by true first rest = (first, rest)
    by false first rest = rest

not_there : (k : ℕ) (ns : List ℕ) → Above k ns → list_any (is_at (nat_cmp k)) ns ≡ false
not_there k [] h = refl
not_there k (n ∷ ns) h = rw (h.0, not_there k ns h.1) refl

-- a number is among them where its timer is due
due_has : (clock : Moment) (n : ℕ) (subscriptions : List (ℕ × Subscription)) → IsStrictlySortedBy nat_cmp (keys_of subscriptions)
    → list_any (is_at (nat_cmp n)) (rising_due clock subscriptions) ≡ is_due_by clock (subscription_at n subscriptions)
unfolding IsStrictlySortedBy
due_has clock n [] h = refl
due_has clock n (e ∷ es) h = by (is_due_at clock e) (is_at (nat_cmp n) e.0) refl refl (due_has clock n es h.1)
  where
    rest_lacks : is_at (nat_cmp n) e.0 ≡ true → list_any (is_at (nat_cmp n)) (rising_due clock es) ≡ false
    rest_lacks at = subst (λ (k : ℕ). list_any (is_at (nat_cmp k)) (rising_due clock es) ≡ false) (sym (same_number n e.0 at)) (not_there e.0 (rising_due clock es) (above_due clock e.0 es h.0))

    by : (a b : Bool) → is_due_at clock e ≡ a → is_at (nat_cmp n) e.0 ≡ b
        → list_any (is_at (nat_cmp n)) (rising_due clock es) ≡ is_due_by clock (subscription_at n es)
        → list_any (is_at (nat_cmp n)) (cond a (e.0 ∷ rising_due clock es) (rising_due clock es)) ≡ is_due_by clock (cond b (Some e.1) (subscription_at n es))
    by true true due at ih = rw (at, due) refl
    by true false due at ih = rw at ih
    by false true due at ih = rest_lacks at ∙ sym due
    by false false due at ih = ih

-- what the list gives are the numbers of those that are due
pub numbers_are_due : (clock : Moment) (subscriptions : List (ℕ × Subscription)) (dues : List Due) (numbers : BTreeSet ℕ)
    → AreListed subscriptions dues → IsStrictlySortedBy nat_cmp (keys_of subscriptions) → IsStrictlySortedBy nat_cmp numbers.keys
    → ((n : ℕ) → contains nat_cmp numbers n ≡ past_at clock dues n) → numbers.keys ≡ rising_due clock subscriptions
numbers_are_due clock subscriptions dues numbers listed rising ordered same =
    let due : BTreeSet ℕ = record { keys = rising_due clock subscriptions } in
    btree_set_from_contains nat_cmp_total numbers due ordered (due_rise clock subscriptions rising)
    (λ n. same n ∙ past_is_due subscriptions dues listed clock n ∙ sym (due_has clock n subscriptions rising)) exact_unsigned

-- ---- whether one is due

-- one that is due is found among all
found_due : (clock : Moment) (n : ℕ) (subscriptions : List (ℕ × Subscription)) → is_due_by clock (subscription_at n subscriptions) ≡ true → is_any_due clock subscriptions ≡ true
found_due clock n [] h = absurd (cc)
found_due clock n (e ∷ es) h = by (is_at (nat_cmp n) e.0) h (found_due clock n es)
  where
    by : (b : Bool) → is_due_by clock (cond b (Some e.1) (subscription_at n es)) ≡ true → (is_due_by clock (subscription_at n es) ≡ true → is_any_due clock es ≡ true) → (is_due_at clock e || is_any_due clock es) ≡ true
    by true h rest = rw h refl
    by false h rest = or_right (is_due_at clock e) (is_any_due clock es) (rest h)

any_witness : (clock : Moment) (dues : List Due) → any_past clock dues ≡ true → (n : ℕ) × (past_at clock dues n ≡ true)
any_witness clock [] h = absurd (cc)
any_witness clock (d ∷ ds) h = by (is_past clock d) refl h (any_witness clock ds)
  where
    by : (b : Bool) → is_past clock d ≡ b → (b || any_past clock ds) ≡ true → (any_past clock ds ≡ true → (n : ℕ) × (past_at clock ds n ≡ true)) → (n : ℕ) × (past_at clock (d ∷ ds) n ≡ true)
    by true past h rest = (d.number, rw (past, number_itself d.number) refl)
    by false past h rest = let w = rest h in (w.0, or_right (is_past clock d && is_at (nat_cmp d.number) w.0) (past_at clock ds w.0) w.1)

any_past_in : (clock : Moment) (dues : List Due) (q : Due) → has_due dues q ≡ true → is_past clock q ≡ true → any_past clock dues ≡ true
any_past_in clock [] q there past = absurd (cc)
any_past_in clock (d ∷ ds) q there past = by (is_at (due_cmp q) d) refl there (λ h. any_past_in clock ds q h past)
  where
    by : (b : Bool) → is_at (due_cmp q) d ≡ b → (b || has_due ds q) ≡ true → (has_due ds q ≡ true → any_past clock ds ≡ true) → any_past clock (d ∷ ds) ≡ true
    by true at h rest = subst (λ (e : Due). any_past clock (e ∷ ds) ≡ true) (same_due q d at) (rw past refl)
    by false at h rest = or_right (is_past clock d) (any_past clock ds) (rest h)

any_due_found : (clock : Moment) (all es : List (ℕ × Subscription)) (dues : List Due) → AreListed all dues → AreFound all es → is_any_due clock es ≡ true → any_past clock dues ≡ true
any_due_found clock all [] dues listed found h = absurd (cc)
any_due_found clock all (e ∷ es) dues listed found h = by (is_due_at clock e) refl h (any_due_found clock all es dues listed found.1)
  where
    by : (b : Bool) → is_due_at clock e ≡ b → (b || is_any_due clock es) ≡ true → (is_any_due clock es ≡ true → any_past clock dues ≡ true) → any_past clock dues ≡ true
    by true due h rest =
        any_past_in clock dues (due_at e.1.due e.0) (listed (due_at e.1.due e.0) ∙ ap (is_moment e.1.due) found.0 ∙ int_itself e.1.due.0) due
    by false due h rest = rest h

-- the list tells whether one is due
pub any_is_due : (clock : Moment) (subscriptions : List (ℕ × Subscription)) (dues : List Due) → AreListed subscriptions dues → IsStrictlySortedBy nat_cmp (keys_of subscriptions)
    → any_past clock dues ≡ is_any_due clock subscriptions
any_is_due clock subscriptions dues listed rising = both_ways (any_past clock dues) (is_any_due clock subscriptions) to (any_due_found clock subscriptions subscriptions dues listed (all_found subscriptions rising))
  where
    to : any_past clock dues ≡ true → is_any_due clock subscriptions ≡ true
    to h =
        let w = any_witness clock dues h in
        found_due clock w.0 subscriptions (sym (past_is_due subscriptions dues listed clock w.0) ∙ w.1)

-- ---- their ranks

-- those that are due are taken by their numbers
ranks_by : (clock : Moment) (all es : List (ℕ × Subscription)) (ranks : List Rank) → AreFound all es → fold (with_rank_at all) ranks (rising_due clock es) ≡ fold (with_due clock) ranks es
unfolding rank_by with_rank
ranks_by clock all [] ranks found = refl
ranks_by clock all (e ∷ es) ranks found = by (is_due_at clock e) (λ rs. ranks_by clock all es rs found.1)
  where
    taken : with_rank_at all ranks e.0 ≡ with_rank ranks (Some (rank_of e.0 e.1))
    taken = ap (λ (o : Option Subscription). with_rank ranks (rank_by e.0 o)) found.0

    skipped : ranks ≡ with_rank ranks None
    skipped = refl

    by : (b : Bool) → ((rs : List Rank) → fold (with_rank_at all) rs (rising_due clock es) ≡ fold (with_due clock) rs es)
        → fold (with_rank_at all) ranks (cond b (e.0 ∷ rising_due clock es) (rising_due clock es)) ≡ fold (with_due clock) (with_rank ranks (cond b (Some (rank_of e.0 e.1)) None)) es
    by true rest = rest (with_rank_at all ranks e.0) ∙ ap (λ rs. fold (with_due clock) rs es) taken
    by false rest = rest ranks ∙ ap (λ rs. fold (with_due clock) rs es) skipped

pub ranks_are_due : (clock : Moment) (subscriptions : List (ℕ × Subscription)) → IsStrictlySortedBy nat_cmp (keys_of subscriptions) → ranks_at subscriptions (rising_due clock subscriptions) ≡ due_of clock subscriptions
ranks_are_due clock subscriptions rising = ranks_by clock subscriptions subscriptions [] (all_found subscriptions rising)

-- ---- a timer whose moment is changed

-- where a subscription stands, its moment is this one
abbrev pub HasMoment : Moment → Option Subscription → Type 0
HasMoment before old = (m : Moment) → is_moment m old ≡ int_eq before.0 m.0

pub had_moment : (before : Moment) (o : Option Subscription) → Some before ≡ option_map (λ (s : Subscription). s.due) o → HasMoment before o
had_moment before None is = absurd (cc)
had_moment before (Some s) is = let same : s.due ≡ before = cc in λ m. ap (λ (x : Moment). int_eq x.0 m.0) same

moved_by : (before : Moment) (t : Subscription) (b : Bool) (mine : Moment) (old : Option Subscription) → (b ≡ true → is_moment mine old ≡ int_eq before.0 mine.0)
    → cond (int_eq t.due.0 mine.0 && b) true (cond (int_eq before.0 mine.0 && b) false (is_moment mine old)) ≡ is_moment mine (cond b (Some t) old)
moved_by before t true mine old found = rw (found refl) (by (int_eq t.due.0 mine.0) (int_eq before.0 mine.0))
  where
    by : (x y : Bool) → cond (x && true) true (cond (y && true) false y) ≡ x
    by true y = refl
    by false true = refl
    by false false = refl
moved_by before t false mine old found = by (int_eq t.due.0 mine.0) (int_eq before.0 mine.0)
  where
    by : (x y : Bool) → cond (x && false) true (cond (y && false) false (is_moment mine old)) ≡ is_moment mine old
    by true true = refl
    by true false = refl
    by false true = refl
    by false false = refl

-- the subscription of a number has another moment, and so has the list
pub moved : (number : ℕ) (before : Moment) (t : Subscription) (q : Due) (old new : Option Subscription) (was is : Bool)
    → (is_at (nat_cmp number) q.number ≡ true → HasMoment before old)
    → new ≡ cond (is_at (nat_cmp number) q.number) (Some t) old
    → was ≡ is_moment q.moment old
    → is ≡ has_moved number before t.due q was
    → is ≡ is_moment q.moment new
moved number before t q old new was is found set listed changed =
    changed
    ∙ ap (λ (a : Bool). cond a true (cond (is_at (due_cmp (due_at before number)) q) false was)) (at_parts t.due number q)
    ∙ ap (λ (a : Bool). cond (int_eq t.due.0 q.moment.0 && is_at (nat_cmp number) q.number) true (cond a false was)) (at_parts before number q)
    ∙ ap (λ (w : Bool). cond (int_eq t.due.0 q.moment.0 && is_at (nat_cmp number) q.number) true (cond (int_eq before.0 q.moment.0 && is_at (nat_cmp number) q.number) false w)) listed
    ∙ moved_by before t (is_at (nat_cmp number) q.number) q.moment old (λ at. found at q.moment)
    ∙ ap (is_moment q.moment) (sym set)

-- the same moment stays
pub stayed : (number : ℕ) (moment : Moment) (q : Due) (was : Bool) → cond (is_at (due_cmp (due_at moment number)) q) true was ≡ has_moved number moment moment q was
stayed number moment q was = by (is_at (due_cmp (due_at moment number)) q)
  where
    by : (x : Bool) → cond x true was ≡ cond x true (cond x false was)
    by true = refl
    by false = refl

-- the new moment may come before the old one goes
pub swapped : (number : ℕ) (before after : Moment) (q : Due) (was : Bool) → before ≢ after
    → cond (is_at (due_cmp (due_at before number)) q) false (cond (is_at (due_cmp (due_at after number)) q) true was) ≡ has_moved number before after q was
swapped number before after q was apart = by (is_at (due_cmp (due_at before number)) q) (is_at (due_cmp (due_at after number)) q) refl refl
  where
    same : (m : Moment) → is_at (due_cmp (due_at m number)) q ≡ true → m ≡ q.moment
    same m at = ap (λ (d : Due). d.moment) (same_due (due_at m number) q at)

    by : (x y : Bool) → is_at (due_cmp (due_at before number)) q ≡ x → is_at (due_cmp (due_at after number)) q ≡ y → cond x false (cond y true was) ≡ cond y true (cond x false was)
    by true true f g = absurd (apart (same before f ∙ sym (same after g)))
    by true false f g = refl
    by false true f g = refl
    by false false f g = refl

-- the ranks of the numbers that the list gives are those of the due ones
pub due_ranks : (clock : Moment) (subscriptions : List (ℕ × Subscription)) (dues : List Due) (numbers : BTreeSet ℕ) (ranks : List Rank)
    → AreListed subscriptions dues → IsStrictlySortedBy nat_cmp (keys_of subscriptions) → IsStrictlySortedBy nat_cmp numbers.keys
    → ((n : ℕ) → contains nat_cmp numbers n ≡ past_at clock dues n) → ranks ≡ ranks_at subscriptions numbers.keys → ranks ≡ due_of clock subscriptions
due_ranks clock subscriptions dues numbers ranks listed rising ordered same taken =
    taken ∙ ap (ranks_at subscriptions) (numbers_are_due clock subscriptions dues numbers listed rising ordered same) ∙ ranks_are_due clock subscriptions rising
