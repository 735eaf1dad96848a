-- The first place of a number is that of the first message with it.
use Rattle.std.proofs.Common.{◌≡◌, ℕ, ◌+◌, ◌<◌, ◌≤◌, suc, ◌&&◌, ◌==◌, Bool, true, false, cond, List, [], ◌∷◌, ◌++◌, length, nat_lt, Option, Some, None, option_map, refl, sym, ap, subst, ◌∙◌, arith}
use Rattle.std.specs.List.{AllByRecursion, find, position, position_or_len}
use Rattle.std.specs.List.Sorted.{IsStrictlySortedBy}
use Rattle.std.specs.BTreeMap.{is_at, insert_entry}
use Rattle.std.specs.Map.{lookup, keys_of, values_of, remove_entry}
use Rattle.std.specs.Option.{is_some}
use Rattle.std.specs.Ordering.{nat_cmp, is_lt, is_eq, match_ordering, ordering_then}
use Rattle.std.specs.declared.cmp.Ordering.{Ordering}
use Rattle.std.specs.declared.cmp.Ordering.TheVariants.{Less, Equal, Greater}
use Rattle.ua_subscriptions.specs.declared.kept.Place.{Place}
use Rattle.ua_subscriptions.specs.declared.messages.KeptMessage.{KeptMessage}
use Rattle.ua_subscriptions.specs.Kept.{place_at, place_cmp, has_place, is_numbered, ArePlaced, IsFirstPlace}
use Rattle.ua_subscriptions.specs.Messages.{has_number}
use Rattle.ua_subscriptions.specs.Publishing.{without_at, forgotten}

-- ---- the first of a list that passes

module _ {X : Type 0} (p : X → Bool) where
  if_within : ℕ → ℕ → Option ℕ
  if_within n i = cond (nat_lt i n) (Some i) None

  here : (x : X) (xs : List X) → p x ≡ true → position p (x ∷ xs) ≡ Some 0
  unfolding if_within
  here x xs is =
      let first : position_or_len p (x ∷ xs) ≡ 0 = rw is refl in
      let within : nat_lt 0 (length (x ∷ xs)) ≡ true = grind arith in
      ap (if_within (length (x ∷ xs))) first ∙ ap (λ (b : Bool). cond b (Some 0) None) within

  next_by : (b : Bool) (i : ℕ) → cond b (Some (suc i)) None ≡ option_map suc (cond b (Some i) None)
  next_by true i = refl
  next_by false i = refl

  next : (x : X) (xs : List X) → p x ≡ false → position p (x ∷ xs) ≡ option_map suc (position p xs)
  unfolding if_within
  next x xs is =
      let i = position_or_len p xs in
      let further : position_or_len p (x ∷ xs) ≡ suc i = rw is (grind arith) in
      let within : nat_lt (suc i) (length (x ∷ xs)) ≡ nat_lt i (length xs) = grind arith in
      ap (if_within (length (x ∷ xs))) further ∙ ap (λ (b : Bool). cond b (Some (suc i)) None) within ∙ next_by (nat_lt i (length xs)) i

  mapped : (o : Option ℕ) → is_some (option_map suc o) ≡ is_some o
  mapped None = refl
  mapped (Some i) = refl

  some_by : (x : X) (xs : List X) (b : Bool) → p x ≡ b → is_some (position p xs) ≡ is_some (find p xs) → is_some (position p (x ∷ xs)) ≡ is_some (cond b (Some x) (find p xs))
  some_by x xs true is rest = ap is_some (here x xs is)
  some_by x xs false is rest = ap is_some (next x xs is) ∙ mapped (position p xs) ∙ rest

  pub some_where : (xs : List X) → is_some (position p xs) ≡ is_some (find p xs)
  some_where [] = refl
  some_where (x ∷ xs) = some_by x xs (p x) refl (some_where xs)

forgotten_here : (n : ℕ) (x : KeptMessage) (xs : List KeptMessage) → has_number n x ≡ true → forgotten n (x ∷ xs) ≡ xs
forgotten_here n x xs is = ap (without_at (x ∷ xs)) (here (has_number n) x xs is)

forgotten_next : (n : ℕ) (x : KeptMessage) (xs : List KeptMessage) → has_number n x ≡ false → forgotten n (x ∷ xs) ≡ x ∷ forgotten n xs
forgotten_next n x xs is = ap (without_at (x ∷ xs)) (next (has_number n) x xs is) ∙ by (position (has_number n) xs)
  where
    by : (o : Option ℕ) → without_at (x ∷ xs) (option_map suc o) ≡ x ∷ without_at xs o
    by None = refl
    by (Some i) = refl

-- ---- messages under their places, which rise

abbrev Messages : Type 0
Messages = List (ℕ × KeptMessage)

abbrev Above : ℕ → Messages → Type 0
Above k es = AllByRecursion (λ q. nat_cmp k q ≡ Less) (keys_of es)

abbrev AreRising : Messages → Type 0
AreRising es = IsStrictlySortedBy nat_cmp (keys_of es)

less : (k m : ℕ) → nat_cmp k m ≡ Less → k < m
less k m h = grind (arith, h)

misses : (s m : ℕ) → s < m → is_at (nat_cmp s) m ≡ false
misses s m h = grind (arith, h)

lacks : (k s : ℕ) (es : Messages) → Above k es → s ≤ k → lookup (is_at (nat_cmp s)) es ≡ None
lacks k s [] above le = refl
lacks k s (e ∷ es) above le = rw (misses s e.0 (grind (arith, less k e.0 above.0, le))) (lacks k s es above.1 le)

itself : (k : ℕ) → is_at (nat_cmp k) k ≡ true
itself k = grind arith

same : (s k : ℕ) → is_at (nat_cmp s) k ≡ true → s ≡ k
same s k h = grind (arith, h)

-- a number that isn't at a place isn't there behind the first
behind : (n s : ℕ) (e : ℕ × KeptMessage) (es : Messages) → Above e.0 es → is_numbered n (lookup (is_at (nat_cmp s)) (e ∷ es)) ≡ false → is_numbered n (lookup (is_at (nat_cmp s)) es) ≡ false
behind n s e es above h = by (is_at (nat_cmp s) e.0) refl h
  where
    by : (b : Bool) → is_at (nat_cmp s) e.0 ≡ b → is_numbered n (cond b (Some e.1) (lookup (is_at (nat_cmp s)) es)) ≡ false → is_numbered n (lookup (is_at (nat_cmp s)) es) ≡ false
    by true is h = ap (is_numbered n) (lacks e.0 s es above (grind (arith, same s e.0 is)))
    by false is h = h

head_at : (n : ℕ) (e : ℕ × KeptMessage) (es : Messages) → is_numbered n (lookup (is_at (nat_cmp e.0)) (e ∷ es)) ≡ has_number n e.1
head_at n e es = rw (itself e.0) refl

-- ---- no message has the number

abbrev HasNone : ℕ → Messages → Type 0
HasNone n es = (s : ℕ) → is_numbered n (lookup (is_at (nat_cmp s)) es) ≡ false

found_none : (n : ℕ) (es : Messages) → AreRising es → HasNone n es → find (has_number n) (values_of es) ≡ None
unfolding IsStrictlySortedBy
found_none n [] rising h = refl
found_none n (e ∷ es) rising h =
    let other : has_number n e.1 ≡ false = sym (head_at n e es) ∙ h e.0 in
    rw other (found_none n es rising.1 (λ s. behind n s e es rising.0 (h s)))

forgets_none : (n : ℕ) (es : Messages) → AreRising es → HasNone n es → values_of es ≡ forgotten n (values_of es)
unfolding IsStrictlySortedBy
forgets_none n [] rising h = refl
forgets_none n (e ∷ es) rising h =
    let other : has_number n e.1 ≡ false = sym (head_at n e es) ∙ h e.0 in
    ap (λ (xs : List KeptMessage). e.1 ∷ xs) (forgets_none n es rising.1 (λ s. behind n s e es rising.0 (h s))) ∙ sym (forgotten_next n e.1 (values_of es) other)

-- ---- the first message with the number is at a place

record IsFirst (n k : ℕ) (es : Messages) : Type 0 where
  there : is_numbered n (lookup (is_at (nat_cmp k)) es) ≡ true
  first : (s : ℕ) → s < k → is_numbered n (lookup (is_at (nat_cmp s)) es) ≡ false

first_behind : (n k : ℕ) (e : ℕ × KeptMessage) (es : Messages) → Above e.0 es → is_at (nat_cmp k) e.0 ≡ false → IsFirst n k (e ∷ es) → IsFirst n k es
first_behind n k e es above apart h = record {
  there = sym (ap (λ (b : Bool). is_numbered n (cond b (Some e.1) (lookup (is_at (nat_cmp k)) es))) apart) ∙ h.there;
  first = λ s lt. behind n s e es above (h.first s lt);
}

-- the head is not it
passed : (n k : ℕ) (e : ℕ × KeptMessage) (es : Messages) → Above e.0 es → is_at (nat_cmp k) e.0 ≡ false → IsFirst n k (e ∷ es) → has_number n e.1 ≡ false
passed n k e es above apart h = by (nat_cmp k e.0) refl
  where
    by : (o : Ordering) → nat_cmp k e.0 ≡ o → has_number n e.1 ≡ false
    by Greater is = sym (head_at n e es) ∙ h.first e.0 (grind (arith, is))
    by Equal is = absurd (grind (arith, is, apart))
    by Less is =
        let gone : is_numbered n (lookup (is_at (nat_cmp k)) (e ∷ es)) ≡ false = rw apart (ap (is_numbered n) (lacks e.0 k es above (grind (arith, less k e.0 is)))) in
        absurd (cc (h.there))

found_first : (n k : ℕ) (es : Messages) → AreRising es → IsFirst n k es → find (has_number n) (values_of es) ≡ lookup (is_at (nat_cmp k)) es
unfolding IsStrictlySortedBy
found_first n k [] rising h = absurd (cc (h.there))
found_first n k (e ∷ es) rising h = by (is_at (nat_cmp k) e.0) refl (λ apart. found_first n k es rising.1 (first_behind n k e es rising.0 apart h))
  where
    by : (b : Bool) → is_at (nat_cmp k) e.0 ≡ b → (is_at (nat_cmp k) e.0 ≡ false → find (has_number n) (values_of es) ≡ lookup (is_at (nat_cmp k)) es)
        → find (has_number n) (values_of (e ∷ es)) ≡ cond b (Some e.1) (lookup (is_at (nat_cmp k)) es)
    by true is rest =
        let it : has_number n e.1 ≡ true = sym (ap (λ (b : Bool). is_numbered n (cond b (Some e.1) (lookup (is_at (nat_cmp k)) es))) is) ∙ h.there in
        rw it refl
    by false is rest = rw (passed n k e es rising.0 is h) (rest is)

forgets_first : (n k : ℕ) (es : Messages) → AreRising es → IsFirst n k es → values_of (remove_entry (is_at (nat_cmp k)) es) ≡ forgotten n (values_of es)
unfolding IsStrictlySortedBy
forgets_first n k [] rising h = absurd (cc (h.there))
forgets_first n k (e ∷ es) rising h = by (is_at (nat_cmp k) e.0) refl (λ apart. forgets_first n k es rising.1 (first_behind n k e es rising.0 apart h))
  where
    by : (b : Bool) → is_at (nat_cmp k) e.0 ≡ b → (is_at (nat_cmp k) e.0 ≡ false → values_of (remove_entry (is_at (nat_cmp k)) es) ≡ forgotten n (values_of es))
        → values_of (cond b es (e ∷ remove_entry (is_at (nat_cmp k)) es)) ≡ forgotten n (values_of (e ∷ es))
    by true is rest =
        let it : has_number n e.1 ≡ true = sym (ap (λ (b : Bool). is_numbered n (cond b (Some e.1) (lookup (is_at (nat_cmp k)) es))) is) ∙ h.there in
        sym (forgotten_here n e.1 (values_of es) it)
    by false is rest = ap (λ (xs : List KeptMessage). e.1 ∷ xs) (rest is) ∙ sym (forgotten_next n e.1 (values_of es) (passed n k e es rising.0 is h))

-- ---- as the code finds them

module _ (n : ℕ) (es : Messages) (places : List Place) (rising : AreRising es) (placed : ArePlaced es places) where
  has_none : IsFirstPlace n places None → HasNone n es
  has_none h = λ s. sym (placed (place_at n s)) ∙ h s

  is_first : (k : ℕ) → IsFirstPlace n places (Some k) → IsFirst n k es
  is_first k h = record { there = sym (placed (place_at n k)) ∙ h.0; first = λ s lt. sym (placed (place_at n s)) ∙ h.1 s lt }

  pub none_found : IsFirstPlace n places None → find (has_number n) (values_of es) ≡ None
  none_found h = found_none n es rising (has_none h)

  pub one_found : (k : ℕ) → IsFirstPlace n places (Some k) → find (has_number n) (values_of es) ≡ lookup (is_at (nat_cmp k)) es
  one_found k h = found_first n k es rising (is_first k h)

  pub none_known : IsFirstPlace n places None → is_some (position (has_number n) (values_of es)) ≡ false
  none_known h = some_where (has_number n) (values_of es) ∙ ap is_some (none_found h)

  pub one_known : (k : ℕ) → IsFirstPlace n places (Some k) → is_some (position (has_number n) (values_of es)) ≡ true
  one_known k h = some_where (has_number n) (values_of es) ∙ ap is_some (one_found k h) ∙ by (lookup (is_at (nat_cmp k)) es) (sym (placed (place_at n k)) ∙ h.0)
    where
      by : (o : Option KeptMessage) → is_numbered n o ≡ true → is_some o ≡ true
      by None h = absurd (cc)
      by (Some m) h = refl

  pub none_forgotten : IsFirstPlace n places None → values_of es ≡ forgotten n (values_of es)
  none_forgotten h = forgets_none n es rising (has_none h)

  pub one_forgotten : (k : ℕ) → IsFirstPlace n places (Some k) → values_of (remove_entry (is_at (nat_cmp k)) es) ≡ forgotten n (values_of es)
  one_forgotten k h = forgets_first n k es rising (is_first k h)

-- ---- one more

pub pushed : (k : ℕ) (m : KeptMessage) (es : Messages) → AllByRecursion (λ q. q < k) (keys_of es) → values_of (insert_entry nat_cmp es k m) ≡ values_of es ++ m ∷ []
pushed k m [] h = refl
pushed k m (e ∷ es) h = by (nat_cmp k e.0) (grind (arith, h.0)) (pushed k m es h.1)
  where
    by : (o : Ordering) → o ≡ Greater → values_of (insert_entry nat_cmp es k m) ≡ values_of es ++ m ∷ []
        → values_of (match_ordering o ((k, m) ∷ e ∷ es) ((e.0, m) ∷ es) (e ∷ insert_entry nat_cmp es k m)) ≡ e.1 ∷ (values_of es ++ m ∷ [])
    by Greater is rest = ap (λ (xs : List KeptMessage). e.1 ∷ xs) rest
    by Less is rest = absurd (cc)
    by Equal is rest = absurd (cc)

pub all_before : (last : ℕ) (ks : List ℕ) → AllByRecursion (λ q. is_lt (nat_cmp last q) ≡ false) ks → AllByRecursion (λ q. q < last + 1) ks
all_before last [] h = tt
all_before last (q ∷ qs) h = (grind (arith, h.0), all_before last qs h.1)

-- a place behind all of them is free
free : (k : ℕ) (es : Messages) → AllByRecursion (λ q. q < k) (keys_of es) → lookup (is_at (nat_cmp k)) es ≡ None
free k [] h = refl
free k (e ∷ es) h = let apart : is_at (nat_cmp k) e.0 ≡ false = grind (arith, h.0) in rw apart (free k es h.1)

place_parts : (n k : ℕ) (q : Place) → is_at (place_cmp (place_at n k)) q ≡ (is_at (nat_cmp n) q.number && is_at (nat_cmp k) q.serial)
place_parts n k q = by (nat_cmp k q.serial)
  where
    by : (o : Ordering) → is_eq (ordering_then (nat_cmp n q.number) o) ≡ (is_at (nat_cmp n) q.number && is_eq o)
    by Less = grind arith
    by Equal = grind arith
    by Greater = grind arith

numbers_agree : (n m : ℕ) → is_at (nat_cmp n) m ≡ (n == m)
numbers_agree n m = grind arith

pub one_placed : (k : ℕ) (m : KeptMessage) (es after : Messages) (places more : List Place) → ArePlaced es places → AllByRecursion (λ q. q < k) (keys_of es)
    → ((q : Place) → has_place more q ≡ cond (is_at (place_cmp (place_at m.number k)) q) true (has_place places q))
    → ((s : ℕ) → lookup (is_at (nat_cmp s)) after ≡ cond (is_at (nat_cmp k) s) (Some m) (lookup (is_at (nat_cmp s)) es))
    → ArePlaced after more
one_placed k m es after places more placed last changed set = λ q.
    by q (is_at (nat_cmp k) q.serial) refl (changed q ∙ ap (λ (b : Bool). cond b true (has_place places q)) (place_parts m.number k q)) (set q.serial)
  where
    by : (q : Place) (b : Bool) → is_at (nat_cmp k) q.serial ≡ b
        → has_place more q ≡ cond (is_at (nat_cmp m.number) q.number && is_at (nat_cmp k) q.serial) true (has_place places q)
        → lookup (is_at (nat_cmp q.serial)) after ≡ cond (is_at (nat_cmp k) q.serial) (Some m) (lookup (is_at (nat_cmp q.serial)) es)
        → has_place more q ≡ is_numbered q.number (lookup (is_at (nat_cmp q.serial)) after)
    by q true at is now =
        let none : lookup (is_at (nat_cmp q.serial)) es ≡ None = subst (λ (s : ℕ). lookup (is_at (nat_cmp s)) es ≡ None) (same k q.serial at) (free k es last) in
        let was : has_place places q ≡ false = placed q ∙ ap (is_numbered q.number) none in
        is ∙ ap (λ (b : Bool). cond (is_at (nat_cmp m.number) q.number && b) true (has_place places q)) at
        ∙ ap (λ (b : Bool). cond (is_at (nat_cmp m.number) q.number && true) true b) was ∙ all (is_at (nat_cmp m.number) q.number)
        ∙ numbers_agree m.number q.number ∙ ap (is_numbered q.number) (sym (now ∙ ap (λ (b : Bool). cond b (Some m) (lookup (is_at (nat_cmp q.serial)) es)) at))
      where
        all : (a : Bool) → cond (a && true) true false ≡ a
        all true = refl
        all false = refl
    by q false at is now =
        is ∙ ap (λ (b : Bool). cond (is_at (nat_cmp m.number) q.number && b) true (has_place places q)) at
        ∙ none (is_at (nat_cmp m.number) q.number) ∙ placed q
        ∙ ap (is_numbered q.number) (sym (now ∙ ap (λ (b : Bool). cond b (Some m) (lookup (is_at (nat_cmp q.serial)) es)) at))
      where
        none : (a : Bool) → cond (a && false) true (has_place places q) ≡ has_place places q
        none true = refl
        none false = refl
