-- Elements are looked at one by one, and again as they are asked for.
use Rattle.std.proofs.Common.{◌≡◌, ◌≢◌, ℕ, zero, suc, ◌-◌, ◌<◌, ◌^◌, List, [], ◌∷◌, length, Result, Ok, Err, Option, Some, None, refl, sym, ap, ◌∙◌, arith}
use Rattle.std.specs.Prelude.{IsOk, option_map, drop}
use Rattle.ua_binary.specs.declared.fault.TakeFault.{TakeFault}
use Rattle.ua_binary.specs.declared.fault.TakeFault.TheVariants.{Memory}
use Rattle.ua_binary.specs.Reading.{Reading, Reads, go_on}
use Rattle.ua_binary.specs.Arrays.{elements_reading}
use Rattle.ua_views.specs.Passing.{IsRead}
use Rattle.ua_views.proofs.Elements.{seen, was_seen}
use Rattle.ua_views.specs.Views.{value_or, elements_at, AreThere, or_none, first_in}

module _ {A : Type 0} where
  -- nothing is seen of elements that are walked over
  abbrev pub unseen : List A → Unit {0}
  unseen xs = tt

  pub was_read : (r : Result (List A × List ℕ) TakeFault) (rest : List ℕ) → seen unseen r ≡ Ok (tt, rest) → IsRead r rest
  was_read r rest h = let all = was_seen unseen r tt rest h in record { value = all.value; is = all.is }

  -- what a view answers is what reading gives, since it isn't memory
  pub is_fault : (answer : Result A TakeFault) (rest : List ℕ) (r : Result (A × List ℕ) TakeFault) (e : TakeFault)
      → answer ≡ Err e → Reads answer rest r → answer ≢ Err Memory → r ≡ Err e
  is_fault (Ok x) rest r e is reads never = absurd (cc)
  is_fault (Err f) rest r e is reads never =
      let same : f ≡ e = cc in
      reads (λ m. never (ap (λ g. Err g) m)) ∙ ap (λ g. Err g) same

  -- ---- those that are there, one after the other

  more_ok : (x : A) (r : Result (List A × List ℕ) TakeFault) → IsOk (go_on r (λ xs rest. Ok (x ∷ xs, rest))) → IsOk r
  more_ok x (Ok v) h = refl
  more_ok x (Err e) h = h

  one_more : (x : A) (r : Result (List A × List ℕ) TakeFault) → IsOk r → value_or [] (go_on r (λ xs rest. Ok (x ∷ xs, rest))) ≡ x ∷ value_or [] r
  one_more x (Ok v) h = refl
  one_more x (Err e) h = absurd (cc)

  next_is_there : (reading : Reading A) (n m : ℕ) (bytes : List ℕ) (x : A) (rest : List ℕ)
      → n ≡ suc m → IsOk (elements_reading reading n bytes) → reading bytes ≡ Ok (x, rest) → IsOk (elements_reading reading m rest)
  unfolding elements_reading
  next_is_there reading n m bytes x rest k there h =
      let one : elements_reading reading n bytes ≡ go_on (elements_reading reading m rest) (λ xs left. Ok (x ∷ xs, left)) = rw (k, h) refl in
      more_ok x (elements_reading reading m rest) (rw one at there)

  next_is_first : (reading : Reading A) (n m : ℕ) (bytes : List ℕ) (x : A) (rest : List ℕ)
      → n ≡ suc m → IsOk (elements_reading reading n bytes) → reading bytes ≡ Ok (x, rest)
      → value_or [] (elements_reading reading n bytes) ≡ x ∷ value_or [] (elements_reading reading m rest)
  unfolding elements_reading
  next_is_first reading n m bytes x rest k there h =
      let one : elements_reading reading n bytes ≡ go_on (elements_reading reading m rest) (λ xs left. Ok (x ∷ xs, left)) = rw (k, h) refl in
      ap (value_or []) one ∙ one_more x (elements_reading reading m rest) (next_is_there reading n m bytes x rest k there h)

  next_is_good : (reading : Reading A) (n : ℕ) (bytes : List ℕ) (e : TakeFault)
      → 0 < n → IsOk (elements_reading reading n bytes) → reading bytes ≡ Err e → ⊥
  unfolding elements_reading
  next_is_good reading zero bytes e lt there h = absurd (omega arith)
  next_is_good reading (suc m) bytes e lt there h = let faulty : elements_reading reading (suc m) bytes ≡ Err e = rw h refl in absurd (cc)

  -- ---- as many as there are

  counted_one : (reading : Reading A) (n : ℕ) (r : Result (A × List ℕ) TakeFault)
      → ((bytes : List ℕ) → IsOk (elements_reading reading n bytes) → length (value_or [] (elements_reading reading n bytes)) ≡ n)
      → IsOk (go_on r (λ x rest. go_on (elements_reading reading n rest) (λ xs left. Ok (x ∷ xs, left))))
      → length (value_or [] (go_on r (λ x rest. go_on (elements_reading reading n rest) (λ xs left. Ok (x ∷ xs, left))))) ≡ suc n
  counted_one reading n (Ok v) others there =
      let ok : IsOk (elements_reading reading n v.1) = more_ok v.0 (elements_reading reading n v.1) there in
      ap length (one_more v.0 (elements_reading reading n v.1) ok) ∙ ap suc (others v.1 ok)
  counted_one reading n (Err e) others there = absurd (cc)

  counted : (reading : Reading A) (n : ℕ) (bytes : List ℕ) → IsOk (elements_reading reading n bytes) → length (value_or [] (elements_reading reading n bytes)) ≡ n
  unfolding elements_reading
  counted reading zero bytes there = refl
  counted reading (suc n) bytes there = counted_one reading n (reading bytes) (counted reading n) there

  -- ---- a list that is looked at: how many elements are left, and the place of the next one, as the list that contracts see

  pub record IsCounted (n : ℕ) (list : Option (List A)) : Type 0 where
    pub count : n ≡ length (or_none list)
    pub small : n < 2 ^ 31

  pub is_counted : (reading : Reading A) (left : Option ℕ) (at : List ℕ) (n : ℕ) (list : Option (List A))
      → left ≡ Some n → AreThere reading left at → elements_at reading left at ≡ list → IsCounted n list
  is_counted reading None at n list is there seen = absurd (cc)
  is_counted reading (Some m) at n list is there seen =
      let same : m ≡ n = cc in
      record {
        count = sym same ∙ sym (counted reading m at there.1) ∙ ap (λ l. length (or_none l)) seen;
        small = omega (arith, same, there.0);
      }

  -- nothing is left
  pub record IsAtEnd (list : Option (List A)) : Type 0 where
    pub element : None ≡ first_in list
    pub rest : list ≡ option_map (drop 1) list

  pub none_is_at_end : (reading : Reading A) (left : Option ℕ) (at : List ℕ) (list : Option (List A)) → left ≡ Some 0 → elements_at reading left at ≡ list → IsAtEnd list
  unfolding elements_reading
  none_is_at_end reading None at list is seen = absurd (cc)
  none_is_at_end reading (Some zero) at None is seen = absurd (cc)
  none_is_at_end reading (Some zero) at (Some []) is seen = record { element = refl; rest = refl }
  none_is_at_end reading (Some zero) at (Some (x ∷ xs)) is seen = absurd (cc)
  none_is_at_end reading (Some (suc n)) at list is seen = absurd (cc)

  -- an element is left
  pub record IsNext (reading : Reading A) (n : ℕ) (x : A) (rest : List ℕ) (list : Option (List A)) : Type 0 where
    pub there : AreThere reading (Some (n - 1)) rest
    pub element : Some x ≡ first_in list
    pub others : elements_at reading (Some (n - 1)) rest ≡ option_map (drop 1) list

  pub is_next : (reading : Reading A) (left : Option ℕ) (at : List ℕ) (n : ℕ) (x : A) (rest : List ℕ) (list : Option (List A))
      → left ≡ Some n → 0 < n → AreThere reading left at → elements_at reading left at ≡ list → reading at ≡ Ok (x, rest) → IsNext reading n x rest list
  is_next reading None at n x rest list is some there seen read = absurd (cc)
  is_next reading (Some m) at n x rest list is some there seen read =
      let same : m ≡ n = cc in
      let k : m ≡ suc (n - 1) = omega arith in
      let first = next_is_first reading m (n - 1) at x rest k there.1 read in
      record {
        there = (omega (arith, same, there.0), next_is_there reading m (n - 1) at x rest k there.1 read);
        element = rw (← seen, first) refl;
        others = rw (← seen, first) refl;
      }

  pub is_no_fault : (reading : Reading A) (left : Option ℕ) (at : List ℕ) (n : ℕ) (e : TakeFault)
      → left ≡ Some n → 0 < n → AreThere reading left at → reading at ≡ Err e → ⊥
  is_no_fault reading None at n e is some there read = absurd (cc)
  is_no_fault reading (Some m) at n e is some there read =
      let same : m ≡ n = cc in
      next_is_good reading m at e (omega arith) there.1 read
