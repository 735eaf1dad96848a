-- Elements are walked over one by one, and what a view sees of their list is known bit by bit.
use Rattle.std.proofs.Common.{◌≡◌, ℕ, suc, ◌+◌, ◌-◌, ◌<◌, ◌≤◌, List, [], ◌∷◌, Result, Ok, Err, refl, sym, ap, ◌∙◌, arith}
use Rattle.ua_binary.specs.declared.fault.TakeFault.{TakeFault}
use Rattle.ua_binary.specs.Reading.{Reading, go_on}
use Rattle.ua_binary.specs.Arrays.{elements_reading}
use Rattle.ua_views.specs.Passing.{IsSeen}

module _ {A B : Type 0} where
  -- a list that is read, seen by a view
  abbrev pub seen : (List A → B) → Result (List A × List ℕ) TakeFault → Result (B × List ℕ) TakeFault
  seen view (Ok v) = Ok (view v.0, v.1)
  seen view (Err e) = Err e

  -- two views that see the same
  pub seen_alike : (view next : List A → B) (r : Result (List A × List ℕ) TakeFault) → ((xs : List A) → view xs ≡ next xs) → seen view r ≡ seen next r
  seen_alike view next (Ok v) h = ap (λ b. Ok (b, v.1)) (h v.0)
  seen_alike view next (Err e) h = refl

  seen_more : (view next : List A → B) (x : A) (r : Result (List A × List ℕ) TakeFault) → ((xs : List A) → view (x ∷ xs) ≡ next xs)
      → seen view (go_on r (λ xs rest. Ok (x ∷ xs, rest))) ≡ seen next r
  seen_more view next x (Ok v) h = ap (λ b. Ok (b, v.1)) (h v.0)
  seen_more view next x (Err e) h = refl

  -- one element more: the next view sees of the others what this one saw of all
  pub walks_on : (reading : Reading A) (view next : List A → B) (count i : ℕ) (bytes : List ℕ) (x : A) (rest : List ℕ) (total : Result (B × List ℕ) TakeFault)
      → i < count → reading bytes ≡ Ok (x, rest) → ((xs : List A) → view (x ∷ xs) ≡ next xs) → seen view (elements_reading reading (count - i) bytes) ≡ total
      → seen next (elements_reading reading (count - (i + 1)) rest) ≡ total
  unfolding elements_reading
  walks_on reading view next count i bytes x rest total lt h alike so_far =
      let k : count - i ≡ suc (count - (i + 1)) = omega arith in
      let one : seen view (elements_reading reading (count - i) bytes) ≡ seen next (elements_reading reading (count - (i + 1)) rest) = rw (k, h) (seen_more view next x (elements_reading reading (count - (i + 1)) rest) alike) in
      sym one ∙ so_far

  pub walk_ends : (reading : Reading A) (view : List A → B) (count i : ℕ) (bytes : List ℕ) (e : TakeFault) (total : Result (B × List ℕ) TakeFault)
      → i < count → reading bytes ≡ Err e → seen view (elements_reading reading (count - i) bytes) ≡ total → total ≡ Err e
  unfolding elements_reading
  walk_ends reading view count i bytes e total lt h so_far =
      let k : count - i ≡ suc (count - (i + 1)) = omega arith in
      let one : seen view (elements_reading reading (count - i) bytes) ≡ Err e = rw (k, h) refl in
      sym so_far ∙ one

  pub walk_is_done : (reading : Reading A) (view : List A → B) (count i : ℕ) (bytes : List ℕ) (total : Result (B × List ℕ) TakeFault)
      → count ≤ i → seen view (elements_reading reading (count - i) bytes) ≡ total → total ≡ Ok (view [], bytes)
  unfolding elements_reading
  walk_is_done reading view count i bytes total le so_far =
      let k : count - i ≡ 0 = omega arith in
      let one : seen view (elements_reading reading (count - i) bytes) ≡ Ok (view [], bytes) = rw k refl in
      sym so_far ∙ one

  -- what was walked over was read
  pub was_seen : (view : List A → B) (r : Result (List A × List ℕ) TakeFault) (b : B) (rest : List ℕ) → seen view r ≡ Ok (b, rest) → IsSeen view r b rest
  was_seen view (Ok v) b rest h =
      let pair : (view v.0, v.1) ≡ (b, rest) = cc in
      record { value = v.0; is = ap (λ (p : B × List ℕ). Ok (v.0, p.1)) pair; seen_as = ap (λ (p : B × List ℕ). p.0) pair }
  was_seen view (Err e) b rest h = absurd (cc)

  pub was_faulty : (view : List A → B) (r : Result (List A × List ℕ) TakeFault) (e : TakeFault) → seen view r ≡ Err e → r ≡ Err e
  was_faulty view (Ok v) e h = absurd (cc)
  was_faulty view (Err f) e h = let same : f ≡ e = cc in ap (λ g. Err g) same
