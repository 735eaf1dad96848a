-- How many elements a list has that is read.
use Rattle.std.proofs.Common.{◌≡◌, ℕ, zero, suc, ◌≤◌, ◌^◌, Bool, true, false, ltb, leb, cond, List, ◌∷◌, length, take, drop, Some, None, Result, Ok, Err, refl, ap, arith}
use Rattle.std.specs.Prelude.{IfOk, IfSome, if◌then◌else◌}
use Rattle.std.specs.Int.{w32, from_le_bytes}
use Rattle.std.proofs.lemmas.Bool.{ltb-false}
use Rattle.std.proofs.lemmas.List.{length-drop}
use Rattle.std.proofs.lemmas.Result.{IfOk-at_ok}
use Rattle.ua_binary.specs.declared.fault.TakeFault.{TakeFault}
use Rattle.ua_binary.specs.declared.fault.TakeFault.TheVariants.{Short, Length}
use Rattle.ua_binary.specs.Reading.{Reading, ◌>>=◌, go_on, done}
use Rattle.ua_binary.specs.Numbers.{number_reading}
use Rattle.ua_binary.specs.Arrays.{elements_reading, array_reading, claimed}

module _ {A : Type 0} (element : Reading A) where
  one_more : (n : ℕ) (x : A) (r : Result (List A × List ℕ) TakeFault) → IfOk r (λ v. length v.0 ≡ n)
      → IfOk (go_on r (λ xs rest. Ok (x ∷ xs, rest))) (λ v. length v.0 ≡ suc n)
  one_more n x (Ok v) h = ap suc h
  one_more n x (Err e) h = tt

  next : (n : ℕ) (r : Result (A × List ℕ) TakeFault) → ((bytes : List ℕ) → IfOk (elements_reading element n bytes) (λ v. length v.0 ≡ n))
      → IfOk (go_on r (λ x rest. go_on (elements_reading element n rest) (λ xs rest. Ok (x ∷ xs, rest)))) (λ v. length v.0 ≡ suc n)
  next n (Ok v) h = one_more n v.0 (elements_reading element n v.1) (h v.1)
  next n (Err e) h = tt

  -- so many are read
  pub counted : (n : ℕ) (bytes : List ℕ) → IfOk (elements_reading element n bytes) (λ v. length v.0 ≡ n)
  unfolding elements_reading
  counted zero bytes = refl
  counted (suc n) bytes = next n (element bytes) (counted n)

  listed : (n top : ℕ) (r : Result (List A × List ℕ) TakeFault) → n ≤ top → IfOk r (λ v. length v.0 ≡ n)
      → IfOk (go_on r (λ xs rest. Ok (Some xs, rest))) (λ v. IfSome v.0 (λ xs. length xs ≤ top))
  listed n top (Ok v) le h = omega (arith, h)
  listed n top (Err e) le h = tt

  -- a claim of more than is left isn't read
  claim_within : (n : ℕ) (rest : List ℕ) (top : ℕ) (b : Bool) → ltb (length rest) n ≡ b → length rest ≤ top
      → IfOk (cond b (Err Length) (go_on (elements_reading element n rest) (λ xs rest. Ok (Some xs, rest)))) (λ v. IfSome v.0 (λ xs. length xs ≤ top))
  claim_within n rest top true e le = tt
  claim_within n rest top false e le =
      let enough : n ≤ length rest = ltb-false _ _ e in
      listed n top (elements_reading element n rest) (omega arith) (counted n rest)

  null_or_list : (n : ℕ) (rest : List ℕ) (top : ℕ) (b : Bool) → length rest ≤ top
      → IfOk (cond b (done None) (claimed n (do
        items ← elements_reading element n
        done (Some items))) rest) (λ v. IfSome v.0 (λ xs. length xs ≤ top))
  null_or_list n rest top true le = tt
  null_or_list n rest top false le = claim_within n rest top (ltb (length rest) n) refl le

  after_count : (top : ℕ) (r : Result (ℕ × List ℕ) TakeFault) → IfOk r (λ v. length v.1 ≤ top)
      → IfOk (go_on r (λ n. if leb (2 ^ 31) n then done None else claimed n (do
        items ← elements_reading element n
        done (Some items)))) (λ v. IfSome v.0 (λ xs. length xs ≤ top))
  after_count top (Ok v) le = null_or_list v.0 v.1 top (leb (2 ^ 31) v.0) le
  after_count top (Err e) le = tt

  left : (bytes : List ℕ) (b : Bool) → IfOk (go_on (cond b (Err Short) (Ok (take 4 bytes, drop 4 bytes))) (λ front. done (from_le_bytes w32 front))) (λ v. length v.1 ≤ length bytes)
  left bytes true = tt
  left bytes false = omega (arith, length-drop 4 bytes)

  number_left : (bytes : List ℕ) → IfOk (number_reading w32 bytes) (λ v. length v.1 ≤ length bytes)
  unfolding number_reading
  number_left bytes = left bytes (ltb (length bytes) 4)

  within : (bytes : List ℕ) → IfOk (array_reading element bytes) (λ v. IfSome v.0 (λ xs. length xs ≤ length bytes))
  unfolding array_reading
  within bytes = after_count (length bytes) (number_reading w32 bytes) (number_left bytes)

  pub list_within : (bytes rest : List ℕ) (elements : List A) → array_reading element bytes ≡ Ok (Some elements, rest) → length elements ≤ length bytes
  list_within bytes rest elements e = IfOk-at_ok (λ v. IfSome v.0 (λ xs. length xs ≤ length bytes)) e (within bytes)
