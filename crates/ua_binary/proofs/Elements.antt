-- Elements are read one by one.
use Rattle.std.proofs.Common.{◌≡◌, ℕ, suc, ◌+◌, ◌-◌, ◌<◌, ◌≤◌, List, [], ◌∷◌, ◌++◌, Result, Ok, Err, refl, sym, ap, ◌∙◌, append_assoc, arith, length, All, ◌^◌, Some, ltb, leb, true, false}
use Rattle.std.proofs.lemmas.Bool.{le-ltb, lt-leb, lt-ltb}
use Rattle.std.proofs.lemmas.List.{length-append}
use Rattle.std.specs.Int.{w32}
use Rattle.ua_binary.proofs.Again.{number32_again}
use Rattle.std.proofs.lemmas.List.{append-nil}
use Rattle.ua_binary.specs.declared.fault.TakeFault.{TakeFault}
use Rattle.ua_binary.specs.declared.fault.TakeFault.TheVariants.{Length}
use Rattle.ua_binary.specs.Texts.{ClaimsTooMany}
use Rattle.ua_binary.specs.Reading.{go_on, IsReadAgain}
use Rattle.ua_binary.specs.Numbers.{number_encoding}
use Rattle.ua_binary.specs.Arrays.{elements_reading, array_reading, array_encoding}
use Rattle.std.specs.List.{flat_map, AllByRecursion}
use Rattle.std.proofs.lemmas.List.Elements.{recursion_from_All}

-- the elements that were read before these
abbrev pub with_front : {A : Type 0} → List A → Result (List A × List ℕ) TakeFault → Result (List A × List ℕ) TakeFault
with_front front reading = go_on reading (λ xs rest. Ok (front ++ xs, rest))

regroup : {A : Type 0} (front : List A) (x : A) (reading : Result (List A × List ℕ) TakeFault)
    → with_front front (go_on reading (λ xs rest. Ok (x ∷ xs, rest))) ≡ with_front (front ++ x ∷ []) reading
regroup front x (Ok y) = rw append_assoc refl
regroup front x (Err e) = refl

pub goes_on : {A : Type 0} (reading : List ℕ → Result (A × List ℕ) TakeFault) (front : List A) (count i : ℕ) (bytes : List ℕ) (x : A) (rest : List ℕ) (total : Result (List A × List ℕ) TakeFault)
    → i < count → reading bytes ≡ Ok (x, rest) → with_front front (elements_reading reading (count - i) bytes) ≡ total
    → with_front (front ++ x ∷ []) (elements_reading reading (count - (i + 1)) rest) ≡ total
unfolding elements_reading
goes_on reading front count i bytes x rest total lt h so_far =
    let k : count - i ≡ suc (count - (i + 1)) = omega arith in
    let one : with_front front (elements_reading reading (count - i) bytes) ≡ with_front (front ++ x ∷ []) (elements_reading reading (count - (i + 1)) rest) = rw (k, h) (regroup front x (elements_reading reading (count - (i + 1)) rest)) in
    sym one ∙ so_far

pub ends : {A : Type 0} (reading : List ℕ → Result (A × List ℕ) TakeFault) (front : List A) (count i : ℕ) (bytes : List ℕ) (e : TakeFault) (total : Result (List A × List ℕ) TakeFault)
    → i < count → reading bytes ≡ Err e → with_front front (elements_reading reading (count - i) bytes) ≡ total → total ≡ Err e
unfolding elements_reading
ends reading front count i bytes e total lt h so_far =
    let k : count - i ≡ suc (count - (i + 1)) = omega arith in
    let one : with_front front (elements_reading reading (count - i) bytes) ≡ Err e = rw (k, h) refl in
    sym so_far ∙ one

pub is_done : {A : Type 0} (reading : List ℕ → Result (A × List ℕ) TakeFault) (front : List A) (count i : ℕ) (bytes : List ℕ) (total : Result (List A × List ℕ) TakeFault)
    → count ≤ i → with_front front (elements_reading reading (count - i) bytes) ≡ total → total ≡ Ok (front, bytes)
unfolding elements_reading
is_done reading front count i bytes total le so_far =
    let k : count - i ≡ 0 = omega arith in
    let one : with_front front (elements_reading reading (count - i) bytes) ≡ Ok (front, bytes) = rw k (ap (λ ns. Ok (ns, bytes)) (append-nil front)) in
    sym so_far ∙ one

-- elements that are each read again are read again together
together : {A : Type 0} (reading : List ℕ → Result (A × List ℕ) TakeFault) (encoding : A → List ℕ) (items : List A) (x : List ℕ)
    → AllByRecursion (IsReadAgain reading encoding) items → elements_reading reading (length items) (flat_map encoding items ++ x) ≡ Ok (items, x)
unfolding elements_reading
together reading encoding [] x each = refl
together reading encoding (y ∷ ys) x each =
    let regrouped : flat_map encoding (y ∷ ys) ++ x ≡ encoding y ++ (flat_map encoding ys ++ x) = append_assoc (encoding y) (flat_map encoding ys) x in
    ap (elements_reading reading (suc (length ys))) regrouped ∙ rw (each.0 (flat_map encoding ys ++ x), together reading encoding ys x each.1) refl

pub elements_again : {A : Type 0} (reading : List ℕ → Result (A × List ℕ) TakeFault) (encoding : A → List ℕ) (items : List A) (x : List ℕ)
    → All (IsReadAgain reading encoding) items → elements_reading reading (length items) (flat_map encoding items ++ x) ≡ Ok (items, x)
elements_again reading encoding items x each = together reading encoding items x (recursion_from_All (IsReadAgain reading encoding) items each)

pub array_again : {A : Type 0} (reading : List ℕ → Result (A × List ℕ) TakeFault) (encoding : A → List ℕ) (items : List A)
    → length items < 2 ^ 31 → length items ≤ length (flat_map encoding items) → All (IsReadAgain reading encoding) items → IsReadAgain (array_reading reading) (array_encoding encoding) (Some items)
unfolding array_reading array_encoding
array_again reading encoding items short some each x =
    let n = length items in
    let body = flat_map encoding items in
    let enough : ltb (length (body ++ x)) n ≡ false = le-ltb _ _ (omega (arith, length-append body x, some)) in
    let small : leb (2 ^ 31) n ≡ false = lt-leb _ _ short in
    ap (array_reading reading) (append_assoc (number_encoding w32 n) body x) ∙ rw (number32_again n (body ++ x) (omega arith), small, enough, elements_again reading encoding items x each) refl

-- a length above the bytes left is Length
pub overclaim_is_length : {A : Type 0} (reading : List ℕ → Result (A × List ℕ) TakeFault) (bytes : List ℕ) → ClaimsTooMany bytes → array_reading reading bytes ≡ Err Length
unfolding array_reading
overclaim_is_length reading bytes claim =
    let small : leb (2 ^ 31) claim.count ≡ false = lt-leb _ _ claim.not_null in
    let few : ltb (length claim.rest) claim.count ≡ true = lt-ltb _ _ claim.above in
    rw (claim.read, small, few) refl
