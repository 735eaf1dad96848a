-- Marks that are bits of words.
use Rattle.std.proofs.Common.{◌≡◌, ◌≢◌, ℕ, zero, suc, ◌+◌, ◌*◌, ◌/◌, ◌%◌, ◌^◌, ◌<◌, Bool, true, false, List, length, get_or, set, replicate, refl, sym, ap, ◌∙◌, inl, inr, arith, w64, get_or-set_same, get_or-set_other}
use Rattle.std.specs.Int.Bits.{bit_or}
use Rattle.std.proofs.lemmas.Nat.Bits.{bit_at-zero, bit_at_set_same, bit_at_set_other}
use Rattle.std.proofs.lemmas.Bool.{cases_eq}
use Rattle.ua_space.specs.Marks.{bit_of, bits_of, is_marked}

pub bits_length : (words : List ℕ) (first count : ℕ) → length (bits_of words first count) ≡ count
unfolding bits_of
bits_length words first zero = refl
bits_length words first (suc count) = ap suc (bits_length words (suc first) count)

-- the mark of a number is its bit
pub bit_there : (words : List ℕ) (first count k : ℕ) → k < count → is_marked (bits_of words first count) k ≡ bit_of words (first + k)
unfolding bits_of
bit_there words first zero k lt = absurd (omega arith)
bit_there words first (suc count) zero lt = ap (bit_of words) (let same : first ≡ first + 0 = omega arith in same)
bit_there words first (suc count) (suc k) lt = bit_there words (suc first) count k (omega arith) ∙ ap (bit_of words) (let same : suc first + k ≡ first + suc k = omega arith in same)

pub bit_is : (words : List ℕ) (count k : ℕ) → k < count → is_marked (bits_of words 0 count) k ≡ bit_of words k
bit_is words count k lt = bit_there words 0 count k lt ∙ ap (bit_of words) (let same : 0 + k ≡ k = omega arith in same)

pub inside : (words : List ℕ) (count : ℕ) (marks : List Bool) (k : ℕ) → bits_of words 0 count ≡ marks → k < length marks → k < count
inside words count marks k is lt = let len = ap length (sym is) ∙ bits_length words 0 count in omega (arith, len, lt)

-- ---- no bit is set

zero_there : (k i : ℕ) → ◌≡◌ {A = ℕ} (get_or (replicate k 0) i 0) 0
zero_there zero i = refl
zero_there (suc k) zero = refl
zero_there (suc k) (suc i) = zero_there k i

no_bit : (k n : ℕ) → bit_of (replicate k 0) n ≡ false
no_bit k n = rw (zero_there k (n / 64), bit_at-zero (n % 64)) refl

pub none_set : (k first count n : ℕ) → is_marked (bits_of (replicate k 0) first count) n ≡ false
unfolding bits_of
none_set k first zero n = refl
none_set k first (suc count) zero = no_bit k first
none_set k first (suc count) (suc n) = none_set k (suc first) count n

-- ---- one more bit

same_bits : (old new : List ℕ) (first count k : ℕ) → k < first → ((m : ℕ) → m ≢ k → bit_of new m ≡ bit_of old m) → bits_of new first count ≡ bits_of old first count
unfolding bits_of
same_bits old new first zero k lt others = refl
same_bits old new first (suc count) k lt others =
    rw (others first (λ e. let never : ⊥ = omega (arith, e, lt) in never), same_bits old new (suc first) count k (omega arith) others) refl

more_bits : (old new : List ℕ) (first count k : ℕ) → k < count → bit_of new (first + k) ≡ true → ((m : ℕ) → m ≢ first + k → bit_of new m ≡ bit_of old m) → bits_of new first count ≡ set (bits_of old first count) k true
unfolding bits_of
more_bits old new first zero k lt here others = absurd (omega arith)
more_bits old new first (suc count) zero lt here others =
    let place : first + 0 ≡ first = omega arith in
    let now : bit_of new first ≡ true = ap (bit_of new) (sym place) ∙ here in
    rw (now, same_bits old new (suc first) count (first + 0) (omega arith) others) refl
more_bits old new first (suc count) (suc k) lt here others =
    let place : suc first + k ≡ first + suc k = omega arith in
    let now : bit_of new (suc first + k) ≡ true = ap (bit_of new) place ∙ here in
    let rest = more_bits old new (suc first) count k (omega arith) now (λ m ne. others m (λ e. ne (e ∙ sym place))) in
    rw (others first (λ e. let never : ⊥ = omega (arith, e) in never), rest) refl

-- a word with one more bit
abbrev pub with_bit : List ℕ → ℕ → List ℕ
with_bit words k = set words (k / 64) (bit_or (get_or words (k / 64) 0) (1 * 2 ^ (k % 64) % 2 ^ 64))

bit_here : (words : List ℕ) (k : ℕ) → k / 64 < length words → bit_of (with_bit words k) k ≡ true
bit_here words k lt =
    rw (get_or-set_same words (k / 64) (bit_or (get_or words (k / 64) 0) (1 * 2 ^ (k % 64) % 2 ^ 64)) 0 lt, bit_at_set_same w64 (get_or words (k / 64) 0) (k % 64) (omega arith)) refl

bit_elsewhere : (words : List ℕ) (k m : ℕ) → k / 64 < length words → m ≢ k → bit_of (with_bit words k) m ≡ bit_of words m
bit_elsewhere words k m lt ne =
    elim (cases_eq (m / 64) (k / 64)) [
      | inl same ↦
          let apart : m % 64 ≢ k % 64 = λ e. ne (omega (arith, e, same)) in
          rw (same, get_or-set_same words (k / 64) (bit_or (get_or words (k / 64) 0) (1 * 2 ^ (k % 64) % 2 ^ 64)) 0 lt, bit_at_set_other w64 (get_or words (k / 64) 0) (k % 64) (omega arith) (m % 64) apart) refl
      | inr other ↦ rw (get_or-set_other words (k / 64) (m / 64) (bit_or (get_or words (k / 64) 0) (1 * 2 ^ (k % 64) % 2 ^ 64)) 0 other) refl
    ]

pub bit_added : (words : List ℕ) (count k : ℕ) → k < count → k / 64 < length words → bits_of (with_bit words k) 0 count ≡ set (bits_of words 0 count) k true
bit_added words count k lt within =
    let place : 0 + k ≡ k = omega arith in
    more_bits words (with_bit words k) 0 count k lt (ap (bit_of (with_bit words k)) place ∙ bit_here words k within)
    (λ m ne. bit_elsewhere words k m within (λ e. ne (e ∙ sym place)))
