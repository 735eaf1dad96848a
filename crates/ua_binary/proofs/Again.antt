-- What is written is read again.
use Rattle.std.proofs.Common.{◌≡◌, ℕ, ℤ, ◌^◌, ◌<◌, true, false, ltb, leb, List, ◌++◌, length, Some, Ok, Err, refl, ap, ◌∙◌, append_assoc, arith}
use Rattle.std.specs.Int.{Width, w16, w32, byte_len, from_le_bytes, to_le_bytes, cast_signed, cast_unsigned}
use Rattle.std.specs.Prelude.{FitsSigned}
use Rattle.std.proofs.lemmas.Int.{to_z-of_z}
use Rattle.std.specs.Str.{IsUtf8}
use Rattle.std.proofs.lemmas.Bool.{le-ltb, lt-leb, lt-ltb}
use Rattle.std.proofs.lemmas.List.{take_at, drop_at, length-append}
use Rattle.std.proofs.lemmas.Nat.{from_le_bytes-to_le_bytes_2, from_le_bytes-to_le_bytes_4}
use Rattle.std.proofs.lemmas.Str.{is_utf8-from_IsUtf8}
use Rattle.ua_binary.specs.Reading.{IsReadAgain}
use Rattle.ua_binary.specs.Numbers.{bytes_reading, octets_reading, number_reading, number_encoding}
use Rattle.ua_binary.specs.Texts.{text_reading, text_encoding, byte_string_reading, byte_string_encoding, ClaimsTooMany}
use Rattle.ua_binary.specs.declared.fault.TakeFault.TheVariants.{Short}

-- so many bytes are read as they stand
bytes_again : (n : ℕ) (bytes x : List ℕ) → length bytes ≡ n → bytes_reading n (bytes ++ x) ≡ Ok (bytes, x)
bytes_again n bytes x e =
    let enough : ltb (length (bytes ++ x)) n ≡ false = le-ltb _ _ (omega (arith, length-append bytes x)) in
    rw (enough, take_at bytes x n e, drop_at bytes x n e) refl

-- a number of any width whose bytes give it back
number_again : (w : Width) (n : ℕ) (x : List ℕ) → length (to_le_bytes w n) ≡ byte_len w → from_le_bytes w (to_le_bytes w n) ≡ n → number_reading w (number_encoding w n ++ x) ≡ Ok (n, x)
unfolding number_reading number_encoding
number_again w n x sized back = rw (bytes_again (byte_len w) (to_le_bytes w n) x sized, back) refl

pub number16_again : (n : ℕ) (x : List ℕ) → n < 2 ^ 16 → number_reading w16 (number_encoding w16 n ++ x) ≡ Ok (n, x)
number16_again n x lt = number_again w16 n x refl (from_le_bytes-to_le_bytes_2 n lt)

pub number32_again : (n : ℕ) (x : List ℕ) → n < 2 ^ 32 → number_reading w32 (number_encoding w32 n ++ x) ≡ Ok (n, x)
number32_again n x lt = number_again w32 n x refl (from_le_bytes-to_le_bytes_4 n lt)

pub octets_again : (n : ℕ) (bytes x : List ℕ) → length bytes ≡ n → octets_reading n (bytes ++ x) ≡ Ok (bytes, x)
unfolding octets_reading
octets_again n bytes x e = bytes_again n bytes x e

pub byte_string_again : (bytes : List ℕ) → length bytes < 2 ^ 31 → IsReadAgain byte_string_reading byte_string_encoding (Some bytes)
unfolding byte_string_reading byte_string_encoding
byte_string_again bytes short x =
    let n = length bytes in
    let small : leb (2 ^ 31) n ≡ false = lt-leb _ _ short in
    ap byte_string_reading (append_assoc (number_encoding w32 n) bytes x) ∙ rw (number32_again n (bytes ++ x) (omega arith), small, bytes_again n bytes x refl) refl

pub text_again : (bytes : List ℕ) → IsReadAgain byte_string_reading byte_string_encoding (Some bytes) → IsUtf8 bytes → IsReadAgain text_reading text_encoding (Some bytes)
unfolding text_reading
text_again bytes again utf8 x = rw (again x, is_utf8-from_IsUtf8 bytes utf8) refl

-- a length above the bytes left is Short
pub overclaim_is_short : (bytes : List ℕ) → ClaimsTooMany bytes → byte_string_reading bytes ≡ Err Short
unfolding byte_string_reading
overclaim_is_short bytes claim =
    let small : leb (2 ^ 31) claim.count ≡ false = lt-leb _ _ claim.not_null in
    let few : ltb (length claim.rest) claim.count ≡ true = lt-ltb _ _ claim.above in
    rw (claim.read, small, few) refl

pub cast_back : (w : Width) (z : ℤ) → FitsSigned w z → cast_signed w (cast_unsigned w z) ≡ z
cast_back w z fits = to_z-of_z w z fits
