-- A length that is put in after what it counts was written.
use Rattle.std.proofs.Common.{◌≡◌, ℕ, ◌+◌, List, ◌++◌, length, take, drop, Some, refl, ap, ◌∙◌, arith, append_assoc}
use Rattle.std.specs.Int.{w32, to_le_bytes}
use Rattle.std.proofs.lemmas.List.{length-append}
use Rattle.std.proofs.Math.Seq.{take-append_seam, drop-append_seam}
use Rattle.ua_binary.specs.Numbers.{number_encoding}
use Rattle.ua_binary.specs.Texts.{byte_string_encoding}

pub four_bytes : (n : ℕ) → length (number_encoding w32 n) ≡ 4
unfolding number_encoding
four_bytes n = refl

-- four bytes behind the front make place for the length
pub sized_in_place : (front four bytes all : List ℕ) (at size : ℕ) → at ≡ length front → length four ≡ 4 → all ≡ (front ++ four) ++ bytes → size ≡ length bytes
    → take at all ++ (to_le_bytes w32 size ++ drop (at + 4) all) ≡ front ++ byte_string_encoding (Some bytes)
unfolding byte_string_encoding number_encoding
sized_in_place front four bytes all at size here four_long is counted =
    let before : take at all ≡ front =
    ap (take at) (is ∙ append_assoc front four bytes) ∙ ap (λ (n : ℕ). take n (front ++ (four ++ bytes))) here ∙ take-append_seam front (four ++ bytes) in
    let end : at + 4 ≡ length (front ++ four) = omega (arith, length-append front four) in
    let behind : drop (at + 4) all ≡ bytes =
    ap (drop (at + 4)) is ∙ ap (λ (n : ℕ). drop n ((front ++ four) ++ bytes)) end ∙ drop-append_seam (front ++ four) bytes in
    rw (before, behind, counted) refl
