-- How long a header is, and that it is read again.
use Rattle.std.proofs.Common.{◌≡◌, ℕ, ◌+◌, ◌<◌, ◌≤◌, Bool, true, false, cond, List, ◌∷◌, ◌++◌, length, take, drop, Ok, Err, refl, arith, append_assoc}
use Rattle.std.specs.Prelude.{nat_lt}
use Rattle.std.specs.Int.{w32, from_le_bytes}
use Rattle.std.proofs.lemmas.List.{length-append, length-drop, drop_at}
use Rattle.std.proofs.lemmas.Bool.Decides.{nat_tests}
use Rattle.ua_binary.specs.declared.fault.TakeFault.TheVariants.{Short}
use Rattle.ua_binary.specs.Reading.{Reading, go_on}
use Rattle.ua_binary.specs.Numbers.{number_reading, number_encoding}
use Rattle.ua_transport.specs.declared.headers.ChunkHeader.{ChunkHeader}
use Rattle.ua_binary.proofs.Again.{number32_again}
use Rattle.ua_transport.specs.Headers.{chunk_header_reading, chunk_header_encoding, opening_header_encoding, IsWritable}
use Rattle.ua_binary.specs.Texts.{byte_string_encoding}
use Rattle.ua_transport.specs.Cutting.{opening_header_by}
use Rattle.ua_transport.specs.SequenceNumbers.{sequence_number_after}

-- where a number is read and then more, four bytes were there
number_first : {B : Type 0} (short : Bool) (more : ℕ → Reading B) (bytes : List ℕ) (read : B × List ℕ) →
    go_on (go_on (cond short (Err Short) (Ok (take 4 bytes, drop 4 bytes))) (λ front rest. Ok (from_le_bytes w32 front, rest))) more ≡ Ok read →
    (short ≡ false) × (more (from_le_bytes w32 (take 4 bytes)) (drop 4 bytes) ≡ Ok read)
number_first true more bytes read e = absurd cc
number_first false more bytes read e = (refl, e)

number_before : {B : Type 0} (more : ℕ → Reading B) (bytes : List ℕ) (read : B × List ℕ) → go_on (number_reading w32 bytes) more ≡ Ok read →
    (4 ≤ length bytes) × (more (from_le_bytes w32 (take 4 bytes)) (drop 4 bytes) ≡ Ok read)
unfolding number_reading
number_before more bytes read e =
    let first : (nat_lt (length bytes) 4 ≡ false) × (more (from_le_bytes w32 (take 4 bytes)) (drop 4 bytes) ≡ Ok read) = number_first (nat_lt (length bytes) 4) more bytes read e in
    let short : nat_lt (length bytes) 4 ≡ false = first.0 in
    (grind (arith, nat_tests), first.1)

-- a header that can be read has 16 bytes
pub header_length : (bytes : List ℕ) (read : ChunkHeader × List ℕ) → chunk_header_reading bytes ≡ Ok read → 16 ≤ length bytes
unfolding chunk_header_reading
header_length bytes read e =
    let a = number_before _ bytes read e in
    let b = number_before _ (drop 4 bytes) read a.1 in
    let c = number_before _ (drop 4 (drop 4 bytes)) read b.1 in
    let d = number_before _ (drop 4 (drop 4 (drop 4 bytes))) read c.1 in
    omega (arith, a.0, b.0, c.0, d.0, length-drop 4 bytes, length-drop 4 (drop 4 bytes), length-drop 4 (drop 4 (drop 4 bytes)))

-- and so has one that is written
pub encoding_length : (header : ChunkHeader) → length (chunk_header_encoding header) ≡ 16
unfolding chunk_header_encoding number_encoding
encoding_length header = refl

-- a head before a body is the frame of both
pub head_before : (letters size header body : List ℕ) (letter : ℕ) → (letters ++ (letter ∷ (size ++ header))) ++ body ≡ letters ++ (letter ∷ (size ++ (header ++ body)))
head_before letters size header body letter = simp append_assoc

-- the fields, one after the other
apart : (a b c d x : List ℕ) → (((a ++ b) ++ c) ++ d) ++ x ≡ a ++ (b ++ (c ++ (d ++ x)))
apart a b c d x = simp append_assoc

-- a header that is written is read again, whatever follows it
pub header_again : (header : ChunkHeader) (part : List ℕ) → IsWritable header → chunk_header_reading (chunk_header_encoding header ++ part) ≡ Ok (header, part)
unfolding chunk_header_reading chunk_header_encoding
header_again header part w =
    let a = number_encoding w32 header.channel_id in
    let b = number_encoding w32 header.token_id in
    let c = number_encoding w32 header.sequence_number in
    let d = number_encoding w32 header.request_id in
    rw (
      apart a b c d part,
      number32_again header.channel_id (b ++ (c ++ (d ++ part))) w.channel_id,
      number32_again header.token_id (c ++ (d ++ part)) w.token_id,
      number32_again header.sequence_number (d ++ part) (omega (arith, w.sequence_number)),
      number32_again header.request_id part w.request_id,
    ) refl

pub part_again : (header : ChunkHeader) (part : List ℕ) → drop 16 (chunk_header_encoding header ++ part) ≡ part
part_again header part = drop_at (chunk_header_encoding header) part 16 (encoding_length header)

after_small : (b : Bool) (n : ℕ) → nat_lt n 4294966272 ≡ b → cond b (n + 1) 1 ≤ 4294966272
after_small true n e = let below : n < 4294966272 = grind (arith, nat_tests) in omega arith
after_small false n e = omega arith

pub sequence_number_small : (n : ℕ) → sequence_number_after n ≤ 4294966272
sequence_number_small n = after_small (nat_lt n 4294966272) n refl

-- the header of an OPN that is sent has 71 bytes: its numbers, the URI, and two nulls
pub opening_encoding_length : (channel_id sequence_number request_id : ℕ) → length (opening_header_encoding (opening_header_by channel_id sequence_number request_id)) ≡ 71
unfolding opening_header_encoding byte_string_encoding number_encoding
opening_encoding_length channel_id sequence_number request_id = refl

-- so there are 79 bytes before its body
pub opening_length : (channel_id sequence_number request_id : ℕ) (body : List ℕ) →
    length (opening_header_encoding (opening_header_by channel_id sequence_number request_id) ++ body) ≡ 71 + length body
opening_length channel_id sequence_number request_id body =
    omega (arith, opening_encoding_length channel_id sequence_number request_id, length-append (opening_header_encoding (opening_header_by channel_id sequence_number request_id)) body)
