-- Answers that always fit.
use Rattle.std.proofs.Common.{◌≡◌, ℕ, ◌+◌, ◌-◌, ◌<◌, ◌≤◌, ◌==◌, ◌/◌, false, nat_lt, List, length, IsOk, refl, arith, inl, inr}
use Rattle.std.proofs.Math.Nat.{div-eq_of_lt}
use Rattle.std.proofs.lemmas.Bool.{cases_Bool}
use Rattle.std.proofs.lemmas.Bool.Decides.{nat_tests}
use Rattle.ua_transport.specs.Agreements.{Agreement, IsAgreement}
use Rattle.ua_transport.specs.ChannelStates.{ChannelState}
use Rattle.ua_transport.specs.SequenceNumbers.{sequence_number_after}
use Rattle.ua_transport.specs.Cutting.{written_id, exceeds, chunk_count_of, is_too_large, room_of, send_of, opening_header_of, opening_frame, is_opening_too_large, send_opening_of}
use Rattle.ua_transport.proofs.HeaderLemmas.{opening_length}

-- a limit is exceeded only where it is one
not_exceeded : (limit n : ℕ) → (0 < limit → n ≤ limit) → exceeds limit n ≡ false
not_exceeded limit n h =
    elim (cases_Bool (limit == 0)) [
      | inl none ↦ rw none refl
      | inr some ↦
          let more : 0 < limit = grind (arith, nat_tests) in
          let within : n ≤ limit = h more in
          let two : nat_lt limit n ≡ false = grind (arith, nat_tests) in
          rw (some, two) refl
    ]

not_too_large : (agreed : Agreement) (len : ℕ) → IsAgreement agreed → len ≤ 1000 → is_too_large agreed len ≡ false
not_too_large agreed len a small =
    let none : (len - 1) / (agreed.send_size - 24) ≡ 0 = div-eq_of_lt (omega (arith, a.send_size)) in
    let message : exceeds agreed.max_message_size len ≡ false = not_exceeded agreed.max_message_size len (λ some. (let least = a.max_message_size some in omega arith)) in
    let count : exceeds agreed.max_chunk_count (chunk_count_of (room_of agreed) len) ≡ false = not_exceeded agreed.max_chunk_count _ (λ some. omega (arith, none)) in
    rw (message, count) refl

-- an answer of at most 1000 bytes
pub fits : (s : ChannelState) (request_id : ℕ) (body : List ℕ) → IsAgreement s.agreed → length body ≤ 1000 → IsOk (send_of s request_id body).answer
fits s request_id body a small = rw (not_too_large s.agreed (length body) a small) refl

not_too_large_opening : (s : ChannelState) (request_id : ℕ) (body : List ℕ) → IsAgreement s.agreed → length body ≤ 945 →
    is_opening_too_large s.agreed (opening_frame (opening_header_of s request_id) body) (length body) ≡ false
not_too_large_opening s request_id body a small =
    let message : exceeds s.agreed.max_message_size (length body) ≡ false = not_exceeded s.agreed.max_message_size (length body) (λ some. (let least = a.max_message_size some in omega arith)) in
    let whole = opening_length (written_id s.channel_id) (sequence_number_after s.sent) request_id body in
    let size : nat_lt s.agreed.send_size (8 + length (opening_frame (opening_header_of s request_id) body).body) ≡ false = grind (arith, nat_tests, whole, a.send_size) in
    rw (message, size) refl

-- an answer of at most 945 bytes to an OPN
pub opening_fits : (s : ChannelState) (request_id : ℕ) (body : List ℕ) → IsAgreement s.agreed → length body ≤ 945 → IsOk (send_opening_of s request_id body).answer
opening_fits s request_id body a small = rw (not_too_large_opening s request_id body a small) refl
