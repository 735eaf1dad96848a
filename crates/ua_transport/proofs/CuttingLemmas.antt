-- Laws of a message in chunks.
use Rattle.std.proofs.Common.{◌≡◌, ℕ, zero, suc, ◌+◌, ◌-◌, ◌<◌, ◌≤◌, Bool, true, false, cond, List, [], ◌∷◌, ◌++◌, length, take, drop, refl, sym, ◌∙◌, ap, arith, append_assoc, ◌/◌, inl, inr, ◌⊎◌, Ok, Err}
use Rattle.std.specs.Prelude.{nat_lt, if◌then◌else◌}
use Rattle.std.proofs.lemmas.List.{length-drop}
use Rattle.std.proofs.lemmas.Bool.{cases_lt}
use Rattle.std.proofs.lemmas.Bool.Decides.{nat_tests}
use Rattle.std.proofs.Math.Nat.{div-eq_of_lt, div-eq-sub-div}
use Rattle.ua_transport.specs.declared.frame.ChunkType.{ChunkType}
use Rattle.ua_transport.specs.declared.frame.ChunkType.TheVariants.{Intermediate, Final}
use Rattle.ua_types.specs.Answers.{step}
use Rattle.ua_transport.specs.declared.send_fault.SendFault.TheVariants.{TooLarge}
use Rattle.ua_transport.specs.ChannelStates.{ChannelState}
use Rattle.ua_transport.specs.declared.headers.ChunkHeader.{ChunkHeader}
use Rattle.ua_transport.specs.Cutting.{Cut, cut_after, last_cut, chunk_encoding, next_header, cut_of, cut_within, sent_by, send_of, header_of, room_of, is_too_large}

-- no more chunks than bytes are needed
enough : (m n : ℕ) (last : ChunkType) (header : ChunkHeader) (room : ℕ) (body : List ℕ) → 0 < room → length body ≤ m → length body ≤ n → cut_within m last header room body ≡ cut_within n last header room body
unfolding cut_within
enough zero zero last header room body r a b = refl
enough zero (suc n) last header room [] r a b = let e : nat_lt room 0 ≡ false = grind (arith, nat_tests) in rw e refl
enough zero (suc n) last header room (x ∷ xs) r a b = absurd (omega arith)
enough (suc m) zero last header room [] r a b = let e : nat_lt room 0 ≡ false = grind (arith, nat_tests) in rw e refl
enough (suc m) zero last header room (x ∷ xs) r a b = absurd (omega arith)
enough (suc m) (suc n) last header room [] r a b = let e : nat_lt room 0 ≡ false = grind (arith, nat_tests) in rw e refl
enough (suc m) (suc n) last header room (x ∷ xs) r a b =
    let fewer : length (drop room (x ∷ xs)) ≤ m = omega (arith, length-drop room (x ∷ xs)) in
    let fewer' : length (drop room (x ∷ xs)) ≤ n = omega (arith, length-drop room (x ∷ xs)) in
    ap (λ (c : Cut). cond (nat_lt room (length (x ∷ xs))) (cut_after (chunk_encoding header Intermediate (take room (x ∷ xs)) ∷ []) c) (last_cut last header (x ∷ xs)))
    (enough m n last (next_header header) room (drop room (x ∷ xs)) r fewer fewer')

-- a body that is longer than a chunk: a full chunk, and then the rest
pub cut_more : (last : ChunkType) (header : ChunkHeader) (room : ℕ) (body : List ℕ) → 0 < room → room < length body →
    cut_of last header room body ≡ cut_after (chunk_encoding header Intermediate (take room body) ∷ []) (cut_of last (next_header header) room (drop room body))
unfolding cut_of cut_within
cut_more last header room body r l =
    let e : nat_lt room (length body) ≡ true = grind (arith, nat_tests) in
    let fewer : length (drop room body) ≤ length body = omega (arith, length-drop room body) in
    enough (length body) (suc (length body)) last header room body r (omega arith) (omega arith)
    ∙ rw e (ap (cut_after (chunk_encoding header Intermediate (take room body) ∷ [])) (enough (length body) (length (drop room body)) last (next_header header) room (drop room body) r fewer (omega arith)))

-- another one: one chunk
pub cut_last : (last : ChunkType) (header : ChunkHeader) (room : ℕ) (body : List ℕ) → 0 < room → length body ≤ room → cut_of last header room body ≡ last_cut last header body
unfolding cut_of cut_within
cut_last last header room body r l =
    let e : nat_lt room (length body) ≡ false = grind (arith, nat_tests) in
    enough (length body) (suc (length body)) last header room body r (omega arith) (omega arith) ∙ rw e refl

pub cut_after_twice : (a b : List (List ℕ)) (c : Cut) → cut_after (a ++ b) c ≡ cut_after a (cut_after b c)
cut_after_twice a b c = ap (λ (chunks : List (List ℕ)). record { chunks = chunks; sent = c.sent }) (append_assoc a b c.chunks)

count_within : (n : ℕ) (header : ChunkHeader) (room : ℕ) (body : List ℕ) → 0 < room → length body ≤ n → (room < length body) ⊎ (length body ≤ room) → length (cut_of Final header room body).chunks ≡ (length body - 1) / room + 1
count_within n header room body r l (inr fits) =
    let few : length body - 1 < room = omega arith in
    let none : (length body - 1) / room ≡ 0 = div-eq_of_lt few in
    ap (λ (c : Cut). length c.chunks) (cut_last Final header room body r fits) ∙ omega (arith, none)
count_within zero header room body r l (inl long) = absurd (omega arith)
count_within (suc n) header room body r l (inl long) =
    let rest = drop room body in
    let fewer : length rest ≡ length body - room = length-drop room body in
    let more : length (cut_of Final (next_header header) room rest).chunks ≡ (length rest - 1) / room + 1 =
    count_within n (next_header header) room rest r (omega arith) (cases_lt room (length rest)) in
    let same : length rest - 1 ≡ length body - 1 - room = omega arith in
    let one_more : (length body - 1) / room ≡ (length body - 1 - room) / room + 1 = div-eq-sub-div r (omega arith) in
    ap (λ (c : Cut). length c.chunks) (cut_more Final header room body r long)
    ∙ omega (arith, more, one_more, ap (λ (k : ℕ). k / room) same)

-- as many chunks as parts of this size
chunk_count : (header : ChunkHeader) (room : ℕ) (body : List ℕ) → 0 < room → length (cut_of Final header room body).chunks ≡ (length body - 1) / room + 1
chunk_count header room body r = count_within (length body) header room body r (omega arith) (cases_lt room (length body))

-- an answer that is not too large is cut
sent_chunks : (large : Bool) (s : ChannelState) (cut : Cut) (chunks : List (List ℕ)) →
    (if large then step (Err TooLarge) s else sent_by s cut).answer ≡ Ok chunks → cut.chunks ≡ chunks
sent_chunks true s cut chunks e = absurd cc
sent_chunks false s cut chunks e = cc

pub chunks_of_send : (s : ChannelState) (request_id : ℕ) (body : List ℕ) (chunks : List (List ℕ)) → (send_of s request_id body).answer ≡ Ok chunks →
    (cut_of Final (header_of s request_id) (room_of s.agreed) body).chunks ≡ chunks
chunks_of_send s request_id body chunks e =
    sent_chunks (is_too_large s.agreed (length body)) s (cut_of Final (header_of s request_id) (room_of s.agreed) body) chunks e

pub chunk_count_of_send : (s : ChannelState) (request_id : ℕ) (body : List ℕ) (chunks : List (List ℕ)) → 24 < s.agreed.send_size →
    (send_of s request_id body).answer ≡ Ok chunks → length chunks ≡ (length body - 1) / (s.agreed.send_size - 24) + 1
chunk_count_of_send s request_id body chunks r e =
    ap (λ (cs : List (List ℕ)). length cs) (sym (chunks_of_send s request_id body chunks e))
    ∙ chunk_count (header_of s request_id) (s.agreed.send_size - 24) body (omega arith)
