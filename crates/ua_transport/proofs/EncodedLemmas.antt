-- What is frame_encoding as frames is read as those frames.
use Rattle.std.proofs.Common.{◌≡◌, ℕ, ◌+◌, ◌<◌, ◌≤◌, ◌^◌, true, false, List, [], ◌∷◌, ◌++◌, length, take, drop, Some, Ok, refl, sym, ◌∙◌, ap, arith, append_assoc}
use Rattle.std.specs.Prelude.{nat_lt}
use Rattle.std.specs.List.{flat_map, AllByRecursion}
use Rattle.std.specs.Int.{w32, to_le_bytes, from_le_bytes}
use Rattle.std.proofs.lemmas.Nat.{from_le_bytes-to_le_bytes_4}
use Rattle.std.proofs.lemmas.List.{length-append}
use Rattle.std.proofs.Math.Seq.{take-append_seam, drop-append_seam}
use Rattle.std.proofs.lemmas.Bool.Decides.{nat_tests}
use Rattle.ua_transport.specs.Header.{judgement_of, header_of, judgement_at, header_from, chunk_type_of, may_come_in}
use Rattle.ua_transport.specs.Encoding.{letters_of, letter_of, frame_encoding, IsFrame, IsEnd, Splits}
use Rattle.ua_transport.specs.Frames.{End, Rest, Broken, frames, with_front}
use Rattle.ua_transport.proofs.FramesLemmas.{frames_judged}
use Rattle.ua_transport.specs.declared.frame.Frame.{Frame}
use Rattle.ua_transport.specs.declared.frame.Header.{Header}
use Rattle.ua_transport.specs.declared.frame.Judgement.TheVariants.{Incomplete, Faulty, Whole}
use Rattle.ua_transport.specs.declared.frame.MessageType.{MessageType}
use Rattle.ua_transport.specs.declared.frame.MessageType.TheVariants.{Hello, Acknowledge, Error, OpenSecureChannel, Message, CloseSecureChannel}
use Rattle.ua_transport.specs.declared.frame.ChunkType.{ChunkType}
use Rattle.ua_transport.specs.declared.frame.ChunkType.TheVariants.{Intermediate, Final, Aborted}

chunk_encoded : (c : ChunkType) → chunk_type_of (letter_of c) ≡ Some c
chunk_encoded Intermediate = refl
chunk_encoded Final = refl
chunk_encoded Aborted = refl

sized_ok : (limit n : ℕ) (k : MessageType) (c : ChunkType) → may_come_in k c ≡ true → 8 ≤ n → n ≤ limit → header_from limit n (Some k) (Some c) ≡ Ok (record { message_type = k; chunk_type = c; size = n })
sized_ok limit n k c m l h =
    let small : nat_lt n 8 ≡ false = grind (arith, nat_tests) in
    let large : nat_lt limit n ≡ false = grind (arith, nat_tests) in
    rw (m, small, large) refl

-- eight bytes
head_of : MessageType → ChunkType → ℕ → List ℕ
head_of k c n = letters_of k ++ (letter_of c ∷ to_le_bytes w32 n)

sized_encoded : (limit n : ℕ) (k : MessageType) (c : ChunkType) → n < 2 ^ 32 → header_from limit (from_le_bytes w32 (to_le_bytes w32 n)) (Some k) (chunk_type_of (letter_of c)) ≡ header_from limit n (Some k) (Some c)
sized_encoded limit n k c l =
    ap (λ (s : ℕ). header_from limit s (Some k) (chunk_type_of (letter_of c))) (from_le_bytes-to_le_bytes_4 n l) ∙ ap (header_from limit n (Some k)) (chunk_encoded c)

header_encoded : (limit n : ℕ) (k : MessageType) (c : ChunkType) → n < 2 ^ 32 → header_of limit (head_of k c n) ≡ header_from limit n (Some k) (Some c)
unfolding header_of head_of
header_encoded limit n Hello c l = sized_encoded limit n Hello c l
header_encoded limit n Acknowledge c l = sized_encoded limit n Acknowledge c l
header_encoded limit n Error c l = sized_encoded limit n Error c l
header_encoded limit n OpenSecureChannel c l = sized_encoded limit n OpenSecureChannel c l
header_encoded limit n Message c l = sized_encoded limit n Message c l
header_encoded limit n CloseSecureChannel c l = sized_encoded limit n CloseSecureChannel c l

head_length : (k : MessageType) (c : ChunkType) (n : ℕ) → length (head_of k c n) ≡ 8
unfolding head_of
head_length Hello c n = refl
head_length Acknowledge c n = refl
head_length Error c n = refl
head_length OpenSecureChannel c n = refl
head_length Message c n = refl
head_length CloseSecureChannel c n = refl

-- a head that is let through, and as many bytes behind it as it says
judged_head : (limit : ℕ) (head behind : List ℕ) (h : Header) → length head ≡ 8 → header_of limit head ≡ Ok h → h.size ≤ 8 + length behind → judgement_of limit (head ++ behind) ≡ Whole h
unfolding judgement_of
judged_head limit head behind h l e fits =
    let len : length (head ++ behind) ≡ 8 + length behind = omega (arith, length-append head behind) in
    let many : nat_lt (length (head ++ behind)) 8 ≡ false = grind (arith, nat_tests) in
    let enough : nat_lt (length (head ++ behind)) h.size ≡ false = grind (arith, nat_tests) in
    let front : take 8 (head ++ behind) ≡ head = ap (λ (n : ℕ). take n (head ++ behind)) (sym l) ∙ take-append_seam head behind in
    rw many (ap (judgement_at (length (head ++ behind))) (ap (header_of limit) front ∙ e) ∙ rw enough refl)

frame_encoding_is : (f : Frame) → frame_encoding f ≡ head_of f.message_type f.chunk_type (8 + length f.body) ++ f.body
unfolding head_of
frame_encoding_is f = sym (append_assoc (letters_of f.message_type) (letter_of f.chunk_type ∷ to_le_bytes w32 (8 + length f.body)) f.body)

-- the first frame is read off
one_read : (limit : ℕ) (f : Frame) (more : List ℕ) → limit < 2 ^ 32 → IsFrame limit f → frames limit (frame_encoding f ++ more) ≡ with_front (f ∷ []) (frames limit more)
one_read limit f more l is =
    let n = 8 + length f.body in
    let head = head_of f.message_type f.chunk_type n in
    let h : Header = record { message_type = f.message_type; chunk_type = f.chunk_type; size = n } in
    let long : length head ≡ 8 = head_length f.message_type f.chunk_type n in
    let ok : header_of limit head ≡ Ok h = header_encoded limit n f.message_type f.chunk_type (omega (arith, is.size)) ∙ sized_ok limit n f.message_type f.chunk_type is.chunk_type (omega arith) is.size in
    let whole : judgement_of limit (head ++ (f.body ++ more)) ≡ Whole h = judged_head limit head (f.body ++ more) h long ok (omega (arith, length-append f.body more)) in
    let text : frame_encoding f ++ more ≡ head ++ (f.body ++ more) = ap (λ (t : List ℕ). t ++ more) (frame_encoding_is f) ∙ append_assoc head f.body more in
    let len : n ≡ length (head ++ f.body) = omega (arith, length-append head f.body) in
    let taken : take n (head ++ (f.body ++ more)) ≡ head ++ f.body =
    ap (take n) (sym (append_assoc head f.body more)) ∙ ap (λ (k : ℕ). take k ((head ++ f.body) ++ more)) len ∙ take-append_seam (head ++ f.body) more in
    let left : drop n (head ++ (f.body ++ more)) ≡ more =
    ap (drop n) (sym (append_assoc head f.body more)) ∙ ap (λ (k : ℕ). drop k ((head ++ f.body) ++ more)) len ∙ drop-append_seam (head ++ f.body) more in
    let body : drop 8 (take n (head ++ (f.body ++ more))) ≡ f.body =
    ap (drop 8) taken ∙ ap (λ (k : ℕ). drop k (head ++ f.body)) (sym long) ∙ drop-append_seam head f.body in
    ap (frames limit) text
    ∙ frames_judged limit (head ++ (f.body ++ more)) (Whole h) whole
    ∙ ap (λ (b : List ℕ). with_front (record { message_type = f.message_type; chunk_type = f.chunk_type; body = b } ∷ []) (frames limit (drop n (head ++ (f.body ++ more))))) body
    ∙ ap (λ (t : List ℕ). with_front (f ∷ []) (frames limit t)) left

-- what is read behind the last whole frame
end_read : (limit : ℕ) (tail : List ℕ) (end : End) → IsEnd limit tail end → frames limit tail ≡ record { frames = []; end = end }
end_read limit tail (Rest bytes) s = frames_judged limit tail Incomplete s.1 ∙ ap (λ (b : List ℕ). record { frames = []; end = Rest b }) (sym s.0)
end_read limit tail (Broken fault) s = frames_judged limit tail (Faulty fault) s

all_read : (limit : ℕ) (fs : List Frame) (tail : List ℕ) (end : End) → limit < 2 ^ 32 → AllByRecursion (IsFrame limit) fs → IsEnd limit tail end → frames limit (flat_map frame_encoding fs ++ tail) ≡ record { frames = fs; end = end }
all_read limit [] tail end l each e = end_read limit tail end e
all_read limit (f ∷ fs) tail end l each e =
    ap (frames limit) (append_assoc (frame_encoding f) (flat_map frame_encoding fs) tail)
    ∙ one_read limit f (flat_map frame_encoding fs ++ tail) l each.0
    ∙ ap (with_front (f ∷ [])) (all_read limit fs tail end l each.1 e)

-- a stream that splits into frames is read as those frames
pub split_read : (limit : ℕ) (stream : List ℕ) (fs : List Frame) (tail : List ℕ) (end : End) → limit < 2 ^ 32 → Splits limit stream fs tail end → frames limit stream ≡ record { frames = fs; end = end }
split_read limit stream fs tail end l s = ap (frames limit) s.whole ∙ all_read limit fs tail end l s.each s.ends
