-- What is read of a stream stands on it.
use Rattle.std.proofs.Common.{◌≡◌, ℕ, zero, suc, ◌+◌, ◌<◌, ◌≤◌, Bool, true, false, cond, List, [], ◌∷◌, ◌++◌, length, take, drop, get_or, Option, Some, None, Result, Ok, Err, refl, sym, ◌∙◌, ap, subst, ◌⊎◌, inl, inr, arith, append_assoc}
use Rattle.std.specs.Prelude.{nat_lt, ◌||◌, ◌==◌, codes, All, slice_index}
use Rattle.std.specs.List.{flat_map}
use Rattle.std.specs.Str.{bytes_eq}
use Rattle.std.specs.Int.{w32, to_le_bytes, from_le_bytes}
use Rattle.std.proofs.lemmas.Nat.{le_bytes_4}
use Rattle.std.proofs.lemmas.List.{length-take, length-take-le, length-drop, take-append-drop, take-take, take_all}
use Rattle.std.proofs.lemmas.List.Elements.{All-drop, All-take, All-get_or}
use Rattle.std.proofs.lemmas.Slice.Eq.{bytes_eq-Decides}
use Rattle.std.proofs.lemmas.Bool.Decides.{nat_tests}
use Rattle.std.proofs.Math.Seq.{drop-cons}
use Rattle.ua_transport.specs.Header.{judgement_of, judgement_at, header_of, header_from, message_type_of, chunk_type_of, may_come_in}
use Rattle.ua_transport.specs.Encoding.{letters_of, letter_of, frame_encoding, IsFrame, Splits}
use Rattle.ua_transport.specs.Frames.{Framed, frames, with_front, frame_of}
use Rattle.ua_types.proofs.Choices.{chosen}
use Rattle.ua_transport.proofs.FramesLemmas.{frames_judged, whole_size}
use Rattle.ua_transport.proofs.FeedingLemmas.{header_of-size}
use Rattle.ua_transport.specs.declared.frame.Frame.{Frame}
use Rattle.ua_transport.specs.declared.frame.FrameFault.{FrameFault}
use Rattle.ua_transport.specs.declared.frame.Header.{Header}
use Rattle.ua_transport.specs.declared.frame.Judgement.{Judgement}
use Rattle.ua_transport.specs.declared.frame.Judgement.TheVariants.{Incomplete, Faulty, Whole}
use Rattle.ua_transport.specs.declared.frame.MessageType.{MessageType}
use Rattle.ua_transport.specs.declared.frame.MessageType.TheVariants.{Hello, Acknowledge, Error, OpenSecureChannel, Message, CloseSecureChannel}
use Rattle.ua_transport.specs.declared.frame.ChunkType.{ChunkType}
use Rattle.ua_transport.specs.declared.frame.ChunkType.TheVariants.{Intermediate, Final, Aborted}

-- what the first of the choices says, or the others gave it
picked : {A : Type 0} (b : Bool) (k : A) (other : Option A) (m : A) (P : A → Type 0) → (b ≡ true → P k) → cond b (Some k) other ≡ Some m → P m ⊎ (other ≡ Some m)
picked true k other m P p e = let same : k ≡ m = cc in inl (subst P same (p refl))
picked false k other m P p e = inr e

same_bytes : (xs ys : List ℕ) → bytes_eq xs ys ≡ true → ys ≡ xs
same_bytes xs ys e = sym ((bytes_eq-Decides xs ys).0 e)

read_letters : (letters : List ℕ) (m : MessageType) → message_type_of letters ≡ Some m → letters_of m ≡ letters
read_letters letters m e =
    let P : MessageType → Type 0 = λ k. letters_of k ≡ letters in
    elim (picked (bytes_eq letters (codes "HEL")) Hello _ m P (same_bytes letters (codes "HEL")) e) [
      | inl p ↦ p
      | inr e1 ↦
          elim (picked (bytes_eq letters (codes "ACK")) Acknowledge _ m P (same_bytes letters (codes "ACK")) e1) [
            | inl p ↦ p
            | inr e2 ↦
                elim (picked (bytes_eq letters (codes "ERR")) Error _ m P (same_bytes letters (codes "ERR")) e2) [
                  | inl p ↦ p
                  | inr e3 ↦
                      elim (picked (bytes_eq letters (codes "OPN")) OpenSecureChannel _ m P (same_bytes letters (codes "OPN")) e3) [
                        | inl p ↦ p
                        | inr e4 ↦
                            elim (picked (bytes_eq letters (codes "MSG")) Message _ m P (same_bytes letters (codes "MSG")) e4) [
                              | inl p ↦ p
                              | inr e5 ↦
                                  elim (picked (bytes_eq letters (codes "CLO")) CloseSecureChannel None m P (same_bytes letters (codes "CLO")) e5) [ inl p ↦ p | inr e6 ↦ absurd (cc e6) ]
                            ]
                      ]
                ]
          ]
    ]

same_letter : (a b : ℕ) → (a == b) ≡ true → b ≡ a
same_letter a b e = grind (arith, nat_tests)

read_letter : (letter : ℕ) (c : ChunkType) → chunk_type_of letter ≡ Some c → letter_of c ≡ letter
read_letter letter c e =
    let P : ChunkType → Type 0 = λ k. letter_of k ≡ letter in
    elim (picked (letter == 67) Intermediate _ c P (same_letter letter 67) e) [
      | inl p ↦ p
      | inr e1 ↦
          elim (picked (letter == 70) Final _ c P (same_letter letter 70) e1) [
            | inl p ↦ p
            | inr e2 ↦
                elim (picked (letter == 65) Aborted None c P (same_letter letter 65) e2) [ inl p ↦ p | inr e3 ↦ absurd (cc e3) ]
          ]
    ]

-- what a header says is what was judged
record Said (size : ℕ) (message_type : Option MessageType) (chunk_type : Option ChunkType) (h : Header) : Type 0 where
  pub letters : message_type ≡ Some h.message_type
  pub letter : chunk_type ≡ Some h.chunk_type
  pub size_is : size ≡ h.size
  pub comes : may_come_in h.message_type h.chunk_type ≡ true

said : (limit size : ℕ) (message_type : Option MessageType) (chunk_type : Option ChunkType) (h : Header) → header_from limit size message_type chunk_type ≡ Ok h → Said size message_type chunk_type h
said limit size None chunk_type h e = absurd cc
said limit size (Some m) None h e = absurd cc
said limit size (Some m) (Some c) h e =
    elim (chosen (may_come_in m c) _ _ (Ok h) e) [
      | inl p ↦ elim (chosen (nat_lt size 8 || nat_lt limit size) _ _ (Ok h) p.1) [
        | inl q ↦ absurd (cc q.1)
        | inr q ↦
            let g : Header = record { message_type = m; chunk_type = c; size = size } in
            let same : g ≡ h = cc q.1 in
            let of_g : Said size (Some m) (Some c) g = record { letters = refl; letter = refl; size_is = refl; comes = p.0 } in
            subst (λ (x : Header). Said size (Some m) (Some c) x) same of_g
      ]
      | inr p ↦ absurd (cc p.1)
    ]

below : (bytes : List ℕ) → All (λ b. b < 256) bytes → (i : ℕ) → get_or bytes i 0 < 256
below [] all i = omega arith
below (x ∷ xs) all zero = All-get_or (λ b. b < 256) (x ∷ xs) 0 0 (omega arith) all
below (x ∷ xs) all (suc i) = below xs (All-drop (λ b. b < 256) 1 (x ∷ xs) all) i

-- eight bytes are three, one and four
parts : (bytes : List ℕ) → length bytes ≡ 8 → bytes ≡ take 3 bytes ++ (slice_index bytes 3 ∷ take 4 (drop 4 bytes))
parts bytes l =
    let less : 3 < length bytes = omega arith in
    let short : length (drop 4 bytes) ≤ 4 = omega (arith, length-drop 4 bytes) in
    sym (take-append-drop 3 bytes) ∙ ap (λ (t : List ℕ). take 3 bytes ++ t) (drop-cons bytes 3 0 less)
    ∙ ap (λ (t : List ℕ). take 3 bytes ++ (get_or bytes 3 0 ∷ t)) (sym (take_all 4 (drop 4 bytes) short))

header_bytes : (limit : ℕ) (bytes : List ℕ) (h : Header) → length bytes ≡ 8 → All (λ b. b < 256) bytes → header_of limit bytes ≡ Ok h →
    (bytes ≡ letters_of h.message_type ++ (letter_of h.chunk_type ∷ to_le_bytes w32 h.size)) × (may_come_in h.message_type h.chunk_type ≡ true)
unfolding header_of
header_bytes limit bytes h l all e =
    let s : Said (from_le_bytes w32 (take 4 (drop 4 bytes))) (message_type_of (take 3 bytes)) (chunk_type_of (slice_index bytes 3)) h = said limit _ _ _ h e in
    let four : length (take 4 (drop 4 bytes)) ≡ 4 = omega (arith, length-take 4 (drop 4 bytes), length-drop 4 bytes) in
    let size : to_le_bytes w32 h.size ≡ take 4 (drop 4 bytes) =
    le_bytes_4 (take 4 (drop 4 bytes)) h.size four (below (take 4 (drop 4 bytes)) (All-take (λ b. b < 256) 4 (drop 4 bytes) (All-drop (λ b. b < 256) 4 bytes all))) (sym s.size_is) in
    let letters : letters_of h.message_type ≡ take 3 bytes = read_letters (take 3 bytes) h.message_type s.letters in
    let letter : letter_of h.chunk_type ≡ slice_index bytes 3 = read_letter (slice_index bytes 3) h.chunk_type s.letter in
    (parts bytes l ∙ rw (sym letters, sym letter, sym size) refl, s.comes)

-- a header that was judged whole was let through
whole_header : (limit : ℕ) (bytes : List ℕ) (h : Header) → judgement_of limit bytes ≡ Whole h → header_of limit (take 8 bytes) ≡ Ok h
unfolding judgement_of
whole_header limit bytes h e =
    elim (chosen (nat_lt (length bytes) 8) Incomplete (judgement_at (length bytes) (header_of limit (take 8 bytes))) (Whole h) e) [
      | inl q ↦ absurd (cc q.1)
      | inr q ↦ at_whole (length bytes) (header_of limit (take 8 bytes)) h q.1
    ]
  where
    at_whole : (len : ℕ) (r : Result Header FrameFault) (h : Header) → judgement_at len r ≡ Whole h → r ≡ Ok h
    at_whole len (Err f) h e = absurd cc
    at_whole len (Ok g) h e =
        elim (chosen (nat_lt len g.size) Incomplete (Whole g) (Whole h) e) [ inl q ↦ absurd (cc q.1) | inr q ↦ (cc q.1) ]

-- a frame that is taken off is the bytes that it is taken of
first_bytes : (limit : ℕ) (x : List ℕ) (h : Header) → All (λ b. b < 256) x → judgement_of limit x ≡ Whole h →
    (take h.size x ≡ frame_encoding (frame_of h x)) × IsFrame limit (frame_of h x)
first_bytes limit x h all e =
    let s : (8 ≤ h.size) × (h.size ≤ length x) = whole_size limit x h e in
    let ok : header_of limit (take 8 x) ≡ Ok h = whole_header limit x h e in
    let small : h.size ≤ limit = header_of-size limit (take 8 x) h ok in
    let long : length (take 8 x) ≡ 8 = length-take-le 8 x (omega arith) in
    let head : (take 8 x ≡ letters_of h.message_type ++ (letter_of h.chunk_type ∷ to_le_bytes w32 h.size)) × (may_come_in h.message_type h.chunk_type ≡ true) =
    header_bytes limit (take 8 x) h long (All-take (λ b. b < 256) 8 x all) ok in
    let body = drop 8 (take h.size x) in
    let size : 8 + length body ≡ h.size = omega (arith, length-drop 8 (take h.size x), length-take-le h.size x s.1) in
    let front : take 8 (take h.size x) ≡ take 8 x = take-take 8 h.size x s.0 in
    let whole : take h.size x ≡ (letters_of h.message_type ++ (letter_of h.chunk_type ∷ to_le_bytes w32 h.size)) ++ body =
    sym (take-append-drop 8 (take h.size x)) ∙ ap (λ (t : List ℕ). t ++ body) (front ∙ head.0) in (
      whole ∙ append_assoc (letters_of h.message_type) (letter_of h.chunk_type ∷ to_le_bytes w32 h.size) body
          ∙ ap (λ (n : ℕ). letters_of h.message_type ++ (letter_of h.chunk_type ∷ (to_le_bytes w32 n ++ body))) (sym size),
      record { chunk_type = head.1; size = omega arith },
    )

-- the bytes behind the last whole frame, with the frames before them
abbrev Split : ℕ → List ℕ → Framed → Type 0
Split limit stream framed = (tail : List ℕ) × Splits limit stream framed.frames tail framed.end

one_more : (limit : ℕ) (x : List ℕ) (h : Header) (f : Frame) (framed : Framed) → take h.size x ≡ frame_encoding f → IsFrame limit f → Split limit (drop h.size x) framed → Split limit x (with_front (f ∷ []) framed)
one_more limit x h f framed e is s =
    let t = s.0 in
    let there : x ≡ flat_map frame_encoding (f ∷ framed.frames) ++ t =
    sym (take-append-drop h.size x) ∙ ap (λ (a : List ℕ). a ++ drop h.size x) e ∙ ap (λ (b : List ℕ). frame_encoding f ++ b) s.1.whole
    ∙ sym (append_assoc (frame_encoding f) (flat_map frame_encoding framed.frames) t) in
    (t, record { whole = there; each = (is, s.1.each); ends = s.1.ends })

split_within : (n limit : ℕ) (x : List ℕ) → length x ≤ n → All (λ b. b < 256) x → (j : Judgement) → judgement_of limit x ≡ j → Split limit x (frames limit x)
split_within n limit x l all Incomplete e =
    subst (Split limit x) (sym (frames_judged limit x Incomplete e)) (x, record { whole = refl; each = tt; ends = (refl, e) })
split_within n limit x l all (Faulty f) e =
    subst (Split limit x) (sym (frames_judged limit x (Faulty f) e)) (x, record { whole = refl; each = tt; ends = e })
split_within zero limit x l all (Whole h) e =
    let s : (8 ≤ h.size) × (h.size ≤ length x) = whole_size limit x h e in absurd (omega arith)
split_within (suc n) limit x l all (Whole h) e =
    let s : (8 ≤ h.size) × (h.size ≤ length x) = whole_size limit x h e in
    let fewer : length (drop h.size x) ≤ n = omega (arith, length-drop h.size x) in
    let rest = split_within n limit (drop h.size x) fewer (All-drop (λ b. b < 256) h.size x all) (judgement_of limit (drop h.size x)) refl in
    let first = first_bytes limit x h all e in
    subst (Split limit x) (sym (frames_judged limit x (Whole h) e)) (one_more limit x h (frame_of h x) (frames limit (drop h.size x)) first.0 first.1 rest)

-- a stream of bytes is the frames that are read of it, and their end
pub read_split : (limit : ℕ) (stream : List ℕ) → All (λ b. b < 256) stream →
    (tail : List ℕ) × Splits limit stream (frames limit stream).frames tail (frames limit stream).end
read_split limit stream all = split_within (length stream) limit stream (omega arith) all (judgement_of limit stream) refl
