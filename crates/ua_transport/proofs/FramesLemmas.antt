-- Laws of the frames of a stream.
use Rattle.std.proofs.Common.{◌≡◌, ℕ, zero, suc, ◌≤◌, Bool, true, false, cond, List, [], ◌∷◌, ◌++◌, length, take, drop, Option, Some, None, Result, Ok, Err, refl, sym, ◌∙◌, ap, subst, arith, append_assoc, append-nil, inl, inr}
use Rattle.std.specs.Prelude.{nat_lt, ◌||◌, slice_index}
use Rattle.std.specs.Int.{w32, from_le_bytes}
use Rattle.std.proofs.lemmas.List.{take-append-le, drop-append-le, length-append, length-drop}
use Rattle.std.proofs.lemmas.Bool.Decides.{nat_tests}
use Rattle.ua_types.proofs.Choices.{chosen}
use Rattle.ua_transport.specs.Header.{judgement_of, header_of, judgement_at, header_from, message_type_of, chunk_type_of, may_come_in}
use Rattle.ua_transport.specs.Frames.{End, Rest, Broken, Framed, frame_of, with_front, frames_by, framed_within, frames, continuation_of, frames_then}
use Rattle.ua_transport.specs.declared.frame.MessageType.{MessageType}
use Rattle.ua_transport.specs.declared.frame.ChunkType.{ChunkType}
use Rattle.ua_transport.specs.declared.frame.Frame.{Frame}
use Rattle.ua_transport.specs.declared.frame.FrameFault.{FrameFault}
use Rattle.ua_transport.specs.declared.frame.Header.{Header}
use Rattle.ua_transport.specs.declared.frame.Judgement.{Judgement}
use Rattle.ua_transport.specs.declared.frame.Judgement.TheVariants.{Incomplete, Faulty, Whole}

not_first : {A : Type 0} (b : Bool) (x y : A) → (cond b x y ≡ x → ⊥) → b ≡ false
not_first true x y k = absurd (k refl)
not_first false x y k = refl

-- a size that passes the test is eight at least
long_enough : (limit size : ℕ) → (nat_lt size 8 || nat_lt limit size) ≡ false → 8 ≤ size
long_enough limit size e = grind (arith, nat_tests)

sized_ok : (limit size : ℕ) (kind : Option MessageType) (chunk : Option ChunkType) (h : Header) → header_from limit size kind chunk ≡ Ok h → 8 ≤ h.size
sized_ok limit size None chunk h e = absurd cc
sized_ok limit size (Some kind) None h e = absurd cc
sized_ok limit size (Some kind) (Some chunk) h e =
    elim (chosen (may_come_in kind chunk) _ _ (Ok h) e) [
      | inl p ↦ elim (chosen (nat_lt size 8 || nat_lt limit size) _ _ (Ok h) p.1) [
        | inl q ↦ absurd (cc q.1)
        | inr q ↦
            let g : Header = record { message_type = kind; chunk_type = chunk; size = size } in
            let same : g ≡ h = cc q.1 in
            let long : 8 ≤ size = long_enough limit size q.0 in
            subst (λ (x : Header). 8 ≤ x.size) same long
      ]
      | inr p ↦ absurd (cc p.1)
    ]

-- a whole frame has eight bytes at least, and no more than have come
whole_sized : (len : ℕ) (r : Result Header FrameFault) (h : Header) → ((g : Header) → r ≡ Ok g → 8 ≤ g.size) → judgement_at len r ≡ Whole h → (8 ≤ h.size) × (h.size ≤ len)
whole_sized len (Err f) h k e = absurd cc
whole_sized len (Ok g) h k e =
    elim (chosen (nat_lt len g.size) _ _ (Whole h) e) [
      | inl q ↦ absurd (cc q.1)
      | inr q ↦
          let same : g ≡ h = cc q.1 in
          let long : 8 ≤ g.size = k g refl in
          let fits : g.size ≤ len = grind (arith, nat_tests, q.0) in
          subst (λ (x : Header). (8 ≤ x.size) × (x.size ≤ len)) same (long, fits)
    ]

pub whole_size : (limit : ℕ) (bytes : List ℕ) (h : Header) → judgement_of limit bytes ≡ Whole h → (8 ≤ h.size) × (h.size ≤ length bytes)
unfolding judgement_of header_of
whole_size limit bytes h e =
    elim (chosen (nat_lt (length bytes) 8) Incomplete (judgement_at (length bytes) (header_of limit (take 8 bytes))) (Whole h) e) [
      | inl q ↦ absurd (cc q.1)
      | inr q ↦ whole_sized (length bytes) (header_of limit (take 8 bytes)) h
          (λ g. sized_ok limit (from_le_bytes w32 (take 4 (drop 4 (take 8 bytes)))) (message_type_of (take 3 (take 8 bytes))) (chunk_type_of (slice_index (take 8 bytes) 3)) g) q.1
    ]

-- what is more than partial is not changed by what comes behind it
longer : (m n : ℕ) (r : Result Header FrameFault) → m ≤ n → (judgement_at m r ≡ Incomplete → ⊥) → judgement_at n r ≡ judgement_at m r
longer m n (Err f) l k = refl
longer m n (Ok g) l k =
    let here : nat_lt m g.size ≡ false = not_first (nat_lt m g.size) Incomplete (Whole g) k in
    let there : nat_lt n g.size ≡ false = grind (arith, nat_tests) in
    rw (here, there) refl

judged_longer : (m n : ℕ) (r s : Result Header FrameFault) → (8 ≤ m → s ≡ r) → m ≤ n → (cond (nat_lt m 8) Incomplete (judgement_at m r) ≡ Incomplete → ⊥) → cond (nat_lt n 8) Incomplete (judgement_at n s) ≡ cond (nat_lt m 8) Incomplete (judgement_at m r)
judged_longer m n r s same l k =
    let here : nat_lt m 8 ≡ false = not_first (nat_lt m 8) Incomplete (judgement_at m r) k in
    let there : nat_lt n 8 ≡ false = grind (arith, nat_tests) in
    let many : 8 ≤ m = grind (arith, nat_tests) in
    let k' : judgement_at m r ≡ Incomplete → ⊥ = λ e. k (rw here e) in
    rw (here, there) (ap (judgement_at n) (same many) ∙ longer m n r l k')

pub judgement_of-append : (limit : ℕ) (x y : List ℕ) → (judgement_of limit x ≡ Incomplete → ⊥) → judgement_of limit (x ++ y) ≡ judgement_of limit x
unfolding judgement_of
judgement_of-append limit x y k =
    judged_longer (length x) (length (x ++ y)) (header_of limit (take 8 x)) (header_of limit (take 8 (x ++ y)))
    (λ l. ap (header_of limit) (take-append-le 8 x y l)) (omega (arith, length-append x y)) k

-- what is behind matters for a whole frame alone
frames_by-same : (j : Judgement) (bytes : List ℕ) (f g : ℕ → Framed) → ((h : Header) → j ≡ Whole h → f h.size ≡ g h.size) → frames_by j bytes f ≡ frames_by j bytes g
frames_by-same Incomplete bytes f g k = refl
frames_by-same (Faulty fault) bytes f g k = refl
frames_by-same (Whole h) bytes f g k = ap (with_front (frame_of h bytes ∷ [])) (k h refl)

behind : (limit m : ℕ) (bytes : List ℕ) (h : Header) → judgement_of limit bytes ≡ Whole h → length bytes ≤ suc m → length (drop h.size bytes) ≤ m
behind limit m bytes h e l =
    let s : (8 ≤ h.size) × (h.size ≤ length bytes) = whole_size limit bytes h e in
    omega (arith, length-drop h.size bytes)

-- no more frames than bytes are looked for
pub enough : (m n limit : ℕ) (bytes : List ℕ) → length bytes ≤ m → length bytes ≤ n → framed_within m limit bytes ≡ framed_within n limit bytes
unfolding framed_within judgement_of
enough zero zero limit bytes a b = refl
enough zero (suc n) limit [] a b = refl
enough zero (suc n) limit (x ∷ xs) a b = absurd (omega arith)
enough (suc m) zero limit [] a b = refl
enough (suc m) zero limit (x ∷ xs) a b = absurd (omega arith)
enough (suc m) (suc n) limit bytes a b =
    frames_by-same (judgement_of limit bytes) bytes _ _ (λ h e.
    enough m n limit (drop h.size bytes) (behind limit m bytes h e a) (behind limit n bytes h e b))

frames-next_within : (n limit : ℕ) (bytes : List ℕ) → length bytes ≡ n → framed_within (suc n) limit bytes ≡ frames_by (judgement_of limit bytes) bytes (λ size. frames limit (drop size bytes))
unfolding framed_within frames
frames-next_within n limit bytes l =
    frames_by-same (judgement_of limit bytes) bytes _ _ (λ h e.
    enough n (length (drop h.size bytes)) limit (drop h.size bytes) (behind limit n bytes h e (omega arith)) (omega arith))

-- the first frame, and then the frames behind it
pub frames-next : (limit : ℕ) (bytes : List ℕ) → frames limit bytes ≡ frames_by (judgement_of limit bytes) bytes (λ size. frames limit (drop size bytes))
unfolding frames
frames-next limit bytes =
    enough (length bytes) (suc (length bytes)) limit bytes (omega arith) (omega arith)
    ∙ frames-next_within (length bytes) limit bytes refl

pub frames_judged : (limit : ℕ) (bytes : List ℕ) (j : Judgement) → judgement_of limit bytes ≡ j → frames limit bytes ≡ frames_by j bytes (λ size. frames limit (drop size bytes))
frames_judged limit bytes j e = frames-next limit bytes ∙ ap (λ (i : Judgement). frames_by i bytes (λ size. frames limit (drop size bytes))) e

-- where no whole frame is left, what is left is the start of one
rest_within : (n limit : ℕ) (x rest : List ℕ) → length x ≤ n → (j : Judgement) → judgement_of limit x ≡ j → (frames limit x).end ≡ Rest rest → judgement_of limit rest ≡ Incomplete
rest_within n limit x rest l Incomplete e r =
    let same : x ≡ rest = cc (ap (λ (f : Framed). f.end) (frames_judged limit x Incomplete e)) in
    subst (λ (b : List ℕ). judgement_of limit b ≡ Incomplete) same e
rest_within n limit x rest l (Faulty f) e r = absurd (cc (ap (λ (g : Framed). g.end) (frames_judged limit x (Faulty f) e)))
rest_within zero limit x rest l (Whole h) e r =
    let s : (8 ≤ h.size) × (h.size ≤ length x) = whole_size limit x h e in absurd (omega arith)
rest_within (suc n) limit x rest l (Whole h) e r =
    let fewer : length (drop h.size x) ≤ n = behind limit n x h e l in
    let there : (frames limit (drop h.size x)).end ≡ Rest rest = sym (ap (λ (g : Framed). g.end) (frames_judged limit x (Whole h) e)) ∙ r in
    rest_within n limit (drop h.size x) rest fewer (judgement_of limit (drop h.size x)) refl there

pub rest_incomplete : (limit : ℕ) (x rest : List ℕ) → (frames limit x).end ≡ Rest rest → judgement_of limit rest ≡ Incomplete
rest_incomplete limit x rest r = rest_within (length x) limit x rest (omega arith) (judgement_of limit x) refl r

append_within : (n limit : ℕ) (x y : List ℕ) → length x ≤ n → (j : Judgement) → judgement_of limit x ≡ j → frames limit (x ++ y) ≡ frames_then limit (frames limit x) y
append_within n limit x y l Incomplete e =
    sym (ap (λ (r : Framed). frames_then limit r y) (frames_judged limit x Incomplete e))
append_within n limit x y l (Faulty f) e =
    frames_judged limit (x ++ y) (Faulty f) (judgement_of-append limit x y (λ p. cc) ∙ e)
    ∙ sym (ap (λ (r : Framed). frames_then limit r y) (frames_judged limit x (Faulty f) e))
append_within zero limit x y l (Whole h) e =
    let s : (8 ≤ h.size) × (h.size ≤ length x) = whole_size limit x h e in absurd (omega arith)
append_within (suc n) limit x y l (Whole h) e =
    let s : (8 ≤ h.size) × (h.size ≤ length x) = whole_size limit x h e in
    let fewer : length (drop h.size x) ≤ n = behind limit n x h e l in
    frames_judged limit (x ++ y) (Whole h) (judgement_of-append limit x y (λ p. cc) ∙ e)
    ∙ ap (λ (t : List ℕ). with_front (record { message_type = h.message_type; chunk_type = h.chunk_type; body = drop 8 t } ∷ []) (frames limit (drop h.size (x ++ y)))) (take-append-le h.size x y s.1)
    ∙ ap (λ (t : List ℕ). with_front (frame_of h x ∷ []) (frames limit t)) (drop-append-le h.size x y s.1)
    ∙ ap (with_front (frame_of h x ∷ [])) (append_within n limit (drop h.size x) y fewer (judgement_of limit (drop h.size x)) refl)
    ∙ sym (ap (λ (r : Framed). frames_then limit r y) (frames_judged limit x (Whole h) e))

-- a stream cut in two gives the same frames, joined
pub frames-append : (limit : ℕ) (x y : List ℕ) → frames limit (x ++ y) ≡ frames_then limit (frames limit x) y
frames-append limit x y = append_within (length x) limit x y (omega arith) (judgement_of limit x) refl

-- behind a fault nothing is read
pub behind_fault : (limit : ℕ) (x y : List ℕ) (fault : FrameFault) → (frames limit x).end ≡ Broken fault → frames limit (x ++ y) ≡ frames limit x
behind_fault limit x y fault e =
    let fs = (frames limit x).frames in
    let whole : frames limit x ≡ record { frames = fs; end = Broken fault } = ap (λ (end : End). record { frames = fs; end = end }) e in
    frames-append limit x y
    ∙ ap (λ (end : End). with_front fs (continuation_of limit end y)) e
    ∙ ap (λ (all : List Frame). record { frames = all; end = Broken fault }) (append-nil fs)
    ∙ sym whole

-- what is left of the front, and what stands behind it, is read as one
pub behind_rest : (limit : ℕ) (x y rest : List ℕ) → (frames limit x).end ≡ Rest rest → frames limit (x ++ y) ≡ with_front (frames limit x).frames (frames limit (rest ++ y))
behind_rest limit x y rest e =
    frames-append limit x y ∙ ap (λ (end : End). with_front (frames limit x).frames (continuation_of limit end y)) e

-- a frame that is taken off goes to the end of those taken
pub taken_one : (limit : ℕ) (rest : List ℕ) (h : Header) (taken : List Frame) (frame : Frame) → judgement_of limit rest ≡ Whole h → frame ≡ frame_of h rest → with_front (taken ++ frame ∷ []) (frames limit (drop h.size rest)) ≡ with_front taken (frames limit rest)
taken_one limit rest h taken frame e same =
    ap (λ (f : Frame). with_front (taken ++ f ∷ []) (frames limit (drop h.size rest))) same
    ∙ ap (λ (fs : List Frame). record { frames = fs; end = (frames limit (drop h.size rest)).end }) (append_assoc taken (frame_of h rest ∷ []) (frames limit (drop h.size rest)).frames)
    ∙ sym (ap (with_front taken) (frames_judged limit rest (Whole h) e))

-- where no whole frame is left, those taken are all
pub stopped : (limit : ℕ) (rest : List ℕ) (taken : List Frame) (end : End) (all : Framed) → frames limit rest ≡ record { frames = []; end = end } → with_front taken (frames limit rest) ≡ all → (taken ≡ all.frames) × (all.end ≡ end)
stopped limit rest taken end all e h =
    let joined : with_front taken (record { frames = []; end = end }) ≡ all = sym (ap (with_front taken) e) ∙ h in
    (sym (append-nil taken) ∙ ap (λ (r : Framed). r.frames) joined, sym (ap (λ (r : Framed). r.end) joined))
