-- Laws of feeding a framer.
use Rattle.std.proofs.Common.{◌≡◌, ℕ, ◌<◌, ◌≤◌, max, List, [], ◌∷◌, ◌++◌, length, take, drop, Option, Some, None, Result, Ok, Err, refl, sym, ◌∙◌, ap, subst, inl, inr, append_assoc, append-nil, arith}
use Rattle.std.specs.Prelude.{nat_lt, ◌||◌, slice_index, IfSome}
use Rattle.std.specs.Int.{w32, from_le_bytes}
use Rattle.std.proofs.lemmas.Bool.Decides.{nat_tests}
use Rattle.std.specs.List.{concat}
use Rattle.ua_transport.specs.Header.{judgement_of, judgement_at, header_of, header_from, may_come_in, message_type_of, chunk_type_of}
use Rattle.ua_transport.specs.Frames.{End, Rest, Broken, Framed, frames, frames_then, held_at, fault_at, end_of}
use Rattle.ua_transport.specs.Feeding.{Framing, feeding, feeding_by, feeding_of, feeding_of_two, feeding_of_all, joined, unfed}
use Rattle.ua_transport.specs.declared.frame.Frame.{Frame}
use Rattle.ua_transport.specs.declared.frame.FrameFault.{FrameFault}
use Rattle.ua_transport.specs.declared.frame.Header.{Header}
use Rattle.ua_transport.specs.declared.frame.MessageType.{MessageType}
use Rattle.ua_transport.specs.declared.frame.ChunkType.{ChunkType}
use Rattle.ua_transport.specs.declared.frame.Judgement.TheVariants.{Incomplete, Whole}
use Rattle.ua_types.proofs.Choices.{chosen}
use Rattle.ua_transport.proofs.FramesLemmas.{frames-append, frames_judged, rest_incomplete}

header_from-size : (limit size : ℕ) (message_type : Option MessageType) (chunk_type : Option ChunkType) (h : Header) → header_from limit size message_type chunk_type ≡ Ok h → h.size ≤ limit
header_from-size limit size None chunk_type h e = absurd cc
header_from-size limit size (Some m) None h e = absurd cc
header_from-size limit size (Some m) (Some c) h e =
    elim (chosen (may_come_in m c) _ _ (Ok h) e) [
      | inl p ↦ elim (chosen (nat_lt size 8 || nat_lt limit size) _ _ (Ok h) p.1) [
        | inl q ↦ absurd (cc q.1)
        | inr q ↦
            let g : Header = record { message_type = m; chunk_type = c; size = size } in
            let same : g ≡ h = cc q.1 in
            let small : size ≤ limit = grind (arith, nat_tests, q.0) in
            subst (λ (x : Header). x.size ≤ limit) same small
      ]
      | inr p ↦ absurd (cc p.1)
    ]

-- a header that is let through has a size within the limit
pub header_of-size : (limit : ℕ) (bytes : List ℕ) (h : Header) → header_of limit bytes ≡ Ok h → h.size ≤ limit
unfolding header_of
header_of-size limit bytes h e = header_from-size limit (from_le_bytes w32 (take 4 (drop 4 bytes))) (message_type_of (take 3 bytes)) (chunk_type_of (slice_index bytes 3)) h e

judgement_at-Incomplete : (limit len : ℕ) (r : Result Header FrameFault) → ((h : Header) → r ≡ Ok h → h.size ≤ limit) → judgement_at len r ≡ Incomplete → len < limit
judgement_at-Incomplete limit len (Err f) k e = absurd cc
judgement_at-Incomplete limit len (Ok h) k e =
    elim (chosen (nat_lt len h.size) Incomplete (Whole h) Incomplete e) [
      | inl q ↦ let small : h.size ≤ limit = k h refl in grind (arith, nat_tests, q.0)
      | inr q ↦ absurd (cc q.1)
    ]

-- less than a frame is less than the limit and a header
pub incomplete_short : (limit : ℕ) (bytes : List ℕ) → judgement_of limit bytes ≡ Incomplete → length bytes < max limit 8
unfolding judgement_of
incomplete_short limit bytes e =
    elim (chosen (nat_lt (length bytes) 8) Incomplete (judgement_at (length bytes) (header_of limit (take 8 bytes))) Incomplete e) [
      | inl q ↦ grind (arith, nat_tests, q.0)
      | inr q ↦
          let less : length bytes < limit = judgement_at-Incomplete limit (length bytes) (header_of limit (take 8 bytes)) (header_of-size limit (take 8 bytes)) q.1 in
          omega arith
    ]

pub rest_short : (limit : ℕ) (x rest : List ℕ) → (frames limit x).end ≡ Rest rest → length rest < max limit 8
rest_short limit x rest e = incomplete_short limit rest (rest_incomplete limit x rest e)

fault_at-end_of : (bytes : List ℕ) (fault : Option FrameFault) → fault_at (end_of bytes fault) ≡ fault
fault_at-end_of bytes None = refl
fault_at-end_of bytes (Some f) = refl

-- the frames taken, the fault and what is held, as one
pub feeding_taken : (limit : ℕ) (framed : Framed) (fs : List Frame) (rest : List ℕ) (fault : Option FrameFault) (held : Option (List ℕ)) →
    fs ≡ framed.frames → framed.end ≡ end_of rest fault → held ≡ held_at (end_of rest fault) →
    feeding (record { frames = fs; fault = fault }) (record { limit = limit; held = held }) ≡ feeding_by limit framed
feeding_taken limit framed fs rest fault held f e h =
    let same : fault ≡ fault_at framed.end = sym (ap fault_at e ∙ fault_at-end_of rest fault) in
    let left : held ≡ held_at framed.end = h ∙ sym (ap held_at e) in
    cc

held_short : (limit : ℕ) (x : List ℕ) (end : End) → (frames limit x).end ≡ end → IfSome (held_at end) (λ held. length held < max limit 8)
held_short limit x (Rest bytes) e = rest_short limit x bytes e
held_short limit x (Broken fault) e = tt

pub taken_short : (limit : ℕ) (x rest : List ℕ) (fault : Option FrameFault) (held : Option (List ℕ)) →
    (frames limit x).end ≡ end_of rest fault → held ≡ held_at (end_of rest fault) → IfSome held (λ held. length held < max limit 8)
taken_short limit x rest fault held e h = rw h (held_short limit x (end_of rest fault) e)

-- a piece with which there is still less than a frame is held
pub feeding_incomplete : (limit : ℕ) (framing : Framing) (held piece : List ℕ) → framing ≡ record { limit = limit; held = Some held } → judgement_of limit (held ++ piece) ≡ Incomplete →
    feeding (record { frames = []; fault = None }) (record { limit = limit; held = Some (held ++ piece) }) ≡ feeding_of framing piece
feeding_incomplete limit framing held piece is e =
    sym (ap (λ (f : Framing). feeding_of f piece) is ∙ ap (feeding_by limit) (frames_judged limit (held ++ piece) Incomplete e))

-- further bytes after these frames, as a second feed
then_fed : (limit : ℕ) (fs : List Frame) (end : End) (b : List ℕ) →
    let first : Framed = record { frames = fs; end = end } in
    feeding_by limit (frames_then limit first b) ≡ joined (feeding_by limit first) (feeding_of (record { limit = limit; held = held_at end }) b)
then_fed limit fs (Rest bytes) b = refl
then_fed limit fs (Broken fault) b = ap (λ (l : List Frame). feeding (record { frames = l; fault = Some fault }) (record { limit = limit; held = None })) refl

held_cut : (limit : ℕ) (held : Option (List ℕ)) (a b : List ℕ) →
    let framing : Framing = record { limit = limit; held = held } in
    feeding_of framing (a ++ b) ≡ feeding_of_two framing a b
held_cut limit None a b = refl
held_cut limit (Some h) a b =
    ap (feeding_by limit) (ap (frames limit) (sym (append_assoc h a b)) ∙ frames-append limit (h ++ a) b)
    ∙ then_fed limit (frames limit (h ++ a)).frames (frames limit (h ++ a)).end b

pub feeding-cut : (framing : Framing) (a b : List ℕ) → feeding_of framing (a ++ b) ≡ feeding_of_two framing a b
feeding-cut framing a b = held_cut framing.limit framing.held a b

-- a framer that has failed brings no frames and stays so
failed_frames : (limit : ℕ) (pieces : List (List ℕ)) → (feeding_of_all (record { limit = limit; held = None }) pieces).fed.frames ≡ []
failed_frames limit [] = refl
failed_frames limit (p ∷ ps) = failed_frames limit ps

failed_framing : (limit : ℕ) (pieces : List (List ℕ)) → (feeding_of_all (record { limit = limit; held = None }) pieces).framing ≡ record { limit = limit; held = None }
failed_framing limit [] = refl
failed_framing limit (p ∷ ps) = failed_framing limit ps

-- the pieces behind the first, where those that begin in its rest are known
behind_first : (limit : ℕ) (fs : List Frame) (end : End) (pieces : List (List ℕ)) →
    ((bytes : List ℕ) → end ≡ Rest bytes → feeding_of_all (record { limit = limit; held = Some bytes }) pieces ≡ feeding_by limit (frames limit (bytes ++ concat pieces))) →
    let first = feeding_by limit (record { frames = fs; end = end }) in
    joined first (feeding_of_all first.framing pieces) ≡ joined first (feeding_of first.framing (concat pieces))
behind_first limit fs (Rest bytes) pieces k = ap (joined (feeding_by limit (record { frames = fs; end = Rest bytes }))) (k bytes refl)
behind_first limit fs (Broken fault) pieces k =
    let first = feeding_by limit (record { frames = fs; end = Broken fault }) in
    let later = feeding_of_all first.framing pieces in
    ap (λ (l : List Frame). feeding (record { frames = fs ++ l; fault = Some fault }) later.framing) (failed_frames limit pieces)
    ∙ ap (λ (f : Framing). feeding (record { frames = fs ++ []; fault = Some fault }) f) (failed_framing limit pieces)

held_pieces : (limit : ℕ) (held : List ℕ) (pieces : List (List ℕ)) → judgement_of limit held ≡ Incomplete →
    feeding_of_all (record { limit = limit; held = Some held }) pieces ≡ feeding_by limit (frames limit (held ++ concat pieces))
held_pieces limit held [] e =
    sym (ap (λ (x : List ℕ). feeding_by limit (frames limit x)) (append-nil held) ∙ ap (feeding_by limit) (frames_judged limit held Incomplete e))
held_pieces limit held (p ∷ ps) e =
    let first : Framed = frames limit (held ++ p) in
    behind_first limit first.frames first.end ps (λ bytes r. held_pieces limit bytes ps (rest_incomplete limit (held ++ p) bytes r))
    ∙ sym (held_cut limit (Some held) p (concat ps))

-- the start of a frame, of no bytes, is incomplete
nothing_yet : (limit : ℕ) → judgement_of limit [] ≡ Incomplete
unfolding judgement_of
nothing_yet limit = refl

pub feeding-pieces : (limit : ℕ) (pieces : List (List ℕ)) → feeding_of_all (unfed limit) pieces ≡ feeding_of (unfed limit) (concat pieces)
feeding-pieces limit pieces = held_pieces limit [] pieces (nothing_yet limit)
