use Rattle.std.proofs.Common.{◌≡◌, ◌∙◌, ap, arith, ◌++◌, ◌≤◌, drop, length, ℕ, List}
use Rattle.std.proofs.lemmas.List.{length-drop, length-take-le}
use Rattle.ua_transport.specs.Header.{judgement_of}
use Rattle.ua_transport.specs.Frames.{frames, with_front, frame_of, Rest, Broken}
use Rattle.ua_transport.specs.declared.frame.Frame.{Frame}
use Rattle.ua_transport.specs.declared.frame.Judgement.TheVariants.{Incomplete, Faulty, Whole}
use Rattle.ua_transport.proofs.FramesLemmas.{whole_size, taken_one, frames_judged, stopped}
use Rattle.ua_transport.proofs.framer.split_frames.Goals as goal

pub split_to-requires : goal.split_to-requires
split_to-requires c =
    let e : judgement_of c.args.limit c.frames.rest ≡ Whole c.in-Whole.header = cc in
    (whole_size c.args.limit c.frames.rest c.in-Whole.header e).1

pub advance-requires : goal.advance-requires
advance-requires c =
    let e : judgement_of c.args.limit c.frames.rest ≡ Whole c.in-Whole.header = cc in
    let s : (8 ≤ c.in-Whole.header.size) × (c.in-Whole.header.size ≤ length c.frames.rest) = whole_size c.args.limit c.frames.rest c.in-Whole.header e in
    rw c.in_ok-body-in-Whole.ensures.front (omega (arith, length-take-le c.in-Whole.header.size c.frames.rest s.1))

pub frames-smaller : goal.frames-smaller
frames-smaller c =
    let e : judgement_of c.args.limit c.frames.rest ≡ Whole c.in-Whole.header = cc in
    let s : (8 ≤ c.in-Whole.header.size) × (c.in-Whole.header.size ≤ length c.frames.rest) = whole_size c.args.limit c.frames.rest c.in-Whole.header e in
    rw c.in_ok-body-in-Whole.ensures.rest (omega (arith, length-drop c.in-Whole.header.size c.frames.rest))

pub frames-preserved : goal.frames-preserved
frames-preserved c =
    let e : judgement_of c.args.limit c.frames.rest ≡ Whole c.in-Whole.header = cc in
    let frame : Frame = record { message_type = c.in-Whole.header.message_type; chunk_type = c.in-Whole.header.chunk_type; body = c.advance.new.self } in
    let same : frame ≡ frame_of c.in-Whole.header c.frames.rest =
    ap (λ (b : List ℕ). record { message_type = c.in-Whole.header.message_type; chunk_type = c.in-Whole.header.chunk_type; body = b }) (c.advance.ensures ∙ ap (drop 8) c.in_ok-body-in-Whole.ensures.front) in
    rw (c.in_ok-push-in-Whole.ensures.ok, c.in_ok-body-in-Whole.ensures.rest)
    (taken_one c.args.limit c.frames.rest c.in-Whole.header c.frames.taken frame e same ∙ c.frames.invariant)

partial : (c : goal.In-Incomplete) → (c.frames.taken ≡ c.args.taken.now ++ (frames c.args.limit c.args.rest.now).frames) × ((frames c.args.limit c.args.rest.now).end ≡ Rest c.frames.rest)
partial c =
    let e : judgement_of c.args.limit c.frames.rest ≡ Incomplete = cc in
    stopped c.args.limit c.frames.rest c.frames.taken (Rest c.frames.rest) (with_front c.args.taken.now (frames c.args.limit c.args.rest.now)) (frames_judged c.args.limit c.frames.rest Incomplete e) c.frames.invariant

faulty : (c : goal.In-Faulty) → (c.frames.taken ≡ c.args.taken.now ++ (frames c.args.limit c.args.rest.now).frames) × ((frames c.args.limit c.args.rest.now).end ≡ Broken c.in-Faulty.fault)
faulty c =
    let e : judgement_of c.args.limit c.frames.rest ≡ Faulty c.in-Faulty.fault = cc in
    stopped c.args.limit c.frames.rest c.frames.taken (Broken c.in-Faulty.fault) (with_front c.args.taken.now (frames c.args.limit c.args.rest.now)) (frames_judged c.args.limit c.frames.rest (Faulty c.in-Faulty.fault) e) c.frames.invariant

pub returns-in-Incomplete-clause-taken : goal.returns-in-Incomplete-clause-taken
returns-in-Incomplete-clause-taken c = (partial c).0

pub returns-in-Incomplete-clause-end : goal.returns-in-Incomplete-clause-end
returns-in-Incomplete-clause-end c = (partial c).1

pub returns-in-Faulty-clause-taken : goal.returns-in-Faulty-clause-taken
returns-in-Faulty-clause-taken c = (faulty c).0

pub returns-in-Faulty-clause-end : goal.returns-in-Faulty-clause-end
returns-in-Faulty-clause-end c = (faulty c).1
