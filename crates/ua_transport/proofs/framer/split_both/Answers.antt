use Rattle.std.proofs.Common.{◌≡◌, ◌∙◌, ap, append_assoc, ◌++◌, List}
use Rattle.ua_transport.specs.Frames.{Framed, Rest, frames, with_front, end_of}
use Rattle.ua_transport.proofs.FramesLemmas.{behind_rest}
use Rattle.ua_transport.proofs.framer.split_both.Goals as goal

-- the frames of the front, and then those of what is left of it and what stands behind
both : (c : goal.Joined-begun-4) → frames c.args.limit (c.args.front ++ c.args.behind) ≡ with_front (frames c.args.limit c.args.front).frames (frames c.args.limit c.in_ok-rest.rest)
both c =
    let left : (frames c.args.limit c.args.front).end ≡ Rest c.split_frames.new.rest = c.in_ok-fault.ensures.end ∙ ap (end_of c.split_frames.new.rest) c.in_default.is in
    let joined : c.in_ok-rest.rest ≡ c.split_frames.new.rest ++ c.args.behind = c.in_ok-rest.ensures ∙ ap (λ (b : List _). b ++ c.args.behind) c.as_slice.ensures in
    rw joined (behind_rest c.args.limit c.args.front c.args.behind c.split_frames.new.rest left)

pub returns-clause-taken : goal.returns-clause-taken
returns-clause-taken c =
    rw (ap (λ (framed : Framed). framed.frames) (both c), c.in_ok-fault-2.ensures.taken, c.in_ok-fault.ensures.taken)
    (append_assoc c.args.taken.now (frames c.args.limit c.args.front).frames (frames c.args.limit c.in_ok-rest.rest).frames)

pub returns-clause-end : goal.returns-clause-end
returns-clause-end c = ap (λ (framed : Framed). framed.end) (both c) ∙ c.in_ok-fault-2.ensures.end
