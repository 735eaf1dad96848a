use Rattle.std.proofs.Common.{◌≡◌, length}
use Rattle.ua_transport.specs.Frames.{frames, with_front}
use Rattle.ua_transport.proofs.framer.split_frames.Given as goal

-- the frames so far and those of the rest are those of the whole
abbrev pub invariant-frames : goal.invariant-frames
invariant-frames l = with_front l.taken (frames l.limit l.rest) ≡ with_front l.fn.taken (frames l.limit l.fn.rest)

abbrev pub decreases-frames : goal.decreases-frames
decreases-frames l = length l.rest
