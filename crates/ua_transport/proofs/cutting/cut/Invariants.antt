use Rattle.std.proofs.Common.{◌≡◌, ◌≤◌, length}
use Rattle.ua_transport.specs.Cutting.{cut_after, cut_of}
use Rattle.ua_transport.proofs.cutting.cut.Given as goal

-- the chunks so far and those of the rest are those of the whole
abbrev pub invariant-loop-rest : goal.invariant-loop-rest
invariant-loop-rest l = record {
  cut : cut_after l.chunks (cut_of l.last l.header l.room l.rest) ≡ cut_of l.last l.fn.first l.room l.body;
  small : l.fn.first.sequence_number ≤ 4294966272 → l.header.sequence_number ≤ 4294966272;
}

abbrev pub decreases-loop-rest : goal.decreases-loop-rest
decreases-loop-rest l = length l.rest
