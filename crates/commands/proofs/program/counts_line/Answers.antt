use Rattle.std.proofs.Common.{append_assoc}
use Rattle.commands.specs.Commands.{counts_line}
use Rattle.commands.proofs.program.counts_line.Goals as goal

pub returns : goal.returns
unfolding counts_line
returns c = rw (← c.node_count-nodes.ensures, ← c.triple_count-references.ensures) (simp append_assoc c.format.ensures.ok)
