use Rattle.std.proofs.Common.{◌+◌, ◌*◌, ◌≤◌, suc, length}
use Rattle.ua_space.specs.Spaces.{most_nodes}
use Rattle.ua_space.proofs.Marking.{Climbed, unmarked}
use Rattle.ua_space.proofs.subtypes.walk_up.Given as goal

abbrev pub invariant-loop-next : goal.invariant-loop-next
invariant-loop-next g l = Climbed l.triples l.numbering.types.items l.numbering.numbers.entries l.lower l.marks l.next × (length l.marks ≤ most_nodes)

abbrev pub decreases-loop-next : goal.decreases-loop-next
decreases-loop-next g l = unmarked l.marks * suc (length l.numbering.types.items) + l.next
