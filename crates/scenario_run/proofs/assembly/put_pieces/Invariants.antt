use Rattle.std.proofs.Common.{◌≡◌, ◌++◌, length}
use Rattle.scenario_run.proofs.EventLemmas.{pieces_put}
use Rattle.scenario_run.proofs.assembly.put_pieces.Given as goal

-- the events so far and those of the rest are those of the whole
abbrev pub invariant-loop-rest : goal.invariant-loop-rest
invariant-loop-rest l = l.events.items ++ pieces_put l.size l.conn l.rest ≡ l.fn.events.items ++ pieces_put l.size l.conn l.bytes

abbrev pub decreases-loop-rest : goal.decreases-loop-rest
decreases-loop-rest l = length l.rest
