use Rattle.std.proofs.Common.{take}
use Rattle.server_core.specs.Running.{joined}
use Rattle.stream_server.proofs.PumpLemmas.{AllPut}
use Rattle.stream_server.proofs.put_each.Given as goal

abbrev pub invariant-loop-out : goal.invariant-loop-out
invariant-loop-out g l =
    AllPut (joined (take l.out-index l.outs)) l.out-index l.done (g.W.Write.contents l.initial.writer.stream) (g.W.Write.contents l.writer.stream)
    l.initial.writer.failures l.writer.failures
