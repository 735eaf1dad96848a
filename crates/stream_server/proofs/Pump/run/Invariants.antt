use Rattle.server_core.specs.World.{world_of}
use Rattle.stream_server.specs.Pumped.{scene, Goes}
use Rattle.stream_server.proofs.Pump.run.Given as goal

abbrev pub invariant-loop-read : goal.invariant-loop-read
invariant-loop-read g l =
    Goes l._read l.conn (scene g.R.Read.remaining g.W.Write.contents 0 (world_of l.initial.server) l.initial.reader l.initial.writer)
    (scene g.R.Read.remaining g.W.Write.contents l.self (world_of l.server) l.reader l.writer)
