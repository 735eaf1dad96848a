use Rattle.std.proofs.Common.{◌≡◌, take}
use Rattle.server_core.specs.Running.{joined}
use Rattle.stream_server.proofs.joined_in.Given as goal

abbrev pub invariant-loop-out : goal.invariant-loop-out
invariant-loop-out l = l.all.items ≡ joined (take l.out-index l.outs)
