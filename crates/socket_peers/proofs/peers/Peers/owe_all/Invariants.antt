use Rattle.std.proofs.Common.{◌≡◌}
use Rattle.socket_peers.specs.Peers.{owed_all}
use Rattle.socket_peers.proofs.peers.Peers.owe_all.Given as goal

abbrev pub invariant-loop-out : goal.invariant-loop-out
invariant-loop-out g l = owed_all l.self l.out-iterator ≡ owed_all l.initial.self l.initial.out-iterator
