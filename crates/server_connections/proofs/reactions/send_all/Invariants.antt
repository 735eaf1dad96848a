use Rattle.std.proofs.Common.{◌≡◌, ◌++◌}
use Rattle.server_connections.specs.Reactions.{sends}
use Rattle.server_connections.proofs.reactions.send_all.Given as goal

-- what was added so far and what is left are the whole
abbrev pub invariant-loop-bytes : goal.invariant-loop-bytes
invariant-loop-bytes l = l.outs ++ sends l.conn l.bytes-iterator ≡ l.fn.outs ++ sends l.fn.conn l.fn.chunks
