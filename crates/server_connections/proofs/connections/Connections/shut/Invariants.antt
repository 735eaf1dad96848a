use Rattle.std.proofs.Common.{◌≡◌}
use Rattle.std.specs.FinMap.{entries}
use Rattle.std.specs.Map.{keys_of}
use Rattle.std.specs.Vec.Iter.{into_iter_items}
use Rattle.server_connections.specs.Shutting.{all_shut, refusing_after}
use Rattle.server_connections.proofs.connections.Connections.shut.Given as goal

-- those that are closed so far and those that are left are the whole
abbrev pub invariant-loop-conn : goal.invariant-loop-conn
invariant-loop-conn l = refusing_after l.outs (all_shut l.self (into_iter_items l.conn-iterator)) ≡ refusing_after l.fn.outs (all_shut l.fn.self (keys_of (entries l.fn.self.known)))
