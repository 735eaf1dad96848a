use Rattle.std.proofs.Common.{◌≡◌, ◌++◌, take, map}
use Rattle.ua_space.specs.BaseNodes.{standard_node, details_of}
use Rattle.ua_space.proofs.base.add_all.Given as goal

abbrev pub invariant-loop-number : goal.invariant-loop-number
invariant-loop-number l = l.nodes.items ≡ l.initial.nodes.items ++ map (λ e. standard_node e.0 e.1.now (details_of l.kind)) (take l.number-index l.names)
