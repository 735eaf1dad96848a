use Rattle.std.proofs.Common.{◌≡◌, ◌+◌, vec_len}
use Rattle.std.specs.Vec.Iter.{into_iter_items, into_iter_len}
use Rattle.ua_space.specs.Build.{named}
use Rattle.ua_space.proofs.build.named.Given as goal

abbrev pub invariant-loop-node : goal.invariant-loop-node
invariant-loop-node l =
    (named l.number l.known.entries (into_iter_items l.node-iterator) ≡ named l.fn.first l.fn.known.entries l.fn.nodes.items)
    × (l.number + into_iter_len l.node-iterator ≡ l.fn.first + vec_len l.fn.nodes)
