use Rattle.std.proofs.Common.{◌≡◌, drop}
use Rattle.std.specs.List.{fold}
use Rattle.ua_history.specs.Histories.{with_node, histories_begun}
use Rattle.ua_history.proofs.Begun.{emptied}
use Rattle.ua_history.proofs.history.History.beginning.Given as goal

-- the values of the first nodes are kept and moved out, and those of the others are left
abbrev pub invariant-loop-place : goal.invariant-loop-place
invariant-loop-place l = record {
  nodes : l.space.nodes ≡ emptied l.place l.fn.space.nodes;
  triples : l.space.triples ≡ l.fn.space.triples;
  left : fold with_node l.history (drop l.place l.fn.space.nodes) ≡ histories_begun l.config l.fn.space.nodes;
}
