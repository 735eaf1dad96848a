use Rattle.std.proofs.Common.{ℕ}
use Rattle.ua_types.specs.declared.node_id.NodeId.{NodeId}
use Rattle.ua_space.proofs.Chains.{Walk}
use Rattle.ua_space.proofs.loops.follows.Given as goal

-- a walk from the type that is reached goes on from the first
abbrev pub invariant-loop-place : goal.invariant-loop-place
invariant-loop-place l = (upper : NodeId) (n : ℕ) → Walk l.triples n l.reached upper → (m : ℕ) × Walk l.triples m l.fn.lower upper
