use Rattle.std.proofs.Common.{◌≡◌, ℕ, Some, IsSome, true, take}
use Rattle.std.specs.List.{All}
use Rattle.ua_types.specs.declared.node_id.NodeId.{NodeId}
use Rattle.ua_space.specs.Numbers.{number_at, AreNumbers, IsSource}
use Rattle.ua_space.specs.Subtypes.{is_subtyping}
use Rattle.ua_space.proofs.numbering.Numbering.new.Given as goal

abbrev pub invariant-loop-place : goal.invariant-loop-place
invariant-loop-place l = record {
  each : AreNumbers l.types.items l.numbers.entries;
  sources : (id : NodeId) (n : ℕ) → number_at l.numbers.entries id ≡ Some n → IsSource l.triples id;
}

abbrev pub invariant-loop-triple : goal.invariant-loop-triple
invariant-loop-triple l = record {
  each : AreNumbers l.types.items l.numbers.entries;
  sources : (id : NodeId) (n : ℕ) → number_at l.numbers.entries id ≡ Some n → IsSource l.triples id;
  complete : All (λ t. is_subtyping t ≡ true → IsSome (number_at l.numbers.entries t.source)) (take l.triple-index l.triples);
}
