use Rattle.std.proofs.Common.{◌≡◌, map, take, vec_len}
use Rattle.ua_space.specs.BaseNodes.{base_triple}
use Rattle.ua_space.proofs.base.triples_of.Given as goal

abbrev pub invariant-loop-reference_type : goal.invariant-loop-reference_type
invariant-loop-reference_type l = (l.triples.items ≡ map base_triple (take l.reference_type-index l.table)) × (vec_len l.triples ≡ l.reference_type-index)
