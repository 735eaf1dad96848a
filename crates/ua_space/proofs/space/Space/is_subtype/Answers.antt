use Rattle.ua_space.proofs.Few.{few_in_space}
use Rattle.ua_space.proofs.space.Space.is_subtype.Goals as goal

pub is_subtype-requires-clause-few : goal.is_subtype-requires-clause-few
is_subtype-requires-clause-few c =
    few_in_space (record { nodes = c.self.inside.nodes; triples = c.self.inside.triples.items }) c.self.inside.numbering.types.items c.self.inside.numbering.numbers.entries c.self.invariant.sound c.self.invariant.numbered
