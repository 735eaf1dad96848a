-- The indexes of a space.
use Rattle.std.specs.Prelude.{List}
use Rattle.ua_space.specs.declared.index.Indexes.{Indexes}
use Rattle.ua_space.specs.declared.index.Key.TheVariants as keys
use Rattle.ua_space.specs.declared.triple.Triple.{Triple}
use Rattle.ua_space.specs.Indexes.{IsIndex, items, stands_under}

pub record AreIndexes (triples : List Triple) (indexes : Indexes) : Type 0 where
  pub by_source : IsIndex items (stands_under keys.Source) triples indexes.by_source.entries
  pub by_target : IsIndex items (stands_under keys.Target) triples indexes.by_target.entries
  pub definitions : IsIndex items (stands_under keys.Definition) triples indexes.definitions.entries
  pub subtypes : IsIndex items (stands_under keys.Supertype) triples indexes.subtypes.entries
  pub supertypes : IsIndex items (stands_under keys.Subtype) triples indexes.supertypes.entries
