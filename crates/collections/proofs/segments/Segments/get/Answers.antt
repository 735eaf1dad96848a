use Rattle.std.proofs.Common.{◌∙◌, ap, w64}
use Rattle.std.proofs.lemmas.Int.{to_z-of_z}
use Rattle.std.specs.BTreeMap.{is_at}
use Rattle.std.specs.Map.{lookup}
use Rattle.std.specs.Ordering.{int_cmp}
use Rattle.collections.proofs.segments.Segments.get.Goals as goal

pub returns : goal.returns
returns g c = rw (to_z-of_z w64 c.args.time c.ranges.time) at c.value_at.ensures ∙ ap (lookup (is_at (int_cmp c.args.time))) c.self.view_is
