use Rattle.std.proofs.Common.{take}
use Rattle.std.specs.List.{AllZip}
use Rattle.value_store.specs.Restoring.{IsOf}
use Rattle.value_store.proofs.restoring.values_said.Given as goal

abbrev pub invariant-each : goal.invariant-each
invariant-each l = AllZip IsOf (take l.row-index l.rows) l.kept.items
