use Rattle.std.proofs.Common.{take}
use Rattle.value_store.specs.Keeping.{AreChanges}
use Rattle.value_store.proofs.changes.changes_of.Given as goal

abbrev pub invariant-each : goal.invariant-each
invariant-each l = AreChanges (take l.one-index l.stored) l.changes.items
