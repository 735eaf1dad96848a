use Rattle.std.proofs.Common.{take}
use Rattle.value_store.specs.Model.{AreNumbered}
use Rattle.value_store.proofs.Rising.{AreUpTo}
use Rattle.value_store.proofs.reading.numbers_rise.Given as goal

abbrev pub invariant-each : goal.invariant-each
invariant-each l = AreNumbered (take l.row-index l.rows) × AreUpTo l.last (take l.row-index l.rows)
