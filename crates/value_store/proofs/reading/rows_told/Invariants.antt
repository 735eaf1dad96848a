use Rattle.std.proofs.Common.{◌≡◌, take, map}
use Rattle.value_store.specs.Rows.{columns, row_in}
use Rattle.value_store.proofs.reading.rows_told.Given as goal

abbrev pub invariant-each : goal.invariant-each
invariant-each l = map (row_in l.table) l.stored.items ≡ map columns (take l.row-index l.rows)
