use Rattle.std.proofs.lemmas.Bool.{and_parts}
use Rattle.value_store.specs.Tables.{value_table}
use Rattle.value_store.proofs.Columns.{same_table}
use Rattle.value_store.proofs.tables.is_value.Goals as goal

pub returns-clause-table : goal.returns-clause-table
returns-clause-table c all =
    let f = and_parts _ _ all in
    let e = and_parts _ _ f.0 in
    let keyed = c.is_keyed-keyed.ensures.keyed e.0 in
    let bare = c.is_bare-bare.ensures.bare f.1 in
    same_table c.args.table.now value_table keyed.0 keyed.1 (c.has_value_columns-columns.ensures.columns e.1) keyed.2 keyed.3 keyed.4 keyed.5 bare.0 bare.1 bare.2 bare.3 bare.4
