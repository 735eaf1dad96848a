use Rattle.std.proofs.Common.{◌∙◌, sym}
use Rattle.std.proofs.lemmas.Bool.{and_parts}
use Rattle.value_store.proofs.Columns.{six}
use Rattle.value_store.proofs.tables.has_value_columns.Goals as goal

pub returns-clause-columns : goal.returns-clause-columns
returns-clause-columns c all =
    let f = and_parts _ _ all in
    let e = and_parts _ _ f.0 in
    let d = and_parts _ _ e.0 in
    let b = and_parts _ _ d.0 in
    let a = and_parts _ _ b.0 in
    let whole = six c.as_slice.result.now _ _ _ _ _ _ c.in-len6.len_at_least c.in-len6.len_below c.node-item.is c.kind-item.is c.value-item.is c.status-item.is c.source-item.is c.server-item.is in
    let told = rw (c.is_plain-first.ensures.plain a.0, c.is_plain-second.ensures.plain a.1, c.is_plain-third.ensures.plain b.1, c.is_plain-fourth.ensures.plain d.1, c.is_plain-fifth.ensures.plain e.1, c.is_plain-sixth.ensures.plain f.1) at whole in
    sym c.as_slice.ensures ∙ told
