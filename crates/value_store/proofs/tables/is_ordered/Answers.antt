use Rattle.std.proofs.Common.{◌∙◌, sym}
use Rattle.value_store.proofs.Columns.{plain_one}
use Rattle.value_store.proofs.tables.is_ordered.Goals as goal

pub returns-in-len1-clause-order : goal.returns-in-len1-clause-order
returns-in-len1-clause-order c all = sym c.as_slice.ensures ∙ plain_one c.as_slice.result.now c.in-len1.len_at_least c.in-len1.len_below (sym c.eq.ensures ∙ all)
