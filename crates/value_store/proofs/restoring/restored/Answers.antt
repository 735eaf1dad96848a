use Rattle.std.proofs.Common.{List, subst}
use Rattle.std.specs.List.{AllZip}
use Rattle.value_store.specs.declared.rows.StoredRow.{StoredRow}
use Rattle.value_store.specs.Restoring.{IsOf}
use Rattle.value_store.proofs.Restored.{all_restored}
use Rattle.value_store.proofs.restoring.restored.Goals as goal

pub returns-clause-restored : goal.returns-clause-restored
returns-clause-restored c trees all =
    let said = c.in_ok-said.said.items in
    let past = c.in_ok-past.past.items in
    let are = subst (λ (rows : List StoredRow). AllZip IsOf rows said) c.deref.ensures.value c.in_ok-said.ensures.values in
    let pasts_are = subst (λ (rows : List StoredRow). AllZip IsOf rows past) c.deref-2.ensures.value c.in_ok-past.ensures.values in
    all_restored trees c.args.rows.now.values.items c.args.rows.now.pasts.items said past c.in_ok-values.values.items c.in_ok-histories.histories.items all are pasts_are c.in_ok-values.ensures.moved
    c.in_ok-histories.ensures.moved c.in_ok-values.ensures.rise c.in_ok-histories.ensures.rise
