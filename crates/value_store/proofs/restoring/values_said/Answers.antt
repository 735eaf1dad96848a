use Rattle.std.proofs.Common.{◌∙◌, sym, ap, subst, List, [], ◌∷◌, ◌++◌, take, arith}
use Rattle.std.specs.List.{AllZip}
use Rattle.std.proofs.lemmas.List.{take_more, take_all}
use Rattle.server_messages.specs.declared.kept_values.KeptValue.{KeptValue}
use Rattle.value_store.specs.declared.rows.StoredRow.{StoredRow}
use Rattle.value_store.specs.Restoring.{IsOf}
use Rattle.value_store.proofs.Looking.{zip_push}
use Rattle.value_store.proofs.restoring.values_said.Goals as goal

pub each-preserved : goal.each-preserved
each-preserved c =
    let row = c.row-item.result in
    let done = take c.each.row-index c.args.rows.now in
    let more = take_more c.args.rows.now c.each.row-index row (omega (arith, c.each-test.true)) in
    let one = zip_push IsOf done c.each.kept.items row c.in_ok-said.said c.each.invariant c.in_ok-said.ensures.value in
    subst (λ (rows : List StoredRow). AllZip IsOf rows c.push.new.self.items) (sym (more ∙ ap (λ x. done ++ x ∷ []) (sym c.row-item.is)))
    (subst (λ (kept : List KeptValue). AllZip IsOf (done ++ row ∷ []) kept) (sym c.in_ok-push.ensures.items) one)

pub returns-clause-values : goal.returns-clause-values
returns-clause-values c = subst (λ (rows : List StoredRow). AllZip IsOf rows c.each.kept.items) (take_all c.each.row-index c.args.rows.now (omega (arith, c.each-test.false))) c.each.invariant
