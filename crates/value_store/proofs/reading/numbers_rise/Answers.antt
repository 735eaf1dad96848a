use Rattle.std.proofs.Common.{rules, ◌≡◌, ◌∙◌, sym, ap, subst, [], ◌∷◌, ◌++◌, take, Some, arith, w64}
use Rattle.std.proofs.lemmas.List.{take_more}
use mir.Val.{to_z, of_z}
use Rattle.sqlite.specs.declared.types.Value.TheVariants.{Int}
use Rattle.value_store.specs.Model.{AreNumbered}
use Rattle.value_store.proofs.Rising.{AreUpTo, rises}
use Rattle.value_store.proofs.reading.numbers_rise.Goals as goal

pub each-preserved : goal.each-preserved
each-preserved c =
    let all = c.each.invariant in
    let row = c.row-item.result in
    let number = c.in_ok-number.number in
    let same : to_z w64 (of_z w64 number) ≡ number = search rules in
    let done = take c.each.row-index c.args.rows.now in
    let read = c.in_ok-number.ensures.ok in
    let above = c.is_above.ensures c.if-not-is_above.false in
    let next = rises c.each.last done row (to_z w64 (of_z w64 number)) (read.1 ∙ ap Int (sym same)) all.0 all.1 above in
    let more = take_more c.args.rows.now c.each.row-index row (omega (arith, c.each-test.true)) in
    subst (λ rs. AreNumbered rs × AreUpTo (Some (to_z w64 (of_z w64 number))) rs) (sym (more ∙ ap (λ x. done ++ x ∷ []) (sym c.row-item.is))) next
