use Rattle.std.proofs.Common.{◌∙◌, sym, ap, subst, List, [], ◌∷◌, ◌++◌, take, arith}
use Rattle.std.proofs.lemmas.List.{take_more, take_all}
use Rattle.server_messages.specs.declared.stored.Stored.{Stored}
use Rattle.value_store.specs.Keeping.{AreChanges}
use Rattle.value_store.proofs.Telling.{changes_more}
use Rattle.value_store.proofs.changes.changes_of.Goals as goal

pub each-preserved : goal.each-preserved
each-preserved c =
    let one = c.one-item.result in
    let done = take c.each.one-index c.args.stored.now in
    let old = c.each.changes.items in
    let new = c.push_all.new.changes.items in
    let more = take_more c.args.stored.now c.each.one-index one (omega (arith, c.each-test.true)) in
    subst (λ (l : List Stored). AreChanges l new) (sym (more ∙ ap (λ x. done ++ x ∷ []) (sym c.one-item.is))) (changes_more done one old new c.each.invariant c.in_ok-push_all.ensures.changes)

pub returns-clause-changes : goal.returns-clause-changes
returns-clause-changes c = subst (λ (l : List Stored). AreChanges l c.each.changes.items) (take_all c.each.one-index c.args.stored.now (omega (arith, c.each-test.false))) c.each.invariant
