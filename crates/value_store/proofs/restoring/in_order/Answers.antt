use Rattle.std.proofs.Common.{rules, ◌≡◌, sym, subst, arith, List, drop, length, IsTrue}
use Rattle.std.specs.Prelude.{IsPermutation}
use Rattle.std.proofs.lemmas.List.{take_at}
use Rattle.std.proofs.lemmas.List.Sorted.{length_permutation}
use Rattle.server_messages.specs.declared.kept_values.KeptValue.{KeptValue}
use Rattle.value_store.specs.Restoring.{order_in, Rise}
use Rattle.value_store.proofs.restoring.in_order.Goals as goal

pub returns-clause-moved : goal.returns-clause-moved
returns-clause-moved c =
    let old = c.args.kept.items in
    let new = c.sort.new.kept in
    let same : IsPermutation old new = subst (λ (xs : List KeptValue). IsPermutation xs new) c.deref_mut.ensures.value c.sort.ensures in
    let long : length new ≡ c.args.kept.len = omega (arith, length_permutation old new same, c.args.kept.ok.0) in
    subst (λ (xs : List KeptValue). IsPermutation old xs) (sym (take_at new (drop (length new) old) c.args.kept.len long)) same

pub returns-clause-rise : goal.returns-clause-rise
returns-clause-rise c =
    let told : IsTrue c.rise.result = search rules in
    subst (λ (xs : List KeptValue). Rise (order_in c.args.table) xs) c.deref.ensures.value (c.rise.ensures told)
