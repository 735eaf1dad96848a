use Rattle.std.proofs.Common.{rules, ◌≡◌, ◌∙◌, sym, arith, IsTrue}
use Rattle.std.specs.declared.cmp.Ordering.TheVariants.{Less}
use Rattle.value_store.specs.Restoring.{order_in}
use Rattle.value_store.proofs.Looking.{rise_more}
use Rattle.value_store.proofs.restoring.rise.Goals as goal

pub each-preserved : goal.each-preserved
each-preserved c =
    let a = c.index-kept-place.result in
    let b = c.index-kept-place-in-each.result in
    let told : IsTrue c.is_less.result = search rules in
    let less : order_in c.args.table a b ≡ Less = sym c.order_in-order.ensures ∙ c.is_less.ensures told in
    rise_more (order_in c.args.table) c.args.kept.now c.each.place a b (omega arith) (omega arith) c.index-kept-place.is c.index-kept-place-in-each.is less c.each.invariant
