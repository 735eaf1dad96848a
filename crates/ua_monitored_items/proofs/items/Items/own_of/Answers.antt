use Rattle.std.proofs.Common.{ℕ, List, ◌++◌, ◌∷◌, [], cond, ap, sym, ◌∙◌, append_assoc}
use Rattle.std.specs.BTreeSet.{insert_key}
use Rattle.std.specs.Ordering.{nat_cmp}
use Rattle.ua_monitored_items.specs.Links.{is_own}
use Rattle.ua_monitored_items.proofs.Linking.{passing_more}
use Rattle.ua_monitored_items.proofs.items.Items.own_of.Goals as goal

pub loop-number-preserved : goal.loop-number-preserved
loop-number-preserved c =
    let front = c.loop-number.invariant.2 in
    let number = c.in-Some.number.now in
    let own = is_own c.args.self.now c.args.subscription in (
      tt,
      tt,
      front ++ number ∷ [],
      append_assoc front (number ∷ []) c.next.new.self ∙ ap (λ xs. front ++ xs) (sym c.in-Some.ensures.steps) ∙ c.loop-number.invariant.3,
      c.in_ok-keep_own.ensures.ok
          ∙ ap (λ (ns : List ℕ). cond (own number) (insert_key nat_cmp ns number) ns) c.loop-number.invariant.4
          ∙ sym (passing_more own front number),
    )
