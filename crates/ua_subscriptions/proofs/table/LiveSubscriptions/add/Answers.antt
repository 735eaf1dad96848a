use Rattle.std.proofs.Common.{ap, ◌∙◌}
use Rattle.std.specs.BTreeMap.{is_at}
use Rattle.std.specs.Map.{lookup}
use Rattle.std.specs.Ordering.{nat_cmp}
use Rattle.ua_subscriptions.proofs.Askings.{out_asked, in_asked}
use Rattle.ua_subscriptions.proofs.table.LiveSubscriptions.add.Goals as goal

pub invariant_of-self : goal.invariant_of-self
invariant_of-self c =
    (c.self.invariant.0, out_asked c.args.named.session c.self.inside.sessions.entries c.remove.new.self.entries c.self.inside.askers c.fire_of.new.askers c.remove.ensures.updates.0 c.self.invariant.1 (λ q apart. c.fire_of.ensures.more q))

pub invariant_of-self-in_err-insert : goal.invariant_of-self-in_err-insert
invariant_of-self-in_err-insert c =
    (c.self.invariant.0, out_asked c.args.named.session c.self.inside.sessions.entries c.remove.new.self.entries c.self.inside.askers c.fire_of.new.askers c.remove.ensures.updates.0 c.self.invariant.1 (λ q apart. c.fire_of.ensures.more q))

pub invariant_of-self-in_err-insert-2 : goal.invariant_of-self-in_err-insert-2
invariant_of-self-in_err-insert-2 c = (
  c.self.invariant.0,
  out_asked c.args.named.session c.self.inside.sessions.entries c.insert-2.new.self.entries c.self.inside.askers c.fire_of.new.askers
      (λ n. ap (lookup (is_at (nat_cmp n))) c.in_err-insert-2.ensures.err ∙ c.remove.ensures.updates.0 n) c.self.invariant.1 (λ q apart. c.fire_of.ensures.more q),
)

pub invariant_of-self-in_err-insert_at : goal.invariant_of-self-in_err-insert_at
invariant_of-self-in_err-insert_at c = (
  c.insert_at.ensures.listed,
  in_asked c.args.named.session _ c.remove.new.self.entries c.insert-2.new.self.entries c.fire_of.new.askers c.in_ok-insert-2.ensures.updates.0
      (out_asked c.args.named.session c.self.inside.sessions.entries c.remove.new.self.entries c.self.inside.askers c.fire_of.new.askers c.remove.ensures.updates.0 c.self.invariant.1 (λ q apart. c.fire_of.ensures.more q))
      c.fire_of.ensures.asked,
)

pub invariant_of-self-2 : goal.invariant_of-self-2
invariant_of-self-2 c = (
  c.insert_at.ensures.listed,
  in_asked c.args.named.session _ c.remove.new.self.entries c.insert-2.new.self.entries c.fire_of.new.askers c.in_ok-insert-2.ensures.updates.0
      (out_asked c.args.named.session c.self.inside.sessions.entries c.remove.new.self.entries c.self.inside.askers c.fire_of.new.askers c.remove.ensures.updates.0 c.self.invariant.1 (λ q apart. c.fire_of.ensures.more q))
      c.fire_of.ensures.asked,
)
