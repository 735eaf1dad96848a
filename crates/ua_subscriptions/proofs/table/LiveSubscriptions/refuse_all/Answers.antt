use Rattle.ua_subscriptions.proofs.table.LiveSubscriptions.refuse_all.Goals as goal

pub invariant_of-self : goal.invariant_of-self
invariant_of-self c = (c.self.invariant.0, c.refuse_at.ensures.asked c.self.inside.askers c.self.invariant.1)
