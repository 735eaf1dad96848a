use Rattle.ua_subscriptions.proofs.table.LiveSubscriptions.publish.Goals as goal

pub invariant_of-self-in_err-tell_note : goal.invariant_of-self-in_err-tell_note
invariant_of-self-in_err-tell_note c = (c.acknowledge_all.ensures.listed c.self.inside.dues c.self.invariant.0, c.take_note.ensures.asked c.self.inside.askers c.self.invariant.1)

pub invariant_of-self-in-Some : goal.invariant_of-self-in-Some
invariant_of-self-in-Some c = (c.acknowledge_all.ensures.listed c.self.inside.dues c.self.invariant.0, c.take_note.ensures.asked c.self.inside.askers c.self.invariant.1)

pub invariant_of-self-2 : goal.invariant_of-self-2
invariant_of-self-2 c = (c.acknowledge_all.ensures.listed c.self.inside.dues c.self.invariant.0, c.take_note.ensures.asked c.self.inside.askers c.self.invariant.1)
