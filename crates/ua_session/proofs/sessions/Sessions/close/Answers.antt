use Rattle.ua_session.proofs.HeldLemmas.{held_without}
use Rattle.ua_session.proofs.sessions.Sessions.close.Goals as goal

pub invariant_of-self : goal.invariant_of-self
invariant_of-self c =
    held_without c.self.inside.earliest c.self.inside.made c.self.inside.table c.remove.new.self c.in-Some.number c.remove.ensures c.self.invariant
