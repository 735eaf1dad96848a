use Rattle.std.proofs.Common.{◌∙◌, ap, is_some, arith}
use Rattle.std.specs.FinMap as map
use Rattle.ua_session.proofs.HeldLemmas.{held_with, number_given}
use Rattle.ua_session.proofs.sessions.Sessions.set.Goals as goal

pub invariant_of-self : goal.invariant_of-self
invariant_of-self c =
    let old = c.self.inside in
    held_with c.earlier-self-inside.result old.earliest old.made old.made old.table c.set.new.self c.args.number c.args.session c.set.ensures c.earlier-self-inside.ensures.first c.earlier-self-inside.ensures.second
    (number_given old.earliest old.made old.table c.args.number c.self.invariant (ap (λ s. is_some (map.get s.sessions c.args.number)) c.self.view_is ∙ c.requires)) (omega arith) c.self.invariant
