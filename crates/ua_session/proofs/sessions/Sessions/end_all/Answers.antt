use Rattle.std.proofs.Common.{subst, sym, pos}
use Rattle.ua_session.specs.Sessions.{AreHeld}
use Rattle.ua_session.proofs.HeldLemmas.{held_in_empty}
use Rattle.ua_session.proofs.sessions.Sessions.end_all.Goals as goal

pub invariant_of-self : goal.invariant_of-self
invariant_of-self c =
    subst (AreHeld (record { 0 = pos 9223372036854775807 }) c.self.inside.made) (sym c.new.ensures) (held_in_empty (record { 0 = pos 9223372036854775807 }) c.self.inside.made)
