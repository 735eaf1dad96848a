use Rattle.std.proofs.Common.{subst, sym, pos}
use Rattle.ua_session.specs.Sessions.{AreHeld}
use Rattle.ua_session.proofs.HeldLemmas.{held_in_empty}
use Rattle.ua_session.proofs.sessions.Sessions.new.Goals as goal

pub invariant_of-result : goal.invariant_of-result
invariant_of-result c =
    subst (AreHeld (record { 0 = pos 9223372036854775807 }) 0) (sym c.new.ensures) (held_in_empty (record { 0 = pos 9223372036854775807 }) 0)
