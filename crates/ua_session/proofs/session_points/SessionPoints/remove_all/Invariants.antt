use Rattle.std.proofs.Common.{◌≡◌, drop}
use Rattle.ua_session.specs.Sessions.{without}
use Rattle.ua_session.proofs.session_points.SessionPoints.remove_all.Given as goal

-- what is left once all others are taken out too is what is left in the end
abbrev pub invariant-loop-number : goal.invariant-loop-number
invariant-loop-number l = without l.self (drop l.number-index l.numbers) ≡ without l.fn.self l.fn.numbers
