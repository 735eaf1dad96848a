use Rattle.std.proofs.Common.{◌≡◌, take}
use Rattle.ua_services.specs.Serving.{given, given_of}
use Rattle.ua_services.specs.SubServing.{all_timed_out}
use Rattle.ua_services.proofs.sub_serving.end_sessions.Given as goal

-- those so far are over
abbrev pub invariant-loop-number : goal.invariant-loop-number
invariant-loop-number l = given l.services l.served ≡ given_of (all_timed_out l.setting l.fn.services (take l.number-index l.numbers))
