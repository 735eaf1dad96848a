use Rattle.std.proofs.Common.{◌≡◌, true, false, [], ◌++◌, sym, ap, ◌∙◌}
use Rattle.ua_subscriptions.specs.Ending.{all_requests}
use Rattle.ua_subscriptions.proofs.Shutdowns.{both_none}
use Rattle.ua_subscriptions.proofs.ending.refuse_sessions.Goals as goal

pub returns-in_err-refuse_requests-clause-none : goal.returns-in_err-refuse_requests-clause-none
returns-in_err-refuse_requests-clause-none c = λ none.
    let calm : c.in-Some.part.requests ++ all_requests c.next.new.self ≡ [] = ap all_requests (sym c.in-Some.ensures.steps) ∙ c.loop-part.invariant.1 none in
    let clash : false ≡ true = c.in_err-refuse_requests.ensures.none (both_none c.in-Some.part.requests (all_requests c.next.new.self) calm).0 in
    absurd (cc)
