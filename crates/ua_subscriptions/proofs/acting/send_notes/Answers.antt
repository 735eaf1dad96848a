use Rattle.ua_subscriptions.proofs.Sendings.{fewer}
use Rattle.ua_subscriptions.proofs.acting.send_notes.Goals as goal

pub loop-subscription-smaller : goal.loop-subscription-smaller
loop-subscription-smaller c = fewer c.loop-subscription.requests c.pop.new.self c.in-Some.call c.in-Some.ensures.first c.in-Some.ensures.rest
