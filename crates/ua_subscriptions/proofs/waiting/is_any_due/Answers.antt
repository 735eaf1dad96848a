use Rattle.std.proofs.Common.{◌∙◌}
use Rattle.ua_subscriptions.proofs.Listings.{any_is_due}
use Rattle.ua_subscriptions.proofs.waiting.is_any_due.Goals as goal

pub returns-clause-any : goal.returns-clause-any
returns-clause-any c =
    c.is_any_due.ensures ∙ any_is_due c.args.clock c.args.subscriptions.now.entries c.args.dues.now c.requires c.len.ensures.ordered
