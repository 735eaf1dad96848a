use Rattle.std.proofs.Common.{rules, ap, ◌∙◌}
use Rattle.std.specs.Prelude.{filter}
use Rattle.std.proofs.lemmas.Fn.{filter_same}
use Rattle.ua_subscriptions.specs.Ending.{came_by_other}
use Rattle.ua_subscriptions.proofs.ending.drop_requests.Goals as goal

pub returns : goal.returns
returns c =
    filter_same _ (came_by_other c.args.conn) _ (λ x b f' t. search rules) _ _ c.retain.ensures.filtered
    ∙ ap (filter (came_by_other c.args.conn)) c.requests.view_is
