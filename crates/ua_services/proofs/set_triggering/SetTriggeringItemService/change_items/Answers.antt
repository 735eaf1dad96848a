use Rattle.std.proofs.Common.{subst, arith}
use Rattle.ua_views.specs.Views.{or_none}
use Rattle.ua_monitored_items.specs.Links.{link, IsAnswer}
use Rattle.ua_services.proofs.LinkLemmas.{links_length}
use Rattle.ua_services.proofs.set_triggering.SetTriggeringItemService.change_items.Goals as goal

pub links_body-requires-clause-added : goal.links_body-requires-clause-added
links_body-requires-clause-added c =
    let items = c.args.services.now.items in
    let request = c.request.inside in
    let add = or_none request.links_to_add in
    let remove = or_none request.links_to_remove in
    let answer = subst (λ r. IsAnswer r (link items request.subscription_id request.triggering_item_id add remove)) c.in-Ok.is c.in_ok-linked.ensures.answer in
    let count = (links_length items request.subscription_id request.triggering_item_id add remove c.in-Ok.linked answer).0 in
    let same = c.len.ensures.len in
    let few = c.len.ensures.small in
    omega (arith, count, same, few)

pub links_body-requires-clause-removed : goal.links_body-requires-clause-removed
links_body-requires-clause-removed c =
    let items = c.args.services.now.items in
    let request = c.request.inside in
    let add = or_none request.links_to_add in
    let remove = or_none request.links_to_remove in
    let answer = subst (λ r. IsAnswer r (link items request.subscription_id request.triggering_item_id add remove)) c.in-Ok.is c.in_ok-linked.ensures.answer in
    let count = (links_length items request.subscription_id request.triggering_item_id add remove c.in-Ok.linked answer).1 in
    let same = c.len-2.ensures.len in
    let few = c.len-2.ensures.small in
    omega (arith, count, same, few)
