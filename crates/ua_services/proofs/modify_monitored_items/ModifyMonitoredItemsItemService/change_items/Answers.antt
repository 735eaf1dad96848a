use Rattle.std.proofs.Common.{◌∙◌, ap, arith, length}
use Rattle.ua_monitored_items.specs.Items.{modify_one}
use Rattle.ua_views.specs.Views.{or_none}
use Rattle.ua_services.proofs.SubLemmas.{served_length}
use Rattle.ua_services.proofs.modify_monitored_items.ModifyMonitoredItemsItemService.change_items.Goals as goal

pub results_body-requires : goal.results_body-requires
results_body-requires c =
    let same = ap length (c.as_slice.ensures.value ∙ c.in_ok-results.ensures.results) in
    let count = served_length (modify_one c.request.inside.subscription_id c.in-Some.timestamps) c.args.services.now.items (or_none c.in_ok-requests.requests) in
    let few = c.in_ok-requests.ensures.short in
    omega (arith, same, count, few)
