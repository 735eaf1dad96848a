use Rattle.std.proofs.Common.{◌∙◌, ap, arith, length}
use Rattle.ua_monitored_items.specs.Items.{delete_one}
use Rattle.ua_views.specs.Views.{or_none}
use Rattle.ua_services.proofs.SubLemmas.{served_length}
use Rattle.ua_services.proofs.delete_monitored_items.DeleteMonitoredItemsItemService.change_items.Goals as goal

pub statuses_body-requires : goal.statuses_body-requires
statuses_body-requires c =
    let same = ap length (c.as_slice.ensures.value ∙ c.in_ok-statuses.ensures.results) in
    let count = served_length (delete_one c.request.inside.subscription_id) c.args.services.now.items (or_none c.in_ok-numbers.numbers) in
    let few = c.in_ok-numbers.ensures.short in
    omega (arith, same, count, few)
