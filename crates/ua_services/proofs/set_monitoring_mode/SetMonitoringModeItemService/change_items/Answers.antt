use Rattle.std.proofs.Common.{◌∙◌, ap, arith, length}
use Rattle.ua_monitored_items.specs.Items.{mode_one}
use Rattle.ua_views.specs.Views.{or_none}
use Rattle.ua_services.proofs.SubLemmas.{served_length}
use Rattle.ua_services.proofs.set_monitoring_mode.SetMonitoringModeItemService.change_items.Goals as goal

pub statuses_body-requires : goal.statuses_body-requires
statuses_body-requires c =
    let same = ap length (c.as_slice.ensures.value ∙ c.in_ok-statuses.ensures.results) in
    let count = served_length (mode_one c.args.services.now.space.nodes c.args.setting.now.clock c.request.inside.subscription_id c.in-Some.mode) c.args.services.now.items (or_none c.in_ok-numbers.numbers) in
    let few = c.in_ok-numbers.ensures.short in
    omega (arith, same, count, few)
