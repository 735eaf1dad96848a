use Rattle.std.proofs.Common.{◌∙◌, ap, sym, subst}
use Rattle.ua_services.specs.ItemServing.{with_items, fired_after, items_called_by, items_called}
use Rattle.ua_services.specs.Serving.{Serving, Judges}
use Rattle.ua_services.proofs.item_serving.AnySessionService.serve.Goals as goal

pub returns : goal.returns
returns g c =
    let setting = c.args.setting.now in
    let caller = c.args.caller.now in
    let session = c.args.session in
    let state = c.args.services.now in
    let done = g.S.ItemService.change setting caller c.args.request state in
    let number = c.subscription_id-number.result in
    let before = c.in-Some.before in
    subst (λ (s : Serving). Judges setting caller c.answer_items.result c.answer_items.new.services s)
    (ap (λ s. fired_after setting caller number s before c.in_ok-body.body) c.in_ok-body.ensures.items
    ∙ ap (fired_after setting caller number (with_items state done.items) before) c.in_ok-body.ensures.body
    ∙ ap (items_called_by setting caller number state done) (sym c.in-Some.is ∙ c.own_vars.ensures)
    ∙ ap (λ n. items_called setting caller session n state done) c.subscription_id-number.ensures)
    c.answer_items.ensures
