use Rattle.std.proofs.Common.{◌≡◌, arith, ap, ◌∙◌}
use Rattle.std.proofs.lemmas.Int.{ints}
use Rattle.ua_subscriptions.specs.DueLists.{is_past, any_past}
use Rattle.ua_subscriptions.proofs.DueWalks.{any_by_first}
use Rattle.ua_subscriptions.proofs.due_list.DueList.is_any_due.Goals as goal

pub returns-in-Some : goal.returns-in-Some
returns-in-Some c =
    let first : c.le.result ≡ is_past c.args.clock c.in-Some.first.now = grind (arith, ints, c.le.ensures) in
    first ∙ any_by_first c.args.clock c.self.inside.dues.keys c.in-Some.first.now c.in-Some.ensures.first c.in-Some.ensures.all_from ∙ ap (any_past c.args.clock) c.self.view_is
