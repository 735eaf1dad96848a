use Rattle.std.proofs.Common.{◌∙◌, ◌++◌, rules, ap, sym, subst}
use Rattle.ua_views.specs.Views.{or_none}
use Rattle.ua_services.specs.Paging.{Halts}
use Rattle.ua_services.proofs.PagingLemmas.{halts_all}
use Rattle.ua_services.proofs.paging.all_pages.Goals as goal

pub returns-in-Err : goal.returns-in-Err
returns-in-Err g c =
    let meaning = g.P.Pages.meaning c.args.wanted.now c.args.shown.now.space.now c.args.shown.now.history.now in
    let claim : g.claim c.lifetimes = search rules in
    halts_all meaning ((g.met.P.Pages c.lifetimes claim).rises c.args.wanted.now c.args.shown.now.space.now c.args.shown.now.history.now) c.in-Err.halt c.args.points.now c.loop-asked.yielded c.in-Some.asked (or_none c.next.new.self)
    (or_none c.args.list) (ap (λ xs. c.loop-asked.yielded ++ xs) (sym c.in-Some.ensures.steps) ∙ c.loop-asked.invariant.left)
    (subst (λ s. Halts c.in-Err.halt s (meaning s c.in-Some.asked).points) c.loop-asked.invariant.points c.in-Err.ensures)
