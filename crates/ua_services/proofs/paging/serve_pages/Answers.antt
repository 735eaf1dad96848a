use Rattle.std.proofs.Common.{◌≡◌, ◌∙◌, ◌++◌, Ok, length, arith, ap, refl, subst}
use Rattle.std.specs.List.{flat_map}
use Rattle.std.proofs.lemmas.Result.{err_from_is_err_and}
use Rattle.collections.proofs.NumberMaps.{lent_found, given_back}
use Rattle.ua_messages.specs.Diagnostics.{diagnostic_infos_encoding}
use Rattle.ua_session.specs.Points.{GivesInRange}
use Rattle.ua_session.specs.Sessions.{points_of, with_points}
use Rattle.ua_services.specs.Paging.{DoesAll, Halts, all_done, results_body_of, results_head_of}
use Rattle.ua_services.specs.Serving.{replied, reply_of}
use Rattle.ua_services.proofs.PagingLemmas.{lent_points, some_lent, served_all, halted_all, all_counted, body_written}
use Rattle.ua_views.specs.Views.{or_none}
use Rattle.ua_services.proofs.paging.serve_pages.Goals as goal

pub unreachable-requires : goal.unreachable-requires
unreachable-requires g c = some_lent c.args.services.now.sessions c.open_points.new.self c.args.session _ c.points_mut.result c.in_ok-open_points.ensures.ok c.points_mut.ensures.found c.in_default.is

pub returns : goal.returns
returns g c =
    let encoding = g.P.Answer.Wire.encoding in
    let setting = c.args.setting.now in
    let caller = c.args.caller.now in
    let state = c.args.services.now in
    let list = or_none c.args.list in
    let meaning = g.P.Pages.meaning c.args.wanted.now state.space state.history in
    let before = points_of state.sessions c.args.session in
    let done = all_done meaning before list in
    let found = lent_found c.points_mut.result _ c.in-Some.points c.in-Some.is c.points_mut.ensures.found in
    let same = lent_points state.sessions c.open_points.new.self c.args.session _ _ c.in_ok-open_points.ensures.ok found in
    let did : DoesAll encoding (Ok tt) c.in_ok-body.body c.all_pages.new.body before c.all_pages.new.points done =
    subst (λ p. DoesAll encoding (Ok tt) c.in_ok-body.body c.all_pages.new.body p c.all_pages.new.points (all_done meaning p list)) same c.in_ok-all_pages.ensures in
    let head : c.in_ok-body.body ≡ results_head_of setting caller g.P.Pages.RESPONSE c.len.result = rw c.response.ensures at c.in_ok-body.ensures in
    let counted = all_counted meaning before list in
    let count : length done.results ≡ c.len.result = omega (arith, counted, c.len.ensures.len) in
    let written = body_written encoding setting caller g.P.Pages.RESPONSE c.len.result done.results count in
    let body : c.all_pages.new.body ++ diagnostic_infos_encoding (record {}) ≡ results_body_of encoding setting caller g.P.Pages.RESPONSE done.results =
    ap (λ b. b ++ diagnostic_infos_encoding (record {})) (did.0 ∙ ap (λ b. b ++ flat_map encoding done.results) head) ∙ written in
    served_all encoding setting caller c.args.session g.P.Pages.RESPONSE state c.open_points.new.self _ _ done done
    c.in_ok-open_points.ensures.ok
    (given_back _ c.points_mut.result c.in-Some.points c.in-Some.is (c.points_mut.follows.holds c.all_pages.new.points) ∙ ap (with_points c.open_points.new.self c.args.session) did.1)
    (c.in_ok-answer.ensures ∙ ap (λ b. replied (reply_of caller b)) body)
    refl
    (subst (GivesInRange before) did.1 did.2)

pub returns-in_err-all_pages : goal.returns-in_err-all_pages
returns-in_err-all_pages g c =
    let found = lent_found c.points_mut.result _ c.in-Some.points c.in-Some.is c.points_mut.ensures.found in
    let same = lent_points c.args.services.now.sessions c.open_points.new.self c.args.session _ _ c.in_ok-open_points.ensures.ok found in
    let meaning = g.P.Pages.meaning c.args.wanted.now c.args.services.now.space c.args.services.now.history in
    let p = err_from_is_err_and c.from_residual-in_err-all_pages.result c.from_residual-in_err-all_pages.ensures.1 in
    rw (p.1, p.2) (halted_all g.P.Answer.Wire.encoding c.args.setting.now c.args.caller.now c.args.session g.P.Pages.RESPONSE c.args.services.now _ c.in_err-all_pages.field-0.0 _
    (subst (λ p. Halts c.in_err-all_pages.field-0.0 p (all_done meaning p (or_none c.args.list)).points) same c.in_err-all_pages.ensures))
