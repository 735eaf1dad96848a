use Rattle.std.proofs.Common.{◌≡◌, true, ◌∙◌, arith}
use Rattle.store_restoring.specs.Opened.{closed}
use Rattle.store_restoring.proofs.Steps.{closed_fits, closed_place, opened_put, past_left, place_within}
use Rattle.store_restoring.proofs.histories.put_past.Goals as goal

pub returns-in-Err-clause-past : goal.returns-in-Err-clause-past
returns-in-Err-clause-past c =
    past_left c.args.kept (closed c.args.space.now.nodes c.args.current) c.in-Err.field-0
    (closed_fits true c.args.kept c.args.space.now.nodes c.args.current ∙ c.in-Err.ensures.misfit)

pub opened_at-requires-clause-place : goal.opened_at-requires-clause-place
opened_at-requires-clause-place c = place_within c.args.kept.node_id c.args.space.now.nodes c.in-Ok.place c.in-Ok.ensures.place

pub returns-clause-past : goal.returns-clause-past
returns-clause-past c =
    let nodes = c.args.space.now.nodes in
    let current = c.args.current in
    opened_put c.args.kept (closed nodes current) c.opened_at.new.space.nodes c.in-Ok.place c.in_ok-opened.opened c.insert.new.self
    (closed_fits true c.args.kept nodes current ∙ c.in-Ok.ensures.fits) (closed_place c.args.kept.node_id nodes current ∙ c.in-Ok.ensures.place)
    c.in_ok-opened.ensures.opened c.in_ok-insert.ensures.place c.in_ok-insert.ensures.rising c.in_ok-insert.ensures.past

pub returns-clause-within : goal.returns-clause-within
returns-clause-within c =
    let lt = place_within c.args.kept.node_id c.args.space.now.nodes c.in-Ok.place c.in-Ok.ensures.place in
    let same : c.insert.new.self.place ≡ c.in-Ok.place = c.in_ok-insert.ensures.place ∙ c.in_ok-opened.ensures.opened.place in
    omega arith
