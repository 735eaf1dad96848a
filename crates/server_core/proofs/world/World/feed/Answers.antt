use Rattle.std.proofs.Common.{◌∙◌, ap, sym, if◌then◌else◌}
use Rattle.std.specs.FinMap.{remove}
use Rattle.collections.proofs.NumberMaps.{lent_found, given_back}
use Rattle.std.proofs.lemmas.Result.{err_from_is_err_and}
use Rattle.server_core.proofs.HandlingLemmas.{piece_in_place, piece_halts}
use Rattle.server_core.proofs.world.World.feed.Goals as goal

pub returns-then-goes_on-clause-fed : goal.returns-then-goes_on-clause-fed
returns-then-goes_on-clause-fed c =
    let framer = c.in-Some.framer.now in
    let there = lent_found c.get_mut.result _ c.in-Some.framer c.in-Some.is c.get_mut.ensures.found in
    let back = given_back _ c.get_mut.result c.in-Some.framer c.in-Some.is (c.get_mut.follows.holds c.feed.new.self) in
    piece_in_place c.args.self.now c.args.conn c.args.piece.now framer c.feed.new.self c.in_ok-fed.fed c.finish.new.self c.new-step.result c.finish.new.step c.in_ok-goes_on.goes_on _ _ there
    c.new-step.ensures c.in_ok-fed.ensures.fed c.in_ok-goes_on.ensures back
    (ap (λ b. if b then c.get_mut.follows.lender c.feed.new.self else remove (c.get_mut.follows.lender c.feed.new.self) c.args.conn) (sym c.if-goes_on.true))

pub returns-clause-fed : goal.returns-clause-fed
returns-clause-fed c =
    let framer = c.in-Some.framer.now in
    let there = lent_found c.get_mut.result _ c.in-Some.framer c.in-Some.is c.get_mut.ensures.found in
    let back = given_back _ c.get_mut.result c.in-Some.framer c.in-Some.is (c.get_mut.follows.holds c.feed.new.self) in
    piece_in_place c.args.self.now c.args.conn c.args.piece.now framer c.feed.new.self c.in_ok-fed.fed c.finish.new.self c.new-step.result c.finish.new.step c.in_ok-goes_on.goes_on _ _ there
    c.new-step.ensures c.in_ok-fed.ensures.fed c.in_ok-goes_on.ensures back
    (c.remove.ensures.removed ∙ ap (λ b. if b then c.get_mut.follows.lender c.feed.new.self else remove (c.get_mut.follows.lender c.feed.new.self) c.args.conn) (sym c.if-goes_on.false))

pub returns-in_err-goes_on-clause-fed : goal.returns-in_err-goes_on-clause-fed
returns-in_err-goes_on-clause-fed c =
    let framer = c.in-Some.framer.now in
    let there = lent_found c.get_mut.result _ c.in-Some.framer c.in-Some.is c.get_mut.ensures.found in
    let p = err_from_is_err_and c.from_residual-in_err-goes_on.result c.from_residual-in_err-goes_on.ensures.1 in
    rw (p.1, p.2) (piece_halts c.args.self.now c.args.conn c.args.piece.now framer c.feed.new.self c.in_ok-fed.fed c.in_err-goes_on.field-0.0 c.finish.new.self c.new-step.result c.finish.new.step _ there c.in_ok-fed.ensures.fed c.in_err-goes_on.ensures)
