use Rattle.std.proofs.Common.{sym}
use Rattle.std.proofs.lemmas.Result.{err_from_is_err_and}
use Rattle.server_core.proofs.ShuttingLemmas.{nothing_more, all_ends, all_halts}
use Rattle.server_core.proofs.world.World.shut_down.Goals as goal

pub returns-then-self-clause-shut : goal.returns-then-self-clause-shut
returns-then-self-clause-shut c = nothing_more c.args.self.now c.if-self.true c.new.result (sym c.new.ensures)

pub returns-in_err-step-clause-shut : goal.returns-in_err-step-clause-shut
returns-in_err-step-clause-shut c =
    let p = err_from_is_err_and c.from_residual.result c.from_residual.ensures.1 in
    rw (p.1, p.2) (all_halts c.args.self.now c.if-self.false c.in_err-step.field-0.0 c.shut_down.new.self (record c.args.self.now { core = c.shut_down.new.self }) c.in_err-step.ensures)

pub returns-clause-shut : goal.returns-clause-shut
returns-clause-shut c = all_ends c.args.self.now c.if-self.false c.in_ok-step.step c.shut_down.new.self c.new-2.result c.in_ok-step.ensures (sym c.new-2.ensures)
