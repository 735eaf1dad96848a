use Rattle.sqlite.specs.Held.{state}
use Rattle.value_store.proofs.Changing.{renews}
use Rattle.value_store.proofs.Settling.{keeps_commit}
use Rattle.value_store.proofs.turns.renew_row.Goals as goal

pub returns-clause-made : goal.returns-clause-made
returns-clause-made g c clean inside =
    let old = state g.S.Store c.args.turn.now.conn.now in
    let new = state g.S.Store c.execute.new.self.conn.now in
    renews old new c.args.table c.args.row.now c.execute.result (rw (c.renew_text.ensures, c.row_columns.ensures) at (c.execute.ensures.runs clean inside))

pub returns-clause-kept : goal.returns-clause-kept
returns-clause-kept g c clean inside =
    let old = state g.S.Store c.args.turn.now.conn.now in
    let new = state g.S.Store c.execute.new.self.conn.now in
    keeps_commit _ _ old new c.execute.result (c.execute.ensures.runs clean inside)
