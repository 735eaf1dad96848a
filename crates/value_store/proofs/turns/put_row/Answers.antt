use Rattle.std.proofs.Common.{arith, subst}
use Rattle.sqlite.specs.Held.{state}
use Rattle.value_store.specs.Steps.{Renews}
use Rattle.value_store.proofs.Changing.{puts}
use Rattle.value_store.proofs.turns.put_row.Goals as goal

pub returns-in-0-clause-made : goal.returns-in-0-clause-made
returns-in-0-clause-made g c clean inside =
    let old = state g.S.Store c.args.turn.now.conn.now in
    let mid = state g.S.Store c.renew_row.new.turn.conn.now in
    let new = state g.S.Store c.add_row.new.turn.conn.now in
    let renewed = c.in_ok-renew_row.ensures.made (omega (arith, c.add_row.ensures.survives.clean)) inside in
    let none = subst (λ n. Renews c.args.table c.args.row.now n old mid) c.in-0.is renewed in
    puts old mid new c.args.table c.args.row.now c.add_row.result none (c.add_row.ensures.made clean none.1)
