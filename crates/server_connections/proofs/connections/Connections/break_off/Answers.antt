use Rattle.collections.proofs.NumberMaps.{lent_found, given_back}
use Rattle.server_connections.proofs.LentLemmas.{broken_back}
use Rattle.server_connections.proofs.connections.Connections.break_off.Goals as goal

pub returns-clause-connections : goal.returns-clause-connections
returns-clause-connections c =
    let connection = c.in-Some.connection.now in
    let there = lent_found c.get_mut.result _ c.in-Some.connection c.in-Some.is c.get_mut.ensures.found in
    let back = given_back _ c.get_mut.result c.in-Some.connection c.in-Some.is (c.get_mut.follows.holds (record connection { phase = c.break_off.new.phase })) in
    broken_back _ c.args.self.now c.args.conn connection _ c.break_off.new.phase c.self.view_is there back c.args.fault c.args.outs.now _ _ c.in_ok-break_off.ensures
