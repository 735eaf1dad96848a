use Rattle.std.proofs.lemmas.Result.{on_ok_weaker}
use Rattle.collections.proofs.NumberMaps.{lent_found, given_back}
use Rattle.server_connections.proofs.LentLemmas.{shut_back}
use Rattle.server_connections.proofs.connections.Connections.shut_one.Goals as goal

pub returns : goal.returns
returns c =
    let connection = c.in-Some.connection.now in
    let there = lent_found c.get_mut.result _ c.in-Some.connection c.in-Some.is c.get_mut.ensures.found in
    let back = given_back _ c.get_mut.result c.in-Some.connection c.in-Some.is (c.get_mut.follows.holds (record connection { phase = c.close_open.new.phase })) in
    on_ok_weaker c.close_open.result (λ said.
    shut_back _ c.args.self.now c.args.conn connection _ c.close_open.new.phase c.self.view_is there back c.args.outs.now c.close_open.new.outs said) c.close_open.ensures
