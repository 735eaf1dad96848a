use Rattle.std.proofs.Common.{refl}
use Rattle.std.proofs.lemmas.Result.{on_ok_weaker}
use Rattle.collections.proofs.NumberMaps.{lent_found, given_back}
use Rattle.server_connections.proofs.LentLemmas.{said_back}
use Rattle.server_connections.proofs.connections.Connections.deliver_one.Goals as goal

pub returns : goal.returns
returns c =
    let connection = c.in-Some.connection.now in
    let there = lent_found c.get_mut.result _ c.in-Some.connection c.in-Some.is c.get_mut.ensures.found in
    let back = given_back _ c.get_mut.result c.in-Some.connection c.in-Some.is (c.get_mut.follows.holds (record connection { phase = c.say.new.phase })) in
    on_ok_weaker c.say.result (λ said.
    said_back _ c.args.self.now c.args.reply.origin.conn connection _ c.say.new.phase c.self.view_is there back c.args.setting.now c.args.reply c.args.outs.now c.say.new.outs refl said) c.say.ensures
