use Rattle.std.proofs.lemmas.Result.{IfOk-weaker}
use Rattle.collections.proofs.NumberMaps.{lent_found, given_back}
use Rattle.server_connections.proofs.LentLemmas.{taken_back}
use Rattle.server_connections.proofs.connections.Connections.take.Goals as goal

pub returns : goal.returns
returns c =
    let connection = c.in-Some.connection.now in
    let there = lent_found c.get_mut.result _ c.in-Some.connection c.in-Some.is c.get_mut.ensures.found in
    let back = given_back _ c.get_mut.result c.in-Some.connection c.in-Some.is (c.get_mut.follows.holds (record connection { phase = c.frame_reaction.new.phase })) in
    IfOk-weaker c.frame_reaction.result _ _ (λ asked reacted.
    taken_back _ c.args.self.now c.args.conn connection _ c.frame_reaction.new.phase c.self.view_is there back c.args.setting.now c.args.frame.now c.args.outs.now c.frame_reaction.new.outs asked
    c.frame_reaction.new.channels reacted) c.frame_reaction.ensures
