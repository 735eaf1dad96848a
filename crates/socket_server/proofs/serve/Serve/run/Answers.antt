use Rattle.socket_server.specs.Keeping.{keeping}
use Rattle.socket_server.specs.Sockets.{key_stream}
use Rattle.socket_server.specs.Serving.{scene, unknown, uncounted}
use Rattle.socket_server.proofs.ServingLemmas.{to_the_end}
use Rattle.socket_server.proofs.serve.Serve.run.Goals as goal

pub returns-in-Ok : goal.returns-in-Ok
returns-in-Ok g c =
    let mid = (scene (key_stream c.run_on.new.self.keys) (keeping g.K.Keeper.kept c.run_on.new.server) c.run_on.new.self.peers c.run_on.new.self.events (g.W.Observer.output c.run_on.new.observer)) in
    to_the_end unknown unknown uncounted g.W.Observer.text g.U.Until.may_ask (g.U.Until.most c.args.until.now) _ mid _ c.tell_the_end.result c.in-Ok.ensures c.tell_the_end.ensures
