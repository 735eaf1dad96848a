use Rattle.socket_server.specs.Keeping.{keeping}
use Rattle.socket_server.specs.Sockets.{key_stream}
use Rattle.socket_server.specs.Serving.{scene, unknown, uncounted}
use Rattle.socket_server.proofs.ServingLemmas.{TakesInUpTo}
use Rattle.socket_server.proofs.serve.Serve.accept_some.Given as goal

abbrev pub invariant-loop-accept : goal.invariant-loop-accept
invariant-loop-accept g l = TakesInUpTo unknown unknown uncounted g.W.Observer.text l._accept (scene (key_stream l.initial.self.keys) (keeping g.K.Keeper.kept l.initial.server) l.initial.self.peers l.initial.self.events (g.W.Observer.output l.initial.observer))
    (scene (key_stream l.self.keys) (keeping g.K.Keeper.kept l.server) l.self.peers l.self.events (g.W.Observer.output l.observer))
