use Rattle.std.proofs.Common.{ℕ}
use Rattle.socket_server.specs.Keeping.{keeping}
use Rattle.socket_server.specs.Sockets.{key_stream}
use Rattle.socket_server.specs.Serving.{scene, unknown, uncounted, Turns}
use Rattle.socket_server.proofs.ServingLemmas.{IsLeft}
use Rattle.socket_server.proofs.serve.Serve.run_on.Given as goal

abbrev pub invariant-loop-turn : goal.invariant-loop-turn
invariant-loop-turn g l =
    (turns : ℕ) × IsLeft (g.U.Until.most l.initial.until) turns l.left × Turns unknown unknown uncounted g.W.Observer.text turns
    (scene (key_stream l.initial.self.keys) (keeping g.K.Keeper.kept l.initial.server) l.initial.self.peers l.initial.self.events (g.W.Observer.output l.initial.observer))
    (scene (key_stream l.self.keys) (keeping g.K.Keeper.kept l.server) l.self.peers l.self.events (g.W.Observer.output l.observer))
