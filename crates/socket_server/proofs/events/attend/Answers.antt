use Rattle.rand_core.specs.Stream.{Stream}
use Rattle.socket_server.specs.Keeping.{keeping}
use Rattle.socket_server.specs.Serving.{scene}
use Rattle.socket_server.proofs.ServingLemmas.{attends_then, looks_go, stops_after}
use Rattle.socket_server.proofs.events.attend.Goals as goal

pub returns-in-Err : goal.returns-in-Err
returns-in-Err g c =
    record {
      serves = λ keys. c.in-Err.ensures g.W.Observer.text keys c.args.events.now (g.W.Observer.output c.args.observer.now);
      told = tt;
    }

pub returns-in-Ok-read_piece : goal.returns-in-Ok-read_piece
returns-in-Ok-read_piece g c =
    record {
      serves = λ keys. attends_then g.S.Socket.remaining g.S.Socket.contents g.S.Socket.calls g.W.Observer.text c.args.number _ _ _ _ c.finish.result
          (c.in-Ok.ensures g.W.Observer.text keys c.args.events.now (g.W.Observer.output c.args.observer.now)) (c.in-Ok-read_piece.ensures keys) (c.finish.ensures.serves keys);
      told = c.finish.ensures.told;
    }

pub returns-in-Err-read_piece : goal.returns-in-Err-read_piece
returns-in-Err-read_piece g c =
    let old = λ (keys : Stream). (scene keys (keeping g.K.Keeper.kept c.args.server.now) c.args.peers.now c.args.events.now (g.W.Observer.output c.args.observer.now)) in
    let mid = λ (keys : Stream). (scene keys (keeping g.K.Keeper.kept c.look_on.new.server) c.look_on.new.peers c.args.events.now (g.W.Observer.output c.args.observer.now)) in
    let new = λ (keys : Stream). (scene keys (keeping g.K.Keeper.kept c.read_piece.new.server) c.read_piece.new.peers c.read_piece.new.events (g.W.Observer.output c.read_piece.new.observer)) in
    record {
      serves = λ keys. stops_after g.S.Socket.remaining g.S.Socket.contents g.S.Socket.calls g.W.Observer.text 0 _ _ (new keys) _
          (looks_go g.S.Socket.remaining g.S.Socket.contents g.S.Socket.calls g.W.Observer.text c.args.number (old keys) (mid keys)
          (c.in-Ok.ensures g.W.Observer.text keys c.args.events.now (g.W.Observer.output c.args.observer.now)))
          (c.in-Err-read_piece.ensures keys);
      told = tt;
    }
