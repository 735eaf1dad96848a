use Rattle.std.proofs.Common.{rules, ◌≡◌, ◌≢◌, ◌+◌, ◌-◌, true, refl}
use Rattle.socket_server.specs.Keeping.{keeping}
use Rattle.socket_server.specs.Sockets.{key_stream}
use Rattle.socket_server.specs.Serving.{scene, unknown, uncounted}
use Rattle.socket_server.proofs.ServingLemmas.{left_at_first, one_left_less, last_taken, asked_to_stop, turns_go, next_turn, gives_up_after}
use Rattle.socket_server.proofs.serve.Serve.run_on.Goals as goal

pub loop-turn-init : goal.loop-turn-init
loop-turn-init g c = (0, left_at_first unknown unknown uncounted g.W.Observer.text _ _ c.turns-left.ensures, refl)

pub returns-in-Err : goal.returns-in-Err
returns-in-Err g c =
    let mid = (scene (key_stream c.loop-turn.self.keys) (keeping g.K.Keeper.kept c.loop-turn.server) c.loop-turn.self.peers c.loop-turn.self.events (g.W.Observer.output c.loop-turn.observer)) in
    let new = (scene (key_stream c.turn.new.self.keys) (keeping g.K.Keeper.kept c.turn.new.server) c.turn.new.self.peers c.turn.new.self.events (g.W.Observer.output c.turn.new.observer)) in
    gives_up_after unknown unknown uncounted g.W.Observer.text c.loop-turn.invariant.0 _ mid new c.in-Err.fault (turns_go unknown unknown uncounted g.W.Observer.text c.loop-turn.invariant.0 _ mid c.loop-turn.invariant.2) c.in-Err.ensures

pub returns-then-left-eq1 : goal.returns-then-left-eq1
returns-then-left-eq1 g c =
    let at = c.loop-turn.invariant in
    (at.0 + 1, last_taken unknown unknown uncounted g.W.Observer.text g.U.Until.may_ask (g.U.Until.most c.args.until.now) at.0 c.loop-turn.left at.1 (search rules), next_turn unknown unknown uncounted g.W.Observer.text at.0 _ _ _ at.2 c.in-Ok.ensures)

pub returns-then-asks_to_stop : goal.returns-then-asks_to_stop
returns-then-asks_to_stop g c =
    let at = c.loop-turn.invariant in
    let may : g.U.Until.may_ask ≡ true = search rules in
    (at.0 + 1, asked_to_stop unknown unknown uncounted g.W.Observer.text g.U.Until.may_ask (g.U.Until.most c.args.until.now) at.0 c.loop-turn.left at.1 may, next_turn unknown unknown uncounted g.W.Observer.text at.0 _ _ _ at.2 c.in-Ok.ensures)

pub loop-turn-preserved : goal.loop-turn-preserved
loop-turn-preserved g c =
    let at = c.loop-turn.invariant in
    let more : c.loop-turn.left ≢ 1 = search rules in
    let less : c.saturating_sub-left.result ≡ c.loop-turn.left - 1 = search rules in
    let left = one_left_less unknown unknown uncounted g.W.Observer.text (g.U.Until.most c.args.until.now) at.0 c.loop-turn.left c.saturating_sub-left.result at.1 more less in
    (at.0 + 1, left, next_turn unknown unknown uncounted g.W.Observer.text at.0 _ _ _ at.2 c.in-Ok.ensures)
