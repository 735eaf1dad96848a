use Rattle.std.proofs.Common.{rules, ◌≡◌, Bool, true, false, List, ℕ, MatchResult, refl, sym, subst}
use Rattle.socket_server.specs.Keeping.{keeping}
use Rattle.socket_peers.specs.Peers.{PeersState, is_sweep_due, swept_now, numbers_of}
use Rattle.socket_server.specs.declared.serve_fault.ServeFault.TheVariants as serve_fault
use Rattle.socket_server.specs.Serving.{scene, AreNoneSilent, ExpiresAmong, SweepsIfDue, Stops}
use Rattle.socket_server.proofs.ServingLemmas.{stops_here, swept_through}
use Rattle.socket_server.proofs.SilenceLemmas.{all_expired}
use Rattle.socket_server.proofs.events.sweep.Goals as goal

pub returns-then-not-is_sweep_due : goal.returns-then-not-is_sweep_due
returns-then-not-is_sweep_due g c keys =
    let none : is_sweep_due c.args.peers.now ≡ false = search rules in
    let at = (scene keys (keeping g.K.Keeper.kept c.args.server.now) c.args.peers.now c.args.events.now (g.W.Observer.output c.args.observer.now)) in
    subst (λ (b : Bool). SweepsIfDue g.S.Socket.remaining g.S.Socket.contents g.S.Socket.calls g.W.Observer.text b at at) (sym none) refl

pub returns-in_default : goal.returns-in_default
returns-in_default g c keys =
    let at = (scene keys (keeping g.K.Keeper.kept c.args.server.now) c.args.peers.now c.args.events.now (g.W.Observer.output c.args.observer.now)) in
    let begun = (scene keys (keeping g.K.Keeper.kept c.args.server.now) c.begin_sweep.new.self c.args.events.now (g.W.Observer.output c.args.observer.now)) in
    stops_here g.S.Socket.remaining g.S.Socket.contents g.S.Socket.calls g.W.Observer.text at begun serve_fault.Memory tt refl refl

pub returns : goal.returns
returns g c keys =
    let due : is_sweep_due c.args.peers.now ≡ true = search rules in
    let swept : c.begin_sweep.new.self ≡ swept_now c.args.peers.now = search rules in
    let all : c.as_slice.result.now ≡ numbers_of c.args.peers.now = search rules in
    let at = (scene keys (keeping g.K.Keeper.kept c.args.server.now) c.args.peers.now c.args.events.now (g.W.Observer.output c.args.observer.now)) in
    let begun = (scene keys (keeping g.K.Keeper.kept c.args.server.now) c.begin_sweep.new.self c.args.events.now (g.W.Observer.output c.args.observer.now)) in
    let new = (scene keys (keeping g.K.Keeper.kept c.expire_each.new.server) c.expire_each.new.peers c.expire_each.new.events (g.W.Observer.output c.expire_each.new.observer)) in
    let through = subst (λ (l : List ℕ). MatchResult c.expire_each.result (λ _. ExpiresAmong g.S.Socket.remaining g.S.Socket.contents g.S.Socket.calls g.W.Observer.text l begun new) (Stops g.S.Socket.remaining g.S.Socket.contents g.S.Socket.calls g.W.Observer.text begun new)) all (c.expire_each.ensures keys) in
    swept_through g.S.Socket.remaining g.S.Socket.contents g.S.Socket.calls g.W.Observer.text at begun new c.expire_each.result due (due, swept, (refl, refl, refl, refl)) through
    (λ e silent. all_expired c.args.peers.now c.expire_each.new.peers (subst (λ (p : PeersState g.row.S.Denot). AreNoneSilent (numbers_of c.args.peers.now) p c.expire_each.new.peers) e silent))
