use Rattle.std.proofs.Common.{rules, ◌≡◌, [], ◌∷◌, ◌++◌, ◌∙◌, ap, sym}
use Rattle.socket_peers.specs.Peer.{owing, closing}
use Rattle.socket_peers.specs.Peers.{owed_out}
use Rattle.collections.proofs.NumberMaps.{lent_found, given_back}
use Rattle.socket_peers.proofs.MapLemmas.{touched_back}
use Rattle.socket_peers.proofs.peers.Peers.owe.Goals as goal

pub returns-in_ok-owe-in-Send : goal.returns-in_ok-owe-in-Send
returns-in_ok-owe-in-Send g c =
    let there = lent_found c.get_mut.result _ c.in-Some.peer c.in-Some.is c.get_mut.ensures.found in
    let back = given_back _ c.get_mut.result c.in-Some.peer c.in-Some.is (c.get_mut.follows.holds c.owe.new.self) in
    let more : c.push.new.self.items ≡ c.self.inside.touched.items ++ c.in-Send.conn ∷ [] = search rules in
    touched_back _ c.args.self.now c.in-Send.conn c.in-Some.peer.now c.owe.new.self (owing c.args.self.now.clock c.in-Send.bytes) _ _ c.self.view_is there (search rules) back more
    ∙ ap (owed_out c.args.self.now) (sym c.in-Send.is)

pub returns-in_ok-push-in-Close : goal.returns-in_ok-push-in-Close
returns-in_ok-push-in-Close g c =
    let there = lent_found c.get_mut-in-Close.result _ c.in-Some-get_mut.peer c.in-Some-get_mut.is c.get_mut-in-Close.ensures.found in
    let back = given_back _ c.get_mut-in-Close.result c.in-Some-get_mut.peer c.in-Some-get_mut.is (c.get_mut-in-Close.follows.holds c.close.new.self) in
    let more : c.push-in-Close.new.self.items ≡ c.self.inside.touched.items ++ c.in-Close.conn ∷ [] = search rules in
    touched_back _ c.args.self.now c.in-Close.conn c.in-Some-get_mut.peer.now c.close.new.self closing _ _ c.self.view_is there c.close.ensures back more
    ∙ ap (owed_out c.args.self.now) (sym c.in-Close.is)
