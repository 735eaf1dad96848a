use Rattle.std.proofs.Common.{rules, ◌≡◌, ℕ, MatchResult, subst}
use Rattle.std.specs.Net.Socket.{socket_ip}
use Rattle.mio.specs.declared.net.stream.TcpStream.{TcpStream}
use Rattle.socket_server.specs.Keeping.{keeping}
use Rattle.socket_server.specs.Sockets.{Sockets, key_stream, address_bits}
use Rattle.socket_server.specs.Serving.{scene, unknown, uncounted, MayTakeIn, Stops}
use Rattle.socket_server.proofs.ServingLemmas.{may_be_joined}
use Rattle.socket_server.proofs.serve.Serve.take_in.Goals as goal

pub returns : goal.returns
returns g c =
    let bits : c.address_bits-bits.result ≡ address_bits (socket_ip c.args.address) = search rules in
    let output = g.W.Observer.output c.args.observer.now in
    let inside = scene (key_stream c.self.inside.keys) (keeping g.K.Keeper.kept c.args.server.now) c.self.inside.peers c.self.inside.events_so_far output in
    let new = scene (key_stream c.fresh_key.new.keys) (keeping g.K.Keeper.kept c.join_socket.new.server) c.join_socket.new.peers c.join_socket.new.events (g.W.Observer.output c.join_socket.new.observer) in
    let taken = c.join_socket.ensures (key_stream c.self.inside.keys) (key_stream c.fresh_key.new.keys) c.fresh_key.ensures in
    let may = may_be_joined unknown unknown uncounted g.W.Observer.text c.address_bits-bits.result inside new c.join_socket.result taken in
    subst (λ (s : Sockets TcpStream). MatchResult c.join_socket.result (λ _. MayTakeIn unknown unknown uncounted g.W.Observer.text (address_bits (socket_ip c.args.address)) (scene (key_stream s.keys) (keeping g.K.Keeper.kept c.args.server.now) s.peers s.events output) new)
    (Stops unknown unknown uncounted g.W.Observer.text (scene (key_stream s.keys) (keeping g.K.Keeper.kept c.args.server.now) s.peers s.events output) new)) c.self.view_is
    (subst (λ (n : ℕ). MatchResult c.join_socket.result (λ _. MayTakeIn unknown unknown uncounted g.W.Observer.text n inside new) (Stops unknown unknown uncounted g.W.Observer.text inside new)) bits may)
