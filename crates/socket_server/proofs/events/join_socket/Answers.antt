use Rattle.socket_server.proofs.ServingLemmas.{joined}
use Rattle.socket_server.proofs.events.join_socket.Goals as goal

pub returns-in-Ok : goal.returns-in-Ok
returns-in-Ok g c keys left drawn =
    joined g.S.Socket.remaining g.S.Socket.contents g.S.Socket.calls g.W.Observer.text c.args.arrival.number c.args.arrival.address_bits _ _ _ _ c.attend.result c.requires.number (c.in-Ok.ensures keys left drawn) (c.attend.ensures.serves left)
