use Rattle.std.proofs.Common.{◌≡◌}
use Rattle.mio.specs.declared.net.stream.TcpStream.{TcpStream}
use Rattle.socket_server.specs.Sockets.{Sockets}
use Rattle.socket_server.proofs.serve.Serve.accept.Given as goal

abbrev pub invariant-loop-try : goal.invariant-loop-try
invariant-loop-try l = ◌≡◌ {A = Sockets TcpStream} (record {
  address = l.self-inside.asked_address;
  port = l.self-inside.asked_port;
  keys = l.self-inside.keys;
  may_accept = l.self-inside.may_accept;
  peers = l.self-inside.peers;
  events = l.self-inside.events_so_far;
})
    l.fn.self
