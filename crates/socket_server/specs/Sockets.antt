-- What the loop keeps between its turns.
use Rattle.std.specs.Prelude.{◌≡◌, ℕ, ◌+◌, Bool, true, List, [], ◌∷◌, refl}
use Rattle.std.specs.Coded.{Coded, code_by, coded×, coded_ℕ, coded_bool, coded_list}
use Rattle.std.specs.declared.net.ip_addr.IpAddr.{IpAddr}
use Rattle.std.specs.declared.net.ip_addr.IpAddr.TheVariants.{V4, V6}
use Rattle.std.specs.Net.Addr.{ipv4_bits, ipv6_bits}
use Rattle.mio.specs.declared.net.stream.TcpStream.{TcpStream}
use Rattle.rand_core.specs.Stream.{Stream}
use Rattle.rand_core.specs.Steps.{stream_of, steps_u32}
use Rattle.rand_chacha.specs.ChaCha.{ChaCha, next_word}
use Rattle.socket_peers.specs.declared.peer_limits.PeerLimits.{PeerLimits}
use Rattle.socket_peers.specs.Peers.{PeersState, peers_code, nobody}

-- the address and the port that it was asked to listen at, the generator of keys, whether a socket may have connected that isn't taken
-- in yet, the sockets that are, and how many events the server was handed
pub record Sockets (S : Type 0) : Type 0 where
  pub address : IpAddr
  pub port : ℕ
  pub keys : ChaCha
  pub may_accept : Bool
  pub peers : PeersState S
  pub events : ℕ

abbrev pub keys_code : Coded ChaCha
keys_code =
    code_by (List ℕ × (ℕ × ℕ)) (coded× (coded_list coded_ℕ) (coded× coded_ℕ coded_ℕ)) (λ k. (k.key, (k.stream, k.word_pos)))
    (λ t. record { key = t.0; stream = t.1.0; word_pos = t.1.1 }) (λ _. refl)

module _ {S : Type 0} where
  abbrev pub sockets_code : Coded IpAddr → Coded S → Coded (Sockets S)
  sockets_code address stream =
      code_by (IpAddr × (ℕ × (ChaCha × (Bool × (PeersState S × ℕ)))))
      (coded× address (coded× coded_ℕ (coded× keys_code (coded× coded_bool (coded× (peers_code stream) coded_ℕ)))))
      (λ s. (s.address, (s.port, (s.keys, (s.may_accept, (s.peers, s.events))))))
      (λ t. record { address = t.0; port = t.1.0; keys = t.1.1.0; may_accept = t.1.1.1.0; peers = t.1.1.1.1.0; events = t.1.1.1.1.1 })
      (λ _. refl)

-- what a generator gives, call after call
abbrev pub key_stream : ChaCha → Stream
key_stream keys = stream_of (steps_u32 (next_word 6)) keys

-- what is kept of sockets of the system
abbrev pub ServeState : Type 0
ServeState = Sockets TcpStream

-- it was asked to listen there, for sockets that keep to these limits, and nobody has connected yet
abbrev pub unserved : IpAddr → ℕ → PeerLimits → ChaCha → ServeState
unserved address port limits keys = record { address = address; port = port; keys = keys; may_accept = true; peers = nobody limits; events = 0 }

abbrev pub IsUnserved : IpAddr → ℕ → PeerLimits → ServeState → Type 0
IsUnserved address port limits sockets = sockets ≡ unserved address port limits sockets.keys

-- no limits
abbrev pub unlimited : PeerLimits
unlimited = record { idle = 0; per_address = 0 }

-- The bits of an address, 128 of them, of which one of 32 bits has the last 32, behind ::ffff:0:0, as where a socket of the longer form
-- takes it in
abbrev pub address_bits : IpAddr → ℕ
address_bits (V4 address) = 281470681743360 + ipv4_bits address
address_bits (V6 address) = ipv6_bits address

-- 127.0.0.1
abbrev pub IsLocal : IpAddr → Type 0
IsLocal (V4 address) = address.octets ≡ 127 ∷ 0 ∷ 0 ∷ 1 ∷ []
IsLocal (V6 address) = ⊥
