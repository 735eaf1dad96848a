-- All sockets, under the numbers of their connections.
use Rattle.std.specs.Prelude.{◌≡◌, ℕ, ℤ, ◌+◌, ◌^◌, ◌||◌, ◌&&◌, not, nat_lt, int_lt, int_le, ◌+ℤ◌, pos, Bool, true, false, List, [], ◌∷◌, ◌++◌, length, Option, Some, None, if◌then◌else◌, fold, refl}
use Rattle.std.specs.Coded.{Coded, code_by, coded×, coded_ℕ, coded_ℤ, coded_list}
use Rattle.std.specs.FinMap.{FinMap, get, insert, remove, empty, entries, code}
use Rattle.std.specs.Map.{keys_of}
use Rattle.std.specs.Ordering.{nat_cmp}
use Rattle.ua_types.specs.declared.moment.Moment.{Moment}
use Rattle.server_messages.specs.declared.out.Out.{Out}
use Rattle.server_messages.specs.declared.out.Out.TheVariants.{Send, Close}
use Rattle.socket_peers.specs.declared.peer.Heard.{Heard}
use Rattle.socket_peers.specs.declared.peer.Heard.TheVariants.{Nothing}
use Rattle.socket_peers.specs.declared.peer.Readiness.{Readiness}
use Rattle.socket_peers.specs.declared.peer_limits.PeerLimits.{PeerLimits}
use Rattle.socket_peers.specs.Socket.{Calls}
use Rattle.socket_peers.specs.Tally.{Counts, count_of, one_more, one_less}
use Rattle.socket_peers.specs.Peer.{PeerState, peer_code, owing, closing, ready, awake_if, fresh, departs, departed, is_done, is_over, is_silent, Reads, Loses, Flushes}

-- The sockets that are connected; the number that was given last, 0 before the first; the list of those to be looked at; those that
-- were owed something or closed since all were flushed; what is asked of each; how many there are of each address; the moment that was
-- told last; and that at which silent ones were last looked for
pub record PeersState (S : Type 0) : Type 0 where
  pub connected : FinMap nat_cmp (PeerState S)
  pub last : ℕ
  pub awake : List ℕ
  pub touched : List ℕ
  pub limits : PeerLimits
  pub tally : Counts
  pub clock : Moment
  pub swept : Moment

-- the number behind this one, where 64 bits have one
abbrev pub number_after : ℕ → Option ℕ
number_after last = if nat_lt (last + 1) (2 ^ 64) then Some (last + 1) else None

module _ {S : Type 0} where
  abbrev pub peers_code : Coded S → Coded (PeersState S)
  peers_code stream =
      code_by (FinMap nat_cmp (PeerState S) × (ℕ × (List ℕ × (List ℕ × (ℕ × (ℕ × (Counts × (ℤ × ℤ))))))))
      (coded× (code coded_ℕ (peer_code stream)) (coded× coded_ℕ (coded× (coded_list coded_ℕ) (coded× (coded_list coded_ℕ) (coded× coded_ℕ (coded× coded_ℕ (coded× (coded_list (coded× coded_ℕ coded_ℕ)) (coded× coded_ℤ coded_ℤ))))))))
      (λ p. (p.connected, (p.last, (p.awake, (p.touched, (p.limits.idle, (p.limits.per_address, (p.tally, (p.clock.0, p.swept.0)))))))))
      (λ t. record {
        connected = t.0;
        last = t.1.0;
        awake = t.1.1.0;
        touched = t.1.1.1.0;
        limits = record { idle = t.1.1.1.1.0; per_address = t.1.1.1.1.1.0 };
        tally = t.1.1.1.1.1.1.0;
        clock = record { 0 = t.1.1.1.1.1.1.1.0 };
        swept = record { 0 = t.1.1.1.1.1.1.1.1 };
      })
      (λ _. refl)

  -- nobody yet, at a moment that isn't given
  abbrev pub nobody : PeerLimits → PeersState S
  nobody limits = record {
    connected = empty;
    last = 0;
    awake = [];
    touched = [];
    limits = limits;
    tally = [];
    clock = record { 0 = pos 0 };
    swept = record { 0 = pos 0 };
  }

  -- the socket under a number
  abbrev pub at : PeersState S → ℕ → Option (PeerState S)
  at p number = get p.connected number

  abbrev pub is_true_of : (PeerState S → Bool) → Option (PeerState S) → Bool
  is_true_of test None = false
  is_true_of test (Some peer) = test peer

  -- the connection of this number is no more, and the server is still to be told
  abbrev pub departs_at : PeersState S → ℕ → Bool
  departs_at p number = is_true_of departs (at p number)

  -- the server was told, and nothing is left to be written
  abbrev pub is_done_at : PeersState S → ℕ → Bool
  is_done_at p number = is_true_of is_done (at p number)

  -- the socket under this number is owed something
  abbrev pub is_owed_at : PeersState S → ℕ → Bool
  is_owed_at p number = is_true_of (λ peer. nat_lt 0 (length peer.owed)) (at p number)

  abbrev pub with_peer : PeersState S → ℕ → PeerState S → PeersState S
  with_peer p number peer = record p { connected = insert p.connected number peer }

  abbrev pub without_by : PeersState S → ℕ → Option (PeerState S) → PeersState S
  without_by p number None = p
  without_by p number (Some peer) = record p { connected = remove p.connected number; tally = one_less p.tally peer.address }

  -- this socket is let go of, and counts for its address no more
  abbrev pub without : PeersState S → ℕ → PeersState S
  without p number = without_by p number (at p number)

  -- a new socket gets the next number, and counts for its address
  abbrev pub with_joined : PeersState S → ℕ → S → PeersState S
  with_joined p address stream = record p {
    connected = insert p.connected (p.last + 1) (fresh address p.clock stream);
    last = p.last + 1;
    tally = one_more p.tally address;
  }

  -- there is a bound for the sockets of an address, and there are so many of this one
  abbrev pub is_crowded : PeersState S → ℕ → Bool
  is_crowded p address = nat_lt 0 p.limits.per_address && not (nat_lt (count_of p.tally address) p.limits.per_address)

  -- a socket that is done with is let go of, and no other
  abbrev pub LetsGo : ℕ → PeersState S → PeersState S → Bool → Type 0
  LetsGo number old new true = (is_done_at old number ≡ true) × (new ≡ without old number)
  LetsGo number old new false = (is_done_at old number ≡ false) × (new ≡ old)

  -- one socket is changed, if it is there
  abbrev pub changed_by : PeersState S → ℕ → (PeerState S → PeerState S) → Option (PeerState S) → PeersState S
  changed_by p number change None = p
  changed_by p number change (Some peer) = with_peer p number (change peer)

  abbrev pub changed : PeersState S → ℕ → (PeerState S → PeerState S) → PeersState S
  changed p number change = changed_by p number change (at p number)

  abbrev pub with_departed : PeersState S → ℕ → PeersState S
  with_departed p number = changed p number departed

  -- of a connection that is no more the server is told, and of no other, and of none twice
  abbrev pub Departs : ℕ → PeersState S → PeersState S → Bool → Type 0
  Departs number old new true = (departs_at old number ≡ true) × (new ≡ with_departed old number)
  Departs number old new false = (departs_at old number ≡ false) × (new ≡ old)

  -- ---- silent sockets

  -- it is so late now
  abbrev pub at_time : Moment → PeersState S → PeersState S
  at_time now p = record p { clock = now }

  -- nothing was sent to the socket under this number for as long as one may stay so
  abbrev pub is_silent_at : PeersState S → ℕ → Bool
  is_silent_at p number = is_true_of (is_silent p.limits.idle p.clock) (at p number)

  -- the server was told that the connection of this number is no more
  abbrev pub is_gone_at : PeersState S → ℕ → Bool
  is_gone_at p number = is_true_of (λ peer. peer.is_gone) (at p number)

  -- silent ones are let go of, and were last looked for a second ago or more, or by a clock that was set back since
  abbrev pub is_sweep_due : PeersState S → Bool
  is_sweep_due p = nat_lt 0 p.limits.idle && (int_lt p.clock.0 p.swept.0 || int_le (p.swept.0 +ℤ pos 10000000) p.clock.0)

  abbrev pub swept_now : PeersState S → PeersState S
  swept_now p = record p { swept = p.clock }

  -- the numbers of all sockets, rising
  abbrev pub numbers_of : PeersState S → List ℕ
  numbers_of p = keys_of (entries p.connected)

  -- a silent socket is let go of, whatever it is owed, and no other; and this says whether the server was told of its connection
  abbrev pub Expires : ℕ → PeersState S → PeersState S → Option Bool → Type 0
  Expires number old new (Some is_told) = (is_silent_at old number ≡ true) × (is_gone_at old number ≡ is_told) × (new ≡ without old number)
  Expires number old new None = (is_silent_at old number ≡ false) × (new ≡ old)

  -- ---- those to be looked at

  -- the list with this socket, which stands there once
  abbrev pub listed : List ℕ → ℕ → PeerState S → List ℕ
  listed awake number peer = if peer.is_awake then awake else awake ++ number ∷ []

  abbrev pub listed_if : Bool → List ℕ → ℕ → PeerState S → List ℕ
  listed_if true awake number peer = listed awake number peer
  listed_if false awake number peer = awake

  abbrev pub woken_if : Bool → PeerState S → PeerState S
  woken_if true peer = awake_if true peer
  woken_if false peer = peer

  -- this socket is put back, and is to be looked at where this says so
  abbrev pub with_woken_if : Bool → PeersState S → ℕ → PeerState S → PeersState S
  with_woken_if is_woken p number peer =
      record p { connected = insert p.connected number (woken_if is_woken peer); awake = listed_if is_woken p.awake number peer }

  abbrev pub reported_by : PeersState S → ℕ → Readiness → Option (PeerState S) → PeersState S
  reported_by p number readiness None = p
  reported_by p number readiness (Some peer) = with_woken_if true p number (ready readiness peer)

  -- a socket that was reported as ready is to be looked at
  abbrev pub reported : PeersState S → ℕ → Readiness → PeersState S
  reported p number readiness = reported_by p number readiness (at p number)

  -- ---- what is to be done, each on the connection that it names

  abbrev pub touching_by : PeersState S → ℕ → (PeerState S → PeerState S) → Option (PeerState S) → PeersState S
  touching_by p number change None = p
  touching_by p number change (Some peer) = record p { connected = insert p.connected number (change peer); touched = p.touched ++ number ∷ [] }

  -- one socket is changed, if it is there, and is to be flushed
  abbrev pub touching : PeersState S → ℕ → (PeerState S → PeerState S) → PeersState S
  touching p number change = touching_by p number change (at p number)

  abbrev pub owed_out : PeersState S → Out → PeersState S
  owed_out p (Send conn bytes) = touching p conn (owing p.clock bytes)
  owed_out p (Close conn) = touching p conn closing

  abbrev pub owed_all : PeersState S → List Out → PeersState S
  owed_all p outs = fold owed_out p outs

  -- ---- reading and writing

  module _ (remaining contents : S → Option (List ℕ)) (calls : S → Option Calls) where
    -- a read from the socket under this number, and nothing from one that isn't there
    abbrev pub ReadsBy : Option (PeerState S) → ℕ → PeersState S → PeersState S → ℕ → List ℕ → Heard → Type 0
    ReadsBy None number old new room piece heard = (piece ≡ []) × (heard ≡ Nothing) × (new ≡ old)
    ReadsBy (Some peer) number old new room piece heard =
        (after : PeerState S) × Reads remaining contents calls peer after room piece heard × (new ≡ with_peer old number after)

    abbrev pub ReadsAt : ℕ → PeersState S → PeersState S → ℕ → List ℕ → Heard → Type 0
    ReadsAt number old new room piece heard = ReadsBy (at old number) number old new room piece heard

    -- a piece came from the socket under this number, which is there, and is lost for want of memory
    abbrev pub LosesBy : Option (PeerState S) → ℕ → PeersState S → PeersState S → ℕ → Type 0
    LosesBy None number old new room = ⊥
    LosesBy (Some peer) number old new room = (after : PeerState S) × Loses remaining contents calls peer after room × (new ≡ with_peer old number after)

    abbrev pub LosesAt : ℕ → PeersState S → PeersState S → ℕ → Type 0
    LosesAt number old new room = LosesBy (at old number) number old new room

    -- The socket under this number is flushed. It is to be looked at where it is over now, or where a write was interrupted
    abbrev pub FlushesBy : Option (PeerState S) → ℕ → PeersState S → PeersState S → Type 0
    FlushesBy None number old new = new ≡ old
    FlushesBy (Some peer) number old new =
        (after : PeerState S) × (is_interrupted : Bool) × Flushes remaining contents calls peer after is_interrupted
        × (new ≡ with_woken_if (is_interrupted || is_over after) old number after)

    abbrev pub FlushesAt : ℕ → PeersState S → PeersState S → Type 0
    FlushesAt number old new = FlushesBy (at old number) number old new

    -- A socket is looked at: it stands on the list no more, and is flushed. Where a write was interrupted it is to be looked at again
    abbrev pub LooksBy : Option (PeerState S) → ℕ → PeersState S → PeersState S → Type 0
    LooksBy None number old new = new ≡ old
    LooksBy (Some peer) number old new =
        (after : PeerState S) × (is_interrupted : Bool) × Flushes remaining contents calls (awake_if false peer) after is_interrupted
        × (new ≡ with_woken_if is_interrupted old number after)

    abbrev pub LooksAt : ℕ → PeersState S → PeersState S → Type 0
    LooksAt number old new = LooksBy (at old number) number old new

    -- these are flushed, one after the other
    abbrev pub FlushesEach : List ℕ → PeersState S → PeersState S → Type 0
    FlushesEach [] old new = new ≡ old
    FlushesEach (number ∷ numbers) old new = (mid : PeersState S) × FlushesAt number old mid × FlushesEach numbers mid new

    -- each socket that was owed something or closed since this was done last is flushed
    abbrev pub FlushesAll : PeersState S → PeersState S → Type 0
    FlushesAll old new = (mid : PeersState S) × FlushesEach old.touched old mid × (new ≡ record mid { touched = [] })
