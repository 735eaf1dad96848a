-- One socket, and the bytes that it is owed.
use Rattle.std.specs.Prelude.{◌≡◌, ◌⊎◌, ⊤, ℕ, ℤ, ◌+◌, ◌<◌, ◌≤◌, ◌==◌, ◌&&◌, ◌||◌, Bool, true, false, not, nat_lt, int_le, ◌+ℤ◌, ◌*◌, pos, List, [], ◌++◌, length, take, drop, Option, Some, None, if◌then◌else◌, refl}
use Rattle.std.specs.Coded.{Coded, code_by, coded×, coded_ℕ, coded_ℤ, coded_bool, coded_list}
use Rattle.std.specs.Io.KnownBytes.{Appends, Consumes, Keeps, IsAtEnd}
use Rattle.ua_types.specs.declared.moment.Moment.{Moment}
use Rattle.socket_peers.specs.declared.peer.Readiness.{Readiness}
use Rattle.socket_peers.specs.declared.peer.Heard.{Heard}
use Rattle.socket_peers.specs.declared.peer.Heard.TheVariants.{Piece, Last, Again, Nothing, End}
use Rattle.socket_peers.specs.declared.socket.Missed.TheVariants.{Waits, Interrupted, Failed}
use Rattle.socket_peers.specs.Socket.{Calls, NoneMissed, OneMissed}

-- Its stream, the bytes that were sent to it and that the stream hasn't taken yet, whether nothing more is read from it, whether
-- it was reported as ending: its end lies behind what is still to be read; whether its input is at its end, whether it has failed,
-- whether the server was told that its connection is no more, whether the stream took less than there was and wasn't reported as
-- writable since, whether it stands on the list of those to be looked at, when it was last owed something, or taken in, and the number
-- of its client's address
pub record PeerState (S : Type 0) : Type 0 where
  pub stream : S
  pub owed : List ℕ
  pub is_closing : Bool
  pub is_ending : Bool
  pub has_ended : Bool
  pub has_failed : Bool
  pub is_gone : Bool
  pub is_full : Bool
  pub is_awake : Bool
  pub served : Moment
  pub address : ℕ

-- nothing is read from a socket that is owed more than this, unless it was reported as ending
abbrev pub most_owed : ℕ
most_owed = 1048576

-- a socket that is owed more than this once it was flushed is dropped
abbrev pub most_unsent : ℕ
most_unsent = 4194304

abbrev pub one_if : Bool → ℕ
one_if true = 1
one_if false = 0

-- a read gave some bytes
abbrev pub is_piece : Heard → Bool
is_piece Piece = true
is_piece Last = true
is_piece other = false

-- the next read may give some
abbrev pub may_be_more : Heard → Bool
may_be_more Piece = true
may_be_more Again = true
may_be_more other = false

module _ {S : Type 0} where
  abbrev pub peer_code : Coded S → Coded (PeerState S)
  peer_code stream =
      code_by (S × (List ℕ × (Bool × (Bool × (Bool × (Bool × (Bool × (Bool × (Bool × (ℤ × ℕ))))))))))
      (coded× stream (coded× (coded_list coded_ℕ) (coded× coded_bool (coded× coded_bool (coded× coded_bool (coded× coded_bool (coded× coded_bool (coded× coded_bool (coded× coded_bool (coded× coded_ℤ coded_ℕ))))))))))
      (λ p. (p.stream, (p.owed, (p.is_closing, (p.is_ending, (p.has_ended, (p.has_failed, (p.is_gone, (p.is_full, (p.is_awake, (p.served.0, p.address)))))))))))
      (λ t. record {
        stream = t.0;
        owed = t.1.0;
        is_closing = t.1.1.0;
        is_ending = t.1.1.1.0;
        has_ended = t.1.1.1.1.0;
        has_failed = t.1.1.1.1.1.0;
        is_gone = t.1.1.1.1.1.1.0;
        is_full = t.1.1.1.1.1.1.1.0;
        is_awake = t.1.1.1.1.1.1.1.1.0;
        served = record { 0 = t.1.1.1.1.1.1.1.1.1.0 };
        address = t.1.1.1.1.1.1.1.1.1.1;
      })
      (λ _. refl)

  abbrev pub fresh : ℕ → Moment → S → PeerState S
  fresh address now stream = record {
    stream = stream;
    owed = [];
    is_closing = false;
    is_ending = false;
    has_ended = false;
    has_failed = false;
    is_gone = false;
    is_full = false;
    is_awake = false;
    served = now;
    address = address;
  }

  -- behind all that it is owed already, from this moment on
  abbrev pub owing : Moment → List ℕ → PeerState S → PeerState S
  owing now bytes p = record p { owed = p.owed ++ bytes; served = now }

  abbrev pub closing : PeerState S → PeerState S
  closing p = record p { is_closing = true }

  abbrev pub failing : PeerState S → PeerState S
  failing p = record p { has_failed = true }

  -- It was reported as ready. Where it takes bytes it is full no more, and once it was reported as ending it stays so
  abbrev pub ready : Readiness → PeerState S → PeerState S
  ready readiness p = record p { is_full = p.is_full && not readiness.is_writable; is_ending = p.is_ending || readiness.is_ending }

  -- it stands on the list of those to be looked at, or doesn't
  abbrev pub awake_if : Bool → PeerState S → PeerState S
  awake_if is_awake p = record p { is_awake = is_awake }

  -- it has failed, or it closes and has all that it was owed
  abbrev pub is_over : PeerState S → Bool
  is_over p = p.has_failed || (p.is_closing && (length p.owed == 0))

  -- its connection is no more, whatever it is still owed, and the server is still to be told
  abbrev pub departs : PeerState S → Bool
  departs p = not p.is_gone && (p.has_ended || is_over p)

  -- the server is told
  abbrev pub departed : PeerState S → PeerState S
  departed p = record p { is_gone = true }

  -- the server was told, and nothing is left to be written
  abbrev pub is_done : PeerState S → Bool
  is_done p = p.is_gone && is_over p

  -- there are seconds after which a socket is silent, and nothing was sent to this one for so many, in units of 100 ns
  abbrev pub is_silent : ℕ → Moment → PeerState S → Bool
  is_silent idle now p = nat_lt 0 idle && int_le (p.served.0 +ℤ pos (idle * 10000000)) now.0

  -- it doesn't close and hasn't failed, and it was reported as ending or isn't owed too much
  abbrev pub listens : PeerState S → Bool
  listens p = not p.is_closing && (not p.has_failed && (p.is_ending || not (nat_lt most_owed (length p.owed))))

  -- There is no more to be read for now: this piece is less than there was room for, and the socket wasn't reported as ending, so that
  -- its end doesn't lie behind the piece already
  abbrev pub is_drained : PeerState S → ℕ → List ℕ → Bool
  is_drained p room piece = nat_lt (length piece) room && not p.is_ending

  -- it is owed more than may stay unsent
  abbrev pub is_owed_too_much : PeerState S → Bool
  is_owed_too_much p = nat_lt most_unsent (length p.owed)

  -- it has failed, whatever its stream says, and all that it is owed is let go of
  abbrev pub dropped : PeerState S → PeerState S
  dropped p = record p { owed = []; has_failed = true }

  -- a socket is dropped where it is owed more than may stay unsent, and stays as it is where it isn't
  abbrev pub judged : PeerState S → PeerState S
  judged p = if is_owed_too_much p then dropped p else p

  -- it is owed nothing, its stream took less than there was, or it has failed: nothing is to be written now
  abbrev pub is_settled : PeerState S → Bool
  is_settled p = p.is_full || p.has_failed || (length p.owed == 0)

  -- Where calls are known: as many failed as say so of the peer, as many would have had to wait as made it full, and so many were
  -- interrupted
  abbrev pub Tallies : PeerState S → PeerState S → ℕ → Option Calls → Option Calls → Type 0
  Tallies old new interrupted None after = ⊤
  Tallies old new interrupted (Some before) None = ⊥
  Tallies old new interrupted (Some before) (Some after) =
      (after.failed + one_if old.has_failed ≡ before.failed + one_if new.has_failed)
      × (after.waited + one_if old.is_full ≡ before.waited + one_if new.is_full)
      × (after.interrupted ≡ before.interrupted + interrupted)

  -- ---- Reading and writing; `remaining` are the bytes that a stream will give, `contents` those that it took, and `calls` those of its
  -- calls that moved no byte, where they are known

  module _ (remaining contents : S → Option (List ℕ)) (calls : S → Option Calls) where
    -- no byte moved
    abbrev pub Rests : S → S → Type 0
    Rests old new = Keeps (remaining old) (remaining new) × Keeps (contents old) (contents new)

    -- a piece comes from a socket that listens: the next bytes of the stream, as many as there is room for at most
    abbrev pub GivesPiece : PeerState S → PeerState S → ℕ → List ℕ → Type 0
    GivesPiece old new room piece =
        (listens old ≡ true) × (0 < length piece) × (length piece ≤ room) × Consumes (remaining old.stream) (remaining new.stream) piece
        × Keeps (contents old.stream) (contents new.stream) × NoneMissed (calls old.stream) (calls new.stream)
        × (new ≡ record old { stream = new.stream })

    -- a piece came, for which there was no memory: it is lost
    abbrev pub Loses : PeerState S → PeerState S → ℕ → Type 0
    Loses old new room = (piece : List ℕ) × GivesPiece old new room piece

    -- A read with so much room, and what it gave: a piece after which there may be more, or the last one for now. At the end of
    -- its stream a socket closes, and one that fails is over. Nothing comes without a call only from one that doesn't listen
    abbrev pub Reads : PeerState S → PeerState S → ℕ → List ℕ → Heard → Type 0
    Reads old new room piece Piece = (is_drained old room piece ≡ false) × GivesPiece old new room piece
    Reads old new room piece Last = (is_drained old room piece ≡ true) × GivesPiece old new room piece
    Reads old new room piece End =
        (piece ≡ []) × (listens old ≡ true) × ((Consumes (remaining old.stream) (remaining new.stream) [] × IsAtEnd (remaining new.stream)
        × Keeps (contents old.stream) (contents new.stream) × NoneMissed (calls old.stream) (calls new.stream)
        × (new ≡ record old { stream = new.stream; is_closing = true; has_ended = true }))
        ⊎ (Rests old.stream new.stream × OneMissed Failed (calls old.stream) (calls new.stream) × (new ≡ record old { stream = new.stream; has_failed = true })))
    Reads old new room piece Again =
        (piece ≡ []) × (listens old ≡ true) × Rests old.stream new.stream × OneMissed Interrupted (calls old.stream) (calls new.stream)
        × (new ≡ record old { stream = new.stream })
    Reads old new room piece Nothing =
        (piece ≡ []) × (((listens old ≡ false) × (new ≡ old))
        ⊎ ((listens old ≡ true) × Rests old.stream new.stream × OneMissed Waits (calls old.stream) (calls new.stream) × (new ≡ record old { stream = new.stream })))

    -- The stream took some of the bytes that were owed, from the first on, and the others are owed still. It may have failed at it, or
    -- be full now, where a call said so, and so many calls were interrupted
    pub record Writes (old new : PeerState S) (interrupted : ℕ) : Type 0 where
      pub count : ℕ
      pub fits : count ≤ length old.owed
      pub taken : Appends (contents old.stream) (contents new.stream) (take count old.owed)
      pub read : Keeps (remaining old.stream) (remaining new.stream)
      pub owed : new.owed ≡ drop count old.owed
      pub closes : new.is_closing ≡ old.is_closing
      pub ends : new.is_ending ≡ old.is_ending
      pub ended : new.has_ended ≡ old.has_ended
      pub gone : new.is_gone ≡ old.is_gone
      pub awake : new.is_awake ≡ old.is_awake
      pub served : new.served ≡ old.served
      pub address : new.address ≡ old.address
      pub failed : old.has_failed ≡ true → new.has_failed ≡ true
      pub full : old.is_full ≡ true → new.is_full ≡ true
      pub tallies : Tallies old new interrupted (calls old.stream) (calls new.stream)

    -- Bytes are written until nothing is to be written now, or a call is interrupted
    abbrev pub Drains : PeerState S → PeerState S → Bool → Type 0
    Drains old new is_interrupted = Writes old new (one_if is_interrupted) × (is_interrupted ≡ false → is_settled new ≡ true)

    -- A flush: what the stream takes is written, and then the socket is judged by what it is owed still. Where a call was interrupted
    -- it isn't judged yet, since it is to be flushed again
    abbrev pub Flushes : PeerState S → PeerState S → Bool → Type 0
    Flushes old new true = Drains old new true
    Flushes old new false = (written : PeerState S) × Drains old written false × (new ≡ judged written)
