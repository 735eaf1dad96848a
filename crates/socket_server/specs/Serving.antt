-- What the loop hands to the server, what it keeps for each socket, and what it puts out.
use Rattle.std.specs.Prelude.{◌≡◌, ◌⊎◌, ⊤, ℕ, ◌+◌, ◌<◌, ◌≤◌, ◌==◌, ◌||◌, zero, suc, Bool, true, false, List, [], ◌∷◌, length, Option, None, if◌then◌else◌, fold}
use Rattle.std.specs.List.{concat, list_any}
use Rattle.mio.specs.declared.net.stream.TcpStream.{TcpStream}
use Rattle.mio.specs.declared.event.event.Event as ready
use Rattle.mio.specs.Event.{event_token, is_writable, is_write_closed, is_read_closed, is_error}
use Rattle.rand_core.specs.Stream.{Stream, fill_bytes}
use Rattle.ua_types.specs.declared.moment.Moment.{Moment}
use Rattle.server_core.specs.declared.event.Event.{Event}
use Rattle.server_core.specs.declared.event.Event.TheVariants.{Opened, Bytes, Gone, Tick, Shutdown}
use Rattle.server_core.specs.declared.out.Step.{Step}
use Rattle.socket_peers.specs.declared.peer.Heard.{Heard}
use Rattle.socket_peers.specs.declared.peer.Readiness.{Readiness}
use Rattle.socket_peers.specs.Peer.{is_piece, may_be_more}
use Rattle.socket_peers.specs.Socket.{Calls}
use Rattle.socket_peers.specs.Peers.{PeersState, with_joined, with_departed, without, departs_at, is_done_at, is_crowded, is_owed_at, at_time, is_silent_at, is_gone_at, is_sweep_due, swept_now, reported, owed_all, ReadsAt, LooksAt, FlushesAll}
use Rattle.socket_server.specs.Sockets.{Sockets, key_stream}
use Rattle.socket_server.specs.Keeping.{Keeping, Answers, LosesAnswer, Refuses, Settles, StaysUnkept, IsOfStore}
use Rattle.socket_server.specs.Output.{Output, EventText, Puts, PutsPart}
use Rattle.socket_server.specs.declared.serve_fault.ServeFault.{ServeFault}
use Rattle.socket_server.specs.declared.serve_fault.ServeFault.TheVariants as serve_fault

-- The keys that connections will get; the server, with what waits to be kept and what is kept; the sockets; how many events the server
-- was handed; and what was put out
pub record Scene (S : Type 0) : Type 0 where
  pub keys : Stream
  pub server : Keeping
  pub peers : PeersState S
  pub events : ℕ
  pub output : Output

-- the key is what the generator gives next, 32 bytes
abbrev pub IsNextKey : Stream → Stream → List ℕ → Type 0
IsNextKey keys left key = (key, left) ≡ fill_bytes 32 keys

abbrev pub Drawn : {G : Type 0} → (G → Stream) → G → G → List ℕ → Type 0
Drawn stream old new key = IsNextKey (stream old) (stream new) key

-- One thing that happens: a socket of this address connects and gets this key; a socket is reported as ready, maybe to take bytes, maybe
-- as ending; the list of those to be looked at is taken; a socket on it is looked at, and written what it is owed; a piece comes from a
-- socket; a read from one gives nothing; what was stored and waits is kept; sockets take some of what they are owed, and fail where too
-- much is left; a connection is no more; its socket is let go of; time passes; silent sockets begin to be looked for; a silent one is
-- let go of
pub data Happening : Type 0 where
  Connects : ℕ → List ℕ → Happening
  Reports : ℕ → Readiness → Happening
  Gathers : List ℕ → Happening
  Looks : ℕ → Happening
  Hears : ℕ → List ℕ → Happening
  Waits : ℕ → Happening
  Keeps : Happening
  Writes : Happening
  Leaves : ℕ → Happening
  Drops : ℕ → Happening
  Passes : Moment → Happening
  Sweeps : Happening
  Expires : ℕ → Happening

module _ {S : Type 0} where
  abbrev pub scene : Stream → Keeping → PeersState S → ℕ → Output → Scene S
  scene keys server peers events output = record { keys = keys; server = server; peers = peers; events = events; output = output }

  -- the server was handed nothing, nothing more is kept, no key was drawn, and nothing was put out
  abbrev pub IsQuiet : Scene S → Scene S → Type 0
  IsQuiet old new = (new.server ≡ old.server) × (new.events ≡ old.events) × (new.output ≡ old.output) × (new.keys ≡ old.keys)

  -- The server takes this event, which has the next number; what it stored waits to be kept; each socket is owed what the server sends on
  -- its connection; and what is put out is of the rows that fired
  abbrev pub Takes : EventText → Event → Scene S → Scene S → Type 0
  Takes text event old new =
      (x : Step) × Answers event x old.server new.server × (new.peers ≡ owed_all old.peers x.outs)
      × (new.events ≡ old.events + 1) × Puts old.output new.output (text (old.events + 1) x.rows) × (new.keys ≡ old.keys)

module _ {S : Type 0} (remaining contents : S → Option (List ℕ)) (calls : S → Option Calls) (text : EventText) where
  -- a silent socket is let go of, and the server is told that its connection is no more, unless it was told before
  abbrev pub LetsExpire : Bool → ℕ → Scene S → Scene S → Type 0
  LetsExpire true conn old new = (new.peers ≡ without old.peers conn) × IsQuiet old new
  LetsExpire false conn old new = Takes text (Gone conn) (record old { peers = without old.peers conn }) new

  -- What an act does. What comes from a socket is handed in as it came, in pieces of at most 4096 bytes; a socket that connects has
  -- the next number, and the next key of the generator, and comes from an address of which there are fewer than may be; a connection is
  -- gone once the input of its socket is at its end, whatever the socket is still owed, or the socket is over; and the socket is let go
  -- of after that, once it is over. One to which nothing was sent for as long as a socket may stay so is let go of whatever it is owed.
  -- What is put out is of events alone. Nothing goes out before what was stored is kept: sockets take what they are owed only while
  -- nothing waits to be kept
  abbrev pub Does : Happening → Scene S → Scene S → Type 0
  Does (Connects address key) old new =
      (stream : S) × (left : Stream) × IsNextKey old.keys left key × (is_crowded old.peers address ≡ false)
      × Takes text (Opened (old.peers.last + 1) key) (record old { keys = left; peers = with_joined old.peers address stream }) new
  Does (Reports conn readiness) old new = (new.peers ≡ reported old.peers conn readiness) × IsQuiet old new
  Does (Gathers conns) old new = (conns ≡ old.peers.awake) × (new.peers ≡ record old.peers { awake = [] }) × IsQuiet old new
  Does (Looks conn) old new =
      (is_owed_at old.peers conn ≡ true → old.server.waiting ≡ []) × LooksAt remaining contents calls conn old.peers new.peers × IsQuiet old new
  Does (Hears conn piece) old new =
      (h : Heard) × (is_piece h ≡ true) × (peers : PeersState S) × ReadsAt remaining contents calls conn old.peers peers 4096 piece h
      × Takes text (Bytes conn piece) (record old { peers = peers }) new
  Does (Waits conn) old new =
      (h : Heard) × (is_piece h ≡ false) × ReadsAt remaining contents calls conn old.peers new.peers 4096 [] h × IsQuiet old new
  Does Keeps old new = Settles old.server new.server × (new ≡ record old { server = new.server })
  Does Writes old new = (old.server.waiting ≡ []) × FlushesAll remaining contents calls old.peers new.peers × IsQuiet old new
  Does (Leaves conn) old new = (departs_at old.peers conn ≡ true) × Takes text (Gone conn) (record old { peers = with_departed old.peers conn }) new
  Does (Drops conn) old new = (is_done_at old.peers conn ≡ true) × (new.peers ≡ without old.peers conn) × IsQuiet old new
  Does (Passes now) old new = Takes text (Tick now) (record old { peers = at_time now old.peers }) new
  Does Sweeps old new = (is_sweep_due old.peers ≡ true) × (new.peers ≡ swept_now old.peers) × IsQuiet old new
  Does (Expires conn) old new = (is_silent_at old.peers conn ≡ true) × LetsExpire (is_gone_at old.peers conn) conn old new

  -- one act after the other
  abbrev pub Runs : List Happening → Scene S → Scene S → Type 0
  Runs [] old new = new ≡ old
  Runs (act ∷ acts) old new = (mid : Scene S) × Does act old mid × Runs acts mid new

abbrev pub is_among : ℕ → List ℕ → Bool
is_among number [] = false
is_among number (other ∷ others) = (other == number) || is_among number others

-- a socket that is silent was so before, and is none of these
abbrev pub AreNoneSilent : {S : Type 0} → List ℕ → PeersState S → PeersState S → Type 0
AreNoneSilent conns old new =
    (number : ℕ) → is_silent_at new number ≡ true → (is_silent_at old number ≡ true) × (is_among number conns ≡ false)

-- there may be more to read from a socket, and nothing else is known
abbrev pub readable : Readiness
readable = record { is_writable = false; is_ending = false }

-- how often time passes
abbrev pub ticks : List Happening → ℕ
ticks [] = 0
ticks (Passes now ∷ acts) = ticks acts + 1
ticks (act ∷ acts) = ticks acts

-- a fault of the loop's own
abbrev pub IsOutside : ServeFault → Type 0
IsOutside (serve_fault.Step fault) = ⊥
IsOutside (serve_fault.Store fault) = ⊥
IsOutside serve_fault.Trace = ⊥
IsOutside fault = ⊤

-- So many turns are well done: some, at most so many where there is such a bound, and as many where nothing may ask to stop
abbrev pub IsTurns : Bool → ℕ → ℕ → Type 0
IsTurns may_ask most turns = (0 < turns) × (0 < most → turns ≤ most) × (may_ask ≡ false → turns ≡ most)

module _ {S : Type 0} where
  -- what waits is kept, and then the sockets may take some of what they are owed
  abbrev pub IsKept : Scene S → Scene S → Type 0
  IsKept old new = Settles old.server new.server × (new ≡ record old { server = new.server; peers = new.peers })

  -- what waits can't be kept: nothing more is kept, and all is as it was, the sockets too
  abbrev pub IsUnkept : Scene S → Scene S → Type 0
  IsUnkept old new = StaysUnkept old.server new.server × (new ≡ record old { server = new.server })

  -- Why what is owed isn't written: what waits can't be kept; or it is kept, and there is no memory to write
  abbrev pub IsUnsent : Scene S → Scene S → ServeFault → Type 0
  IsUnsent old new (serve_fault.Store fault) = IsUnkept old new
  IsUnsent old new serve_fault.Memory = IsKept old new
  IsUnsent old new fault = ⊥

  -- What is left after a fault: of the store, nothing more is done. After another one what waits is kept, and then the sockets may take
  -- some of what they are owed; or it can't be kept, and they take nothing
  abbrev pub WindsUp : ServeFault → Scene S → Scene S → Type 0
  WindsUp (serve_fault.Store fault) old new = new ≡ old
  WindsUp fault old new = IsKept old new ⊎ IsUnkept old new

module _ {S : Type 0} (text : EventText) where
  -- Why an event was not handed in whole: the server didn't answer it; or of the text of its rows a part was put out, from the beginning
  -- on, and a write failed; or there was no memory, its answer may be lost, with what it stored, and nothing is put out of it, or, of the
  -- event that ends the server, the text of its rows; or what was stored at that event and before can't be kept
  abbrev pub Fails : Event → Scene S → Scene S → ServeFault → Type 0
  Fails event old new (serve_fault.Step fault) = Refuses event old.server new.server fault × (new.output ≡ old.output)
  Fails event old new serve_fault.Trace =
      (x : Step) × Answers event x old.server new.server × PutsPart old.output new.output (text (old.events + 1) x.rows)
  Fails event old new serve_fault.Memory =
      (((new.server ≡ old.server) ⊎ (LosesAnswer event old.server new.server ⊎ ((x : Step) × Answers event x old.server new.server))) × (new.output ≡ old.output))
      ⊎ ((event ≡ Shutdown) × (x : Step) × Answers event x old.server new.server × Puts old.output new.output (text (old.events + 1) x.rows))
  Fails event old new (serve_fault.Store fault) =
      (event ≡ Shutdown) × (told : Scene S) × Takes text event old told × IsUnkept told new
  Fails event old new fault = ⊥

module _ {S : Type 0} (remaining contents : S → Option (List ℕ)) (calls : S → Option Calls) (text : EventText) where
  -- what waits is kept, and then the sockets take some of what they are owed
  abbrev pub SendsOut : Scene S → Scene S → Type 0
  SendsOut old new = (kept : Scene S) × Does remaining contents calls text Keeps old kept × Does remaining contents calls text Writes kept new

  -- the server takes this event, what waits is kept, and the sockets take some of what they are owed then
  abbrev pub HandsIn : Event → Scene S → Scene S → Type 0
  HandsIn event old new = (told : Scene S) × Takes text event old told × SendsOut told new

  -- some acts, and time passed so often
  abbrev pub Goes : ℕ → Scene S → Scene S → Type 0
  Goes turns old new = (acts : List Happening) × (ticks acts ≡ turns) × Runs remaining contents calls text acts old new

  -- Some acts, and then the server is as they left it, and what they put out is put out; or what they left to be kept can't be kept; or it
  -- stopped at an event. The network fails between events alone
  abbrev pub Stops : Scene S → Scene S → ServeFault → Type 0
  Stops old new fault =
      (turns : ℕ) × (mid : Scene S) × Goes turns old mid
      × ((IsOutside fault × (new.server ≡ mid.server) × (new.output ≡ mid.output))
      ⊎ ((IsOfStore fault × IsUnkept mid new) ⊎ ((event : Event) × Fails text event mid new fault)))

  -- it stopped, and is wound up
  abbrev pub GivesUp : Scene S → Scene S → ServeFault → Type 0
  GivesUp old new fault = (stopped : Scene S) × Stops old stopped fault × WindsUp fault stopped new

  -- ---- a turn

  -- A read from this socket came to this. A piece that it gave is handed in, as it came, and where it gave none nothing is
  abbrev pub Heeds : ℕ → Heard → Bool → Scene S → Scene S → Type 0
  Heeds conn h true old new =
      (piece : List ℕ) × (peers : PeersState S) × ReadsAt remaining contents calls conn old.peers peers 4096 piece h
      × Takes text (Bytes conn piece) (record old { peers = peers }) new
  Heeds conn h false old new = ReadsAt remaining contents calls conn old.peers new.peers 4096 [] h × IsQuiet old new

  -- one read from this socket, which says that there may be more, or that there is no more for now
  abbrev pub GoesOn : ℕ → Scene S → Scene S → Bool → Type 0
  GoesOn conn old new more = (h : Heard) × (may_be_more h ≡ more) × Heeds conn h (is_piece h) old new

  -- A socket is read from, once. Where the read says that there may be more it is reported as ready, and so is to be looked at again
  abbrev pub ReadsOn : ℕ → Scene S → Scene S → Type 0
  ReadsOn conn old new =
      GoesOn conn old new false ⊎ ((mid : Scene S) × GoesOn conn old mid true × Does remaining contents calls text (Reports conn readable) mid new)

  -- what waits is kept now, or still waits
  abbrev pub KeepsIf : Bool → Scene S → Scene S → Type 0
  KeepsIf true old new = Does remaining contents calls text Keeps old new
  KeepsIf false old new = new ≡ old

  -- a socket is looked at, and where it is owed something what waits is kept before
  abbrev pub LooksOn : ℕ → Scene S → Scene S → Type 0
  LooksOn conn old new =
      (kept : Scene S) × KeepsIf (is_owed_at old.peers conn) old kept × Does remaining contents calls text (Looks conn) kept new

  -- the server is told that a connection is no more, or nothing is done
  abbrev pub LeavesIf : Bool → ℕ → Scene S → Scene S → Type 0
  LeavesIf true conn old new = Does remaining contents calls text (Leaves conn) old new
  LeavesIf false conn old new = new ≡ old

  -- a socket is let go of, or nothing is done
  abbrev pub DropsIf : Bool → ℕ → Scene S → Scene S → Type 0
  DropsIf true conn old new = Does remaining contents calls text (Drops conn) old new
  DropsIf false conn old new = new ≡ old

  -- where the connection of a socket is no more the server is told, unless it was before, and where the socket is done with then it
  -- is let go of
  abbrev pub Finishes : ℕ → Scene S → Scene S → Type 0
  Finishes conn old new =
      (left : Scene S) × LeavesIf (departs_at old.peers conn) conn old left × DropsIf (is_done_at left.peers conn) conn left new

  -- a socket is looked at, then read from, and then what is over is ended
  abbrev pub Attends : ℕ → Scene S → Scene S → Type 0
  Attends conn old new = (looked : Scene S) × (read : Scene S) × LooksOn conn old looked × ReadsOn conn looked read × Finishes conn read new

  abbrev pub AttendsEach : List ℕ → Scene S → Scene S → Type 0
  AttendsEach [] old new = new ≡ old
  AttendsEach (conn ∷ conns) old new = (mid : Scene S) × Attends conn old mid × AttendsEach conns mid new

  -- Sockets are attended to in groups of at most 16. Behind each group what was stored is kept, and then what is owed is written
  abbrev pub AttendsGroups : List (List ℕ) → Scene S → Scene S → Type 0
  AttendsGroups [] old new = new ≡ old
  AttendsGroups (conns ∷ groups) old new =
      (attended : Scene S) × (written : Scene S) × (length conns ≤ 16) × AttendsEach conns old attended
      × SendsOut attended written × AttendsGroups groups written new

  -- what was stored is kept, what is owed is written, and then each socket that is to be looked at is attended to, once
  abbrev pub AttendsAll : Scene S → Scene S → Type 0
  AttendsAll old new =
      (written : Scene S) × (gathered : Scene S) × (groups : List (List ℕ)) × SendsOut old written
      × Does remaining contents calls text (Gathers (concat groups)) written gathered × AttendsGroups groups gathered new

  -- sockets are reported as ready
  abbrev pub ReportsEach : List (ℕ × Readiness) → Scene S → Scene S → Type 0
  ReportsEach [] old new = new ≡ old
  ReportsEach (report ∷ reports) old new =
      (mid : Scene S) × Does remaining contents calls text (Reports report.0 report.1) old mid × ReportsEach reports mid new

  -- a socket of this address has connected, and is attended to at once
  abbrev pub TakesIn : ℕ → Scene S → Scene S → Type 0
  TakesIn address old new =
      (key : List ℕ) × (opened : Scene S) × Does remaining contents calls text (Connects address key) old opened × Attends (old.peers.last + 1) opened new

  -- or it is turned away, and nothing changes
  abbrev pub MayTakeIn : ℕ → Scene S → Scene S → Type 0
  MayTakeIn address old new = (new ≡ old) ⊎ TakesIn address old new

  -- so many have connected
  abbrev pub TakesInMany : ℕ → Scene S → Scene S → Type 0
  TakesInMany zero old new = new ≡ old
  TakesInMany (suc count) old new = (mid : Scene S) × (address : ℕ) × TakesInMany count old mid × TakesIn address mid new

  -- who has connected is taken in, at most 256
  abbrev pub TakesInSome : Scene S → Scene S → Type 0
  TakesInSome old new = (count : ℕ) × (count ≤ 256) × TakesInMany count old new

  -- so many silent sockets are let go of
  abbrev pub ExpiresMany : ℕ → Scene S → Scene S → Type 0
  ExpiresMany zero old new = new ≡ old
  ExpiresMany (suc count) old new =
      (mid : Scene S) × (conn : ℕ) × ExpiresMany count old mid × Does remaining contents calls text (Expires conn) mid new

  -- one may be, or stays as it is
  abbrev pub MayExpire : ℕ → Scene S → Scene S → Type 0
  MayExpire conn old new = (new ≡ old) ⊎ Does remaining contents calls text (Expires conn) old new

  -- of these numbers those of silent sockets are let go of
  abbrev pub ExpiresAmong : List ℕ → Scene S → Scene S → Type 0
  ExpiresAmong conns old new = (count : ℕ) × ExpiresMany count old new × AreNoneSilent conns old.peers new.peers

  -- silent sockets are looked for and let go of, and none is left
  abbrev pub LetsGoOfSilent : Scene S → Scene S → Type 0
  LetsGoOfSilent old new =
      (begun : Scene S) × (count : ℕ) × Does remaining contents calls text Sweeps old begun × ExpiresMany count begun new
      × ((conn : ℕ) → is_silent_at new.peers conn ≡ false)

  -- a second after that was done last it is done again
  abbrev pub SweepsIfDue : Bool → Scene S → Scene S → Type 0
  SweepsIfDue true old new = LetsGoOfSilent old new
  SweepsIfDue false old new = new ≡ old

  -- Sockets are reported, the server is told the time, once, who has connected is taken in, and silent sockets are let go of where it is
  -- time to. And then what was stored is kept, what is owed is written, and each socket that is to be looked at is attended to
  pub record TakesTurn (old new : Scene S) : Type 0 where
    pub reports : List (ℕ × Readiness)
    pub now : Moment
    pub reported : Scene S
    pub told : Scene S
    pub joined : Scene S
    pub swept : Scene S
    pub reporting : ReportsEach reports old reported
    pub telling : Does remaining contents calls text (Passes now) reported told
    pub joining : TakesInSome told joined
    pub sweeping : SweepsIfDue (is_sweep_due joined.peers) joined swept
    pub attending : AttendsAll swept new

  -- so many turns, one after the other
  abbrev pub Turns : ℕ → Scene S → Scene S → Type 0
  Turns zero old new = new ≡ old
  Turns (suc turns) old new = (mid : Scene S) × Turns turns old mid × TakesTurn mid new

  -- so many turns, and then the server is told to end, what waits is kept, and the sockets take some of what they are owed then
  abbrev pub ServesToTheEnd : ℕ → Scene S → Scene S → Type 0
  ServesToTheEnd turns old new = (mid : Scene S) × Turns turns old mid × HandsIn Shutdown mid new

  -- some turns, up to the bound or until it is asked to stop, and then the server is told to end
  abbrev pub ServesUntil : Bool → ℕ → Scene S → Scene S → Type 0
  ServesUntil may_ask most old new = (turns : ℕ) × IsTurns may_ask most turns × ServesToTheEnd turns old new

-- what comes and goes over a network is not known, and neither is what its calls come to
abbrev pub unknown : TcpStream → Option (List ℕ)
unknown stream = None

abbrev pub uncounted : TcpStream → Option Calls
uncounted stream = None

-- what the system reports is of the listening socket, which has the token 0
abbrev pub is_of_listener : ready.Event → Bool
is_of_listener event = (event_token event).0 == 0

-- a socket takes bytes, or is to be found out not to any more
abbrev pub takes_bytes : ready.Event → Bool
takes_bytes event = is_writable event || is_write_closed event || is_error event

-- a socket is closed for reading, or has failed
abbrev pub ends : ready.Event → Bool
ends event = is_read_closed event || is_error event

abbrev pub readiness_of : ready.Event → Readiness
readiness_of event = record { is_writable = takes_bytes event; is_ending = ends event }

-- the socket that has the token for its number is to be looked at
abbrev pub reported_event : {S : Type 0} → PeersState S → ready.Event → PeersState S
reported_event p event = if is_of_listener event then p else reported p (event_token event).0 (readiness_of event)

abbrev pub reported_events : {S : Type 0} → PeersState S → List ready.Event → PeersState S
reported_events p events = fold reported_event p events

-- the listening socket is among what the system reports
abbrev pub is_listener_among : List ready.Event → Bool
is_listener_among events = list_any is_of_listener events

-- What the system reports is passed on: sockets are to be looked at, and where the listening socket is reported, too, one may have connected
abbrev pub with_reports : {S : Type 0} → Sockets S → List ready.Event → Sockets S
with_reports s events = record s { may_accept = s.may_accept || is_listener_among events; peers = reported_events s.peers events }

-- a server, and sockets as they are kept
abbrev pub begun : Sockets TcpStream → Keeping → Output → Scene TcpStream
begun sockets server output = scene (key_stream sockets.keys) server sockets.peers sockets.events output

-- From there on some turns are well done, at most so many where there is such a bound, and as many where nothing may ask to stop: without
-- a bound they end with a fault then. And then the server has ended; or it stopped in one. And this is what was put out before and after
abbrev pub IsServed : EventText → Sockets TcpStream → Keeping → Bool → ℕ → Output → Output → Type 0
IsServed text sockets server may_ask most old new =
    (after : Scene TcpStream) × (after.output ≡ new) × ServesUntil unknown unknown uncounted text may_ask most (begun sockets server old) after

abbrev pub IsStopped : EventText → Sockets TcpStream → Keeping → ServeFault → Output → Output → Type 0
IsStopped text sockets server fault old new =
    (after : Scene TcpStream) × (after.output ≡ new) × GivesUp unknown unknown uncounted text (begun sockets server old) after fault
