-- Acts, one after the other.
use Rattle.std.proofs.Common.{◌≡◌, ℕ, suc, zero, ◌+◌, ◌-◌, ◌<◌, ◌≤◌, ◌≢◌, Bool, true, false, cond, List, [], ◌∷◌, ◌++◌, Option, Some, None, Result, Ok, Err, MatchResult, ◌⊎◌, refl, sym, ap, ◌∙◌, subst, inl, inr, arith}
use Rattle.std.specs.List.{concat}
use Rattle.std.proofs.lemmas.Bool.{true≢false}
use Rattle.mio.specs.declared.event.event.Event as ready
use Rattle.mio.specs.Event.{event_token}
use Rattle.ua_types.specs.declared.moment.Moment.{Moment}
use Rattle.server_messages.specs.Kept as store
use Rattle.server_messages.specs.Kept.{Kept}
use Rattle.server_messages.specs.declared.stored.Stored.{Stored}
use Rattle.server_messages.specs.declared.store_fault.StoreFault.{StoreFault}
use Rattle.server_messages.proofs.KeptLemmas.{alike_refl}
use Rattle.server_core.specs.declared.event.Event.{Event}
use Rattle.server_core.specs.declared.event.Event.TheVariants.{Opened, Bytes, Gone, Tick, Shutdown}
use Rattle.socket_peers.specs.declared.peer.Heard.{Heard}
use Rattle.socket_peers.specs.declared.peer.Heard.TheVariants as heard
use Rattle.socket_peers.specs.declared.peer.Readiness.{Readiness}
use Rattle.socket_peers.specs.Peer.{PeerState, is_piece, may_be_more}
use Rattle.mio.specs.declared.net.stream.TcpStream.{TcpStream}
use Rattle.socket_peers.specs.Socket.{Calls}
use Rattle.socket_peers.specs.Peers.{PeersState, at, with_joined, with_departed, without, departs_at, is_done_at, is_crowded, is_owed_at, at_time, is_silent_at, is_gone_at, is_sweep_due, swept_now, numbers_of, LetsGo, reported, ReadsBy, ReadsAt, LooksAt}
use Rattle.socket_server.specs.Sockets.{Sockets}
use Rattle.socket_server.specs.Keeping.{Keeping, SettlesBy, Settles, StaysUnkept, IsOfStore}
use Rattle.socket_server.specs.Output.{Output, EventText}
use Rattle.socket_server.specs.declared.serve_fault.ServeFault.TheVariants as serve_fault
use Rattle.socket_server.specs.declared.serve_fault.ServeFault.{ServeFault}
use Rattle.rand_core.specs.Stream.{Stream}
use Rattle.socket_server.specs.Serving.{Scene, scene, IsNextKey, IsQuiet, Happening, Connects, Reports, Gathers, Looks, Hears, Waits, Keeps, Writes, Leaves, Drops, Passes, Sweeps, Expires, LetsExpire, AreNoneSilent, readable, Does, Runs, ticks, Takes, Fails, IsOutside, SendsOut, HandsIn, IsKept, IsUnkept, IsUnsent, WindsUp, Goes, Stops, GivesUp, Heeds, GoesOn, ReadsOn, KeepsIf, LooksOn, Attends, AttendsEach, AttendsGroups, AttendsAll, ReportsEach, TakesIn, MayTakeIn, TakesInMany, TakesInSome, ExpiresMany, MayExpire, ExpiresAmong, SweepsIfDue, TakesTurn, Turns, IsTurns, ServesUntil, unknown, uncounted, readiness_of, is_of_listener, reported_events, begun, IsServed, IsStopped, LeavesIf, DropsIf, Finishes}

ticks_append : (xs ys : List Happening) → ticks (xs ++ ys) ≡ ticks xs + ticks ys
ticks_append [] ys = omega arith
ticks_append (Passes now ∷ xs) ys = let e = ticks_append xs ys in omega arith
ticks_append (Connects address key ∷ xs) ys = ticks_append xs ys
ticks_append (Sweeps ∷ xs) ys = ticks_append xs ys
ticks_append (Expires conn ∷ xs) ys = ticks_append xs ys
ticks_append (Reports conn readiness ∷ xs) ys = ticks_append xs ys
ticks_append (Gathers conns ∷ xs) ys = ticks_append xs ys
ticks_append (Looks conn ∷ xs) ys = ticks_append xs ys
ticks_append (Hears conn piece ∷ xs) ys = ticks_append xs ys
ticks_append (Waits conn ∷ xs) ys = ticks_append xs ys
ticks_append (Keeps ∷ xs) ys = ticks_append xs ys
ticks_append (Writes ∷ xs) ys = ticks_append xs ys
ticks_append (Leaves conn ∷ xs) ys = ticks_append xs ys
ticks_append (Drops conn ∷ xs) ys = ticks_append xs ys

settled_by : (waiting : List Stored) (old new : Keeping) → old.waiting ≡ waiting → SettlesBy waiting old new → new.waiting ≡ []
settled_by [] old new none e = ap (λ (k : Keeping). k.waiting) e ∙ none
settled_by (s ∷ ss) old new some (keeps, e) = ap (λ (k : Keeping). k.waiting) e

-- nothing waits once all is kept
pub settled_none : (old new : Keeping) → Settles old new → new.waiting ≡ []
settled_none old new settles = settled_by old.waiting old new refl settles

-- where nothing is done, nothing more is kept
kept_so : (kept : Option Kept) → store.Keeps [] kept kept
kept_so None = tt
kept_so (Some kept) = alike_refl kept

stays_so : (k : Keeping) → StaysUnkept k k
stays_so k = (kept_so k.kept, refl)

-- how many turns are left behind so many, of a bound, or none where there is none
abbrev pub IsLeft : ℕ → ℕ → ℕ → Type 0
IsLeft most turns left = (left ≡ 0 → most ≡ 0) × (0 < left → turns + left ≡ most)

module _ {S : Type 0} where
  scene_path : (a b : Scene S) → a.keys ≡ b.keys → a.server ≡ b.server → a.peers ≡ b.peers → a.events ≡ b.events → a.output ≡ b.output → a ≡ b
  scene_path a b keys server peers events output =
      ap (λ (k : Stream). scene k a.server a.peers a.events a.output) keys
      ∙ ap (λ (s : Keeping). scene b.keys s a.peers a.events a.output) server
      ∙ ap (λ (p : PeersState S). scene b.keys b.server p a.events a.output) peers
      ∙ ap (λ (n : ℕ). scene b.keys b.server b.peers n a.output) events
      ∙ ap (λ (o : Output). scene b.keys b.server b.peers b.events o) output

module _ {S : Type 0} (remaining contents : S → Option (List ℕ)) (calls : S → Option Calls) (text : EventText) where
  runs_trans : (xs ys : List Happening) (a b c : Scene S) → Runs remaining contents calls text xs a b → Runs remaining contents calls text ys b c → Runs remaining contents calls text (xs ++ ys) a c
  runs_trans [] ys a b c p q = subst (λ s. Runs remaining contents calls text ys s c) p q
  runs_trans (x ∷ xs) ys a b c (mid, d, p) q = (mid, d, runs_trans xs ys mid b c p q)

  pub goes_none : (a : Scene S) → Goes remaining contents calls text 0 a a
  goes_none a = ([], refl, refl)

  pub goes_trans : (m n : ℕ) (a b c : Scene S) → Goes remaining contents calls text m a b → Goes remaining contents calls text n b c → Goes remaining contents calls text (m + n) a c
  goes_trans m n a b c (xs, t, p) (ys, u, q) =
      let e = ticks_append xs ys in
      (xs ++ ys, omega arith, runs_trans xs ys a b c p q)

  pub goes_on : (a b c : Scene S) → Goes remaining contents calls text 0 a b → Goes remaining contents calls text 0 b c → Goes remaining contents calls text 0 a c
  goes_on a b c p q = goes_trans 0 0 a b c p q

  pub stops_after : (m : ℕ) (a b new : Scene S) (fault : ServeFault) → Goes remaining contents calls text m a b → Stops remaining contents calls text b new fault → Stops remaining contents calls text a new fault
  stops_after m a b new fault p (n, mid, q, h) = (m + n, mid, goes_trans m n a b mid p q, h)

  -- at an event
  pub stops_at : (event : Event) (a new : Scene S) (fault : ServeFault) → Fails text event a new fault → Stops remaining contents calls text a new fault
  stops_at event a new fault h = (0, a, goes_none a, inr (inr (event, h)))

  -- between events
  pub stops_here : (a new : Scene S) (fault : ServeFault) → IsOutside fault → new.server ≡ a.server → new.output ≡ a.output → Stops remaining contents calls text a new fault
  stops_here a new fault h server told = (0, a, goes_none a, inl (h, server, told))

  -- where what waits can't be kept
  pub stops_unkept : (a new : Scene S) (fault : ServeFault) → IsOfStore fault → IsUnkept a new → Stops remaining contents calls text a new fault
  stops_unkept a new fault h unkept = (0, a, goes_none a, inr (inl (h, unkept)))

  -- ---- one act

  -- in which no time passes
  quiet : (act : Happening) (a c : Scene S) → ticks (act ∷ []) ≡ 0 → Does remaining contents calls text act a c → Goes remaining contents calls text 0 a c
  quiet act a c none does = (act ∷ [], none, (c, does, refl))

  pub connects : (address : ℕ) (key : List ℕ) (a c : Scene S) → Does remaining contents calls text (Connects address key) a c → Goes remaining contents calls text 0 a c
  connects address key a c does = quiet (Connects address key) a c refl does

  hears : (conn : ℕ) (h : Heard) (is : Bool) (a c : Scene S) → is_piece h ≡ is → Heeds remaining contents calls text conn h is a c → Goes remaining contents calls text 0 a c
  hears conn h true a c is (piece, p, reads, takes) = quiet (Hears conn piece) a c refl (h, is, p, reads, takes)
  hears conn h false a c other (reads, same) = quiet (Waits conn) a c refl (h, other, reads, same)

  none_read : (conn : ℕ) (old new : PeersState S) (o : Option (PeerState S)) (room : ℕ) (piece : List ℕ) (h : Heard) → is_piece h ≡ false → ReadsBy remaining contents calls o conn old new room piece h → piece ≡ []
  none_read conn old new None room piece h other reads = reads.0
  none_read conn old new (Some p) room piece heard.Piece other reads = absurd (true≢false other)
  none_read conn old new (Some p) room piece heard.Last other reads = absurd (true≢false other)
  none_read conn old new (Some p) room piece heard.Again other (after, reads, e) = reads.0
  none_read conn old new (Some p) room piece heard.Nothing other (after, reads, e) = reads.0
  none_read conn old new (Some p) room piece heard.End other (after, reads, e) = reads.0

  pub passes : (now : Moment) (a c : Scene S) → Does remaining contents calls text (Passes now) a c → Goes remaining contents calls text 1 a c
  passes now a c does = (Passes now ∷ [], refl, (c, does, refl))

  pub keeps : (a c : Scene S) → Does remaining contents calls text Keeps a c → Goes remaining contents calls text 0 a c
  keeps a c does = quiet Keeps a c refl does

  looks : (conn : ℕ) (a c : Scene S) → Does remaining contents calls text (Looks conn) a c → Goes remaining contents calls text 0 a c
  looks conn a c does = quiet (Looks conn) a c refl does

  writes : (a c : Scene S) → Does remaining contents calls text Writes a c → Goes remaining contents calls text 0 a c
  writes a c does = quiet Writes a c refl does

  pub reports : (conn : ℕ) (readiness : Readiness) (a c : Scene S) → Does remaining contents calls text (Reports conn readiness) a c → Goes remaining contents calls text 0 a c
  reports conn readiness a c does = quiet (Reports conn readiness) a c refl does

  pub gathers : (conns : List ℕ) (a c : Scene S) → Does remaining contents calls text (Gathers conns) a c → Goes remaining contents calls text 0 a c
  gathers conns a c does = quiet (Gathers conns) a c refl does

  -- what is as it was
  pub goes_same : (a b : Scene S) → b ≡ a → Goes remaining contents calls text 0 a b
  goes_same a b e = subst (λ x. Goes remaining contents calls text 0 a x) (sym e) (goes_none a)

  same_scene : (a b : Scene S) → b.peers ≡ a.peers → IsQuiet a b → b ≡ a
  same_scene a b peers (server, events, output, keys) = scene_path b a keys server peers events output

  -- a socket that is done with is let go of, or nothing is done
  drops : (conn : ℕ) (a c : Scene S) (is_gone : Bool) → LetsGo conn a.peers c.peers is_gone → IsQuiet a c → DropsIf remaining contents calls text (is_done_at a.peers conn) conn a c
  drops conn a c true (done, e) same = subst (λ is. DropsIf remaining contents calls text is conn a c) (sym done) (done, e, same)
  drops conn a c false (not_done, e) same = subst (λ is. DropsIf remaining contents calls text is conn a c) (sym not_done) (same_scene a c e same)

  leaves_if_goes : (is : Bool) (conn : ℕ) (a c : Scene S) → LeavesIf remaining contents calls text is conn a c → Goes remaining contents calls text 0 a c
  leaves_if_goes true conn a c does = quiet (Leaves conn) a c refl does
  leaves_if_goes false conn a c e = goes_same a c e

  drops_if_goes : (is : Bool) (conn : ℕ) (a c : Scene S) → DropsIf remaining contents calls text is conn a c → Goes remaining contents calls text 0 a c
  drops_if_goes true conn a c does = quiet (Drops conn) a c refl does
  drops_if_goes false conn a c e = goes_same a c e

  finishes_go : (conn : ℕ) (a c : Scene S) → Finishes remaining contents calls text conn a c → Goes remaining contents calls text 0 a c
  finishes_go conn a c (left, leaving, dropping) =
      goes_on a left c (leaves_if_goes (departs_at a.peers conn) conn a left leaving) (drops_if_goes (is_done_at left.peers conn) conn left c dropping)

  -- ---- what calls come to

  abbrev is_shutdown : Event → Bool
  is_shutdown Shutdown = true
  is_shutdown event = false

  -- the sockets and the keys have no part in it
  fails_from : (event : Event) (a c : Scene S) (p : PeersState S) (k : Stream) (fault : ServeFault) → is_shutdown event ≡ false
      → Fails text event (record a { keys = k; peers = p }) c fault → Fails text event a c fault
  fails_from event a c p k serve_fault.Port open_still h = absurd h
  fails_from event a c p k serve_fault.Address open_still h = absurd h
  fails_from event a c p k serve_fault.Network open_still h = absurd h
  fails_from event a c p k (serve_fault.Step f) open_still h = h
  fails_from event a c p k serve_fault.Trace open_still h = h
  fails_from event a c p k (serve_fault.Store f) open_still (last, told, takes, unkept) = absurd (true≢false (sym (ap is_shutdown last) ∙ open_still))
  fails_from event a c p k serve_fault.Memory open_still h = h

  abbrev Handed : Event → Scene S → Scene S → {X : Type 0} → Result X ServeFault → Type 0
  Handed event a c r = MatchResult r (λ _. Takes text event a c) (Fails text event a c)

  pub connect_does : {X : Type 0} (number address : ℕ) (key : List ℕ) (left : Stream) (stream : S) (a : Scene S) (p : PeersState S) (c : Scene S) (r : Result X ServeFault) → number ≡ a.peers.last + 1
      → is_crowded a.peers address ≡ false → p ≡ with_joined a.peers address stream → IsNextKey a.keys left key → Handed (Opened number key) (record a { keys = left; peers = p }) c r
      → MatchResult r (λ _. Does remaining contents calls text (Connects address key) a c) (Stops remaining contents calls text a c)
  connect_does number address key left stream a p c (Ok x) n room j drawn h = (
    stream,
    left,
    drawn,
    room,
    subst (λ k. Takes text (Opened k key) (record a { keys = left; peers = with_joined a.peers address stream }) c) n
        (subst (λ q. Takes text (Opened number key) (record a { keys = left; peers = q }) c) j h),
  )
  connect_does number address key left stream a p c (Err fault) n room j drawn h = stops_at (Opened number key) a c fault (fails_from (Opened number key) a c p left fault refl h)

  -- the sockets and the server are told the time
  pub time_told : {X : Type 0} (now : Moment) (a : Scene S) (p : PeersState S) (c : Scene S) (r : Result X ServeFault) → p ≡ at_time now a.peers
      → Handed (Tick now) (record a { peers = p }) c r → MatchResult r (λ _. Does remaining contents calls text (Passes now) a c) (Fails text (Tick now) a c)
  time_told now a p c (Ok x) e h = subst (λ (q : PeersState S). Takes text (Tick now) (record a { peers = q }) c) e h
  time_told now a p c (Err fault) e h = fails_from (Tick now) a c p a.keys fault refl h

  -- ---- one read

  pub none_heeded : (conn : ℕ) (h : Heard) (piece : List ℕ) (a c : Scene S) → is_piece h ≡ false → ReadsAt remaining contents calls conn a.peers c.peers 4096 piece h → IsQuiet a c
      → GoesOn remaining contents calls text conn a c (may_be_more h)
  none_heeded conn h piece a c other reads same =
      let none = none_read conn a.peers c.peers (at a.peers conn) 4096 piece h other reads in
      (h, refl, subst (λ is. Heeds remaining contents calls text conn h is a c) (sym other) (subst (λ l. ReadsAt remaining contents calls conn a.peers c.peers 4096 l h) none reads, same))

  pub piece_heeded : (conn : ℕ) (h : Heard) (piece : List ℕ) (p : PeersState S) (a c : Scene S) → is_piece h ≡ true → ReadsAt remaining contents calls conn a.peers p 4096 piece h
      → Takes text (Bytes conn piece) (record a { peers = p }) c → GoesOn remaining contents calls text conn a c (may_be_more h)
  piece_heeded conn h piece p a c some reads hands =
      (h, refl, subst (λ is. Heeds remaining contents calls text conn h is a c) (sym some) (piece, p, reads, hands))

  pub piece_stops : (conn : ℕ) (piece : List ℕ) (p : PeersState S) (a c : Scene S) (fault : ServeFault) → Fails text (Bytes conn piece) (record a { peers = p }) c fault
      → Stops remaining contents calls text a c fault
  piece_stops conn piece p a c fault h = stops_at (Bytes conn piece) a c fault (fails_from (Bytes conn piece) a c p a.keys fault refl h)

  pub gone_serves : {X : Type 0} (conn : ℕ) (a : Scene S) (p : PeersState S) (c : Scene S) (r : Result X ServeFault) → (departs_at a.peers conn ≡ true) × (p ≡ with_departed a.peers conn)
      → Handed (Gone conn) (record a { peers = p }) c r
      → MatchResult r (λ _. LeavesIf remaining contents calls text (departs_at a.peers conn) conn a c) (Stops remaining contents calls text a c)
  gone_serves conn a p c (Ok x) (over, j) h =
      subst (λ is. LeavesIf remaining contents calls text is conn a c) (sym over) (over, subst (λ q. Takes text (Gone conn) (record a { peers = q }) c) j h)
  gone_serves conn a p c (Err fault) (over, j) h = stops_at (Gone conn) a c fault (fails_from (Gone conn) a c p a.keys fault refl h)

  pub none_leaves : (conn : ℕ) (a c : Scene S) → departs_at a.peers conn ≡ false → c ≡ a → LeavesIf remaining contents calls text (departs_at a.peers conn) conn a c
  none_leaves conn a c still e = subst (λ is. LeavesIf remaining contents calls text is conn a c) (sym still) e

  -- a socket is let go of where it is done with, once the server was told
  pub released_after : (conn : ℕ) (a b c : Scene S) (is_gone : Bool) → LeavesIf remaining contents calls text (departs_at a.peers conn) conn a b
      → LetsGo conn b.peers c.peers is_gone → IsQuiet b c → Finishes remaining contents calls text conn a c
  released_after conn a b c is_gone leaving lets same = (b, leaving, drops conn b c is_gone lets same)

  -- an observer that was told of a connection put nothing out
  pub takes_same : (event : Event) (a : Scene S) (keys : Stream) (server : Keeping) (p : PeersState S) (events : ℕ) (output again : Output) → again ≡ output
      → Takes text event a (scene keys server p events output) → Takes text event a (scene keys server p events again)
  takes_same event a keys server p events output again e h = subst (λ (o : Output). Takes text event a (scene keys server p events o)) (sym e) h

  -- ---- a turn

  pub one_read_goes : (conn : ℕ) (a c : Scene S) (more : Bool) → GoesOn remaining contents calls text conn a c more → Goes remaining contents calls text 0 a c
  one_read_goes conn a c more (h, says, heeds) = hears conn h (is_piece h) a c refl heeds

  reads_go : (conn : ℕ) (a c : Scene S) → ReadsOn remaining contents calls text conn a c → Goes remaining contents calls text 0 a c
  reads_go conn a c (inl none) = one_read_goes conn a c false none
  reads_go conn a c (inr (mid, more, does)) = goes_on a mid c (one_read_goes conn a mid true more) (reports conn readable mid c does)

  none_waits : (is_owed : Bool) (a c : Scene S) → KeepsIf remaining contents calls text is_owed a c → is_owed ≡ true → c.server.waiting ≡ []
  none_waits true a c (settles, e) h = settled_none a.server c.server settles
  none_waits false a c e h = absurd (true≢false (sym h))

  pub kept_if_owed : (is_owed : Bool) (a : Scene S) (mid server : Keeping) → is_owed ≡ true → mid ≡ server → Settles a.server server
      → KeepsIf remaining contents calls text is_owed a (record a { server = mid })
  kept_if_owed true a mid server h e settles = (subst (λ (k : Keeping). Settles a.server k) (sym e) settles, refl)
  kept_if_owed false a mid server h e settles = absurd (true≢false (sym h))

  pub unkept_if_not_owed : (is_owed : Bool) (a : Scene S) (mid : Keeping) → is_owed ≡ false → mid ≡ a.server
      → KeepsIf remaining contents calls text is_owed a (record a { server = mid })
  unkept_if_not_owed true a mid h e = absurd (true≢false h)
  unkept_if_not_owed false a mid h e = ap (λ (k : Keeping). scene a.keys k a.peers a.events a.output) e

  -- where what waits was kept, if the socket is owed something, it is looked at
  pub looked_on : (conn : ℕ) (a : Scene S) (mid : Keeping) (p : PeersState S) → KeepsIf remaining contents calls text (is_owed_at a.peers conn) a (record a { server = mid })
      → LooksAt remaining contents calls conn a.peers p → LooksOn remaining contents calls text conn a (record a { server = mid; peers = p })
  looked_on conn a mid p may looked =
      let kept = record a { server = mid } in
      (kept, may, (none_waits (is_owed_at a.peers conn) a kept may, looked, (refl, refl, refl, refl)))

  pub kept_if_goes : (is_owed : Bool) (a c : Scene S) → KeepsIf remaining contents calls text is_owed a c → Goes remaining contents calls text 0 a c
  kept_if_goes true a c does = keeps a c does
  kept_if_goes false a c e = goes_same a c e

  pub looks_go : (conn : ℕ) (a c : Scene S) → LooksOn remaining contents calls text conn a c → Goes remaining contents calls text 0 a c
  looks_go conn a c (kept, may, does) = goes_on a kept c (kept_if_goes (is_owed_at a.peers conn) a kept may) (looks conn kept c does)

  pub attends_go : (conn : ℕ) (a c : Scene S) → Attends remaining contents calls text conn a c → Goes remaining contents calls text 0 a c
  attends_go conn a c (looked, read, looking, reads, finishes) =
      goes_on a looked c (looks_go conn a looked looking) (goes_on looked read c (reads_go conn looked read reads) (finishes_go conn read c finishes))

  pub sends_go : (a c : Scene S) → SendsOut remaining contents calls text a c → Goes remaining contents calls text 0 a c
  sends_go a c (kept, does, sends) = goes_on a kept c (keeps a kept does) (writes kept c sends)

  -- what is owed isn't written
  pub unsent_stops : (a c : Scene S) (fault : ServeFault) → IsUnsent a c fault → Stops remaining contents calls text a c fault
  unsent_stops a c serve_fault.Port h = absurd h
  unsent_stops a c serve_fault.Address h = absurd h
  unsent_stops a c serve_fault.Network h = absurd h
  unsent_stops a c (serve_fault.Step f) h = absurd h
  unsent_stops a c serve_fault.Trace h = absurd h
  unsent_stops a c (serve_fault.Store f) unkept = stops_unkept a c (serve_fault.Store f) tt unkept
  unsent_stops a c serve_fault.Memory (settles, e) =
      let kept = record a { server = c.server } in
      stops_after 0 a kept c serve_fault.Memory (keeps a kept (settles, refl)) (stops_here kept c serve_fault.Memory tt refl (ap (λ (s : Scene S). s.output) e))

  -- what waits is kept, and then sockets take what they are owed
  sent_or_not : {X : Type 0} (a c : Scene S) (r : Result X ServeFault) → MatchResult r (λ _. SendsOut remaining contents calls text a c) (IsUnsent a c) → IsKept a c ⊎ IsUnkept a c
  sent_or_not a c (Ok x) (kept, (settles, e), (none, flushes, (server, events, output, keys))) =
      inl (
        subst (λ (k : Keeping). Settles a.server k) (sym server) settles,
        scene_path c (record a { server = c.server; peers = c.peers }) (keys ∙ ap (λ (s : Scene S). s.keys) e) refl refl (events ∙ ap (λ (s : Scene S). s.events) e)
            (output ∙ ap (λ (s : Scene S). s.output) e),
      )
  sent_or_not a c (Err serve_fault.Port) h = absurd h
  sent_or_not a c (Err serve_fault.Address) h = absurd h
  sent_or_not a c (Err serve_fault.Network) h = absurd h
  sent_or_not a c (Err (serve_fault.Step f)) h = absurd h
  sent_or_not a c (Err serve_fault.Trace) h = absurd h
  sent_or_not a c (Err (serve_fault.Store f)) unkept = inr unkept
  sent_or_not a c (Err serve_fault.Memory) kept = inl kept

  -- after a fault that isn't the store's
  pub wound_up : {X : Type 0} (a c : Scene S) (fault : ServeFault) (r : Result X ServeFault) → ((f : StoreFault) → fault ≡ serve_fault.Store f → ⊥)
      → MatchResult r (λ _. SendsOut remaining contents calls text a c) (IsUnsent a c) → WindsUp fault a c
  wound_up a c serve_fault.Port r other h = sent_or_not a c r h
  wound_up a c serve_fault.Address r other h = sent_or_not a c r h
  wound_up a c serve_fault.Network r other h = sent_or_not a c r h
  wound_up a c (serve_fault.Step f) r other h = sent_or_not a c r h
  wound_up a c serve_fault.Trace r other h = sent_or_not a c r h
  wound_up a c (serve_fault.Store f) r other h = absurd (other f refl)
  wound_up a c serve_fault.Memory r other h = sent_or_not a c r h

  pub each_go : (conns : List ℕ) (a c : Scene S) → AttendsEach remaining contents calls text conns a c → Goes remaining contents calls text 0 a c
  each_go [] a c e = goes_same a c e
  each_go (conn ∷ conns) a c (mid, attends, each) = goes_on a mid c (attends_go conn a mid attends) (each_go conns mid c each)

  groups_go : (groups : List (List ℕ)) (a c : Scene S) → AttendsGroups remaining contents calls text groups a c → Goes remaining contents calls text 0 a c
  groups_go [] a c e = goes_same a c e
  groups_go (conns ∷ groups) a c (attended, written, few, each, does, rest) =
      goes_on a attended c (each_go conns a attended each) (goes_on attended written c (sends_go attended written does) (groups_go groups written c rest))

  all_go : (a c : Scene S) → AttendsAll remaining contents calls text a c → Goes remaining contents calls text 0 a c
  all_go a c (written, gathered, groups, does, taken, rest) =
      goes_on a written c (sends_go a written does) (goes_on written gathered c (gathers (concat groups) written gathered taken) (groups_go groups gathered c rest))

  -- ---- reports

  reports_go : (list : List (ℕ × Readiness)) (a c : Scene S) → ReportsEach remaining contents calls text list a c → Goes remaining contents calls text 0 a c
  reports_go [] a c e = goes_same a c e
  reports_go (report ∷ list) a c (mid, does, each) = goes_on a mid c (reports report.0 report.1 a mid does) (reports_go list mid c each)

  reported_once : (number : ℕ) (readiness : Readiness) (rest : List ready.Event) (a c : Scene S) (b : Bool)
      → c.peers ≡ reported_events (cond b a.peers (reported a.peers number readiness)) rest
      → (c.peers ≡ reported_events a.peers rest → (list : List (ℕ × Readiness)) × ReportsEach remaining contents calls text list a c)
      → (c.peers ≡ reported_events (reported a.peers number readiness) rest
      → (list : List (ℕ × Readiness)) × ReportsEach remaining contents calls text list (record a { peers = reported a.peers number readiness }) c)
      → (list : List (ℕ × Readiness)) × ReportsEach remaining contents calls text list a c
  reported_once number readiness rest a c true h f g = f h
  reported_once number readiness rest a c false h f g =
      let others = g h in
      ((number, readiness) ∷ others.0, (record a { peers = reported a.peers number readiness }, (refl, (refl, refl, refl, refl)), others.1))

  -- what the system reports; of the listening socket nothing is noted
  pub reported_each : (events : List ready.Event) (a c : Scene S) → c.peers ≡ reported_events a.peers events → IsQuiet a c
      → (list : List (ℕ × Readiness)) × ReportsEach remaining contents calls text list a c
  reported_each [] a c e same = ([], same_scene a c e same)
  reported_each (event ∷ rest) a c e same =
      let mid = record a { peers = reported a.peers (event_token event).0 (readiness_of event) } in
      reported_once (event_token event).0 (readiness_of event) rest a c (is_of_listener event) e
      (λ h. reported_each rest a c h same) (λ h. reported_each rest mid c h same)

  -- ---- those who connect

  takes_in_goes : (address : ℕ) (a c : Scene S) → TakesIn remaining contents calls text address a c → Goes remaining contents calls text 0 a c
  takes_in_goes address a c (key, opened, does, attends) = goes_on a opened c (connects address key a opened does) (attends_go (a.peers.last + 1) opened c attends)

  many_taken_in_go : (count : ℕ) (a c : Scene S) → TakesInMany remaining contents calls text count a c → Goes remaining contents calls text 0 a c
  many_taken_in_go zero a c e = goes_same a c e
  many_taken_in_go (suc count) a c (mid, address, many, one) = goes_on a mid c (many_taken_in_go count a mid many) (takes_in_goes address mid c one)

  -- at most so many
  abbrev pub TakesInUpTo : ℕ → Scene S → Scene S → Type 0
  TakesInUpTo most a c = (count : ℕ) × (count ≤ most) × TakesInMany remaining contents calls text count a c

  pub none_taken_in : (a : Scene S) → TakesInUpTo 0 a a
  none_taken_in a = (0, omega arith, refl)

  pub taken_in_go : (most : ℕ) (a c : Scene S) → TakesInUpTo most a c → Goes remaining contents calls text 0 a c
  taken_in_go most a c (count, few, many) = many_taken_in_go count a c many

  pub next_taken_in : (most address : ℕ) (a b c : Scene S) → TakesInUpTo most a b → MayTakeIn remaining contents calls text address b c → TakesInUpTo (most + 1) a c
  next_taken_in most address a b c (count, few, many) (inl e) = (count, omega arith, subst (λ (s : Scene S). TakesInMany remaining contents calls text count a s) (sym e) many)
  next_taken_in most address a b c (count, few, many) (inr one) = (suc count, omega arith, (b, address, many, one))

  pub fewer_taken_in : (most more : ℕ) (a b c : Scene S) → most ≤ more → c ≡ b → TakesInUpTo most a b → TakesInUpTo more a c
  fewer_taken_in most more a b c le e (count, few, many) = (count, omega arith, subst (λ (s : Scene S). TakesInMany remaining contents calls text count a s) (sym e) many)

  -- a socket that has connected is attended to
  pub joined : {X : Type 0} (number address : ℕ) (key : List ℕ) (a opened c : Scene S) (r : Result X ServeFault) → number ≡ a.peers.last + 1
      → Does remaining contents calls text (Connects address key) a opened
      → MatchResult r (λ _. Attends remaining contents calls text number opened c) (Stops remaining contents calls text opened c)
      → MatchResult r (λ _. TakesIn remaining contents calls text address a c) (Stops remaining contents calls text a c)
  joined number address key a opened c (Ok x) n does attends = (key, opened, does, subst (λ k. Attends remaining contents calls text k opened c) n attends)
  joined number address key a opened c (Err fault) n does stops = stops_after 0 a opened c fault (connects address key a opened does) stops

  -- it is taken in, or what it is turned away for
  pub may_be_joined : {X : Type 0} (address : ℕ) (a c : Scene S) (r : Result X ServeFault)
      → MatchResult r (λ _. TakesIn remaining contents calls text address a c) (Stops remaining contents calls text a c)
      → MatchResult r (λ _. MayTakeIn remaining contents calls text address a c) (Stops remaining contents calls text a c)
  may_be_joined address a c (Ok x) h = inr h
  may_be_joined address a c (Err fault) h = h

  -- ---- silent sockets

  many_expired_go : (count : ℕ) (a c : Scene S) → ExpiresMany remaining contents calls text count a c → Goes remaining contents calls text 0 a c
  many_expired_go zero a c e = goes_same a c e
  many_expired_go (suc count) a c (mid, conn, many, does) = goes_on a mid c (many_expired_go count a mid many) (quiet (Expires conn) mid c refl does)

  -- some of them
  abbrev pub ExpiresSome : Scene S → Scene S → Type 0
  ExpiresSome a c = (count : ℕ) × ExpiresMany remaining contents calls text count a c

  pub expired_go : (a c : Scene S) → ExpiresSome a c → Goes remaining contents calls text 0 a c
  expired_go a c (count, many) = many_expired_go count a c many

  pub none_expired : (a : Scene S) → ExpiresSome a a
  none_expired a = (0, refl)

  pub next_expired : (conn : ℕ) (a b c : Scene S) → ExpiresSome a b → MayExpire remaining contents calls text conn b c → ExpiresSome a c
  next_expired conn a b c (count, many) (inl e) = (count, subst (λ (s : Scene S). ExpiresMany remaining contents calls text count a s) (sym e) many)
  next_expired conn a b c (count, many) (inr does) = (suc count, (b, conn, many, does))

  -- one that the server was told of
  pub expires_told : (conn : ℕ) (a c : Scene S) → is_silent_at a.peers conn ≡ true → is_gone_at a.peers conn ≡ true → c.peers ≡ without a.peers conn → IsQuiet a c
      → MayExpire remaining contents calls text conn a c
  expires_told conn a c silent gone e same = inr (silent, subst (λ (b : Bool). LetsExpire remaining contents calls text b conn a c) (sym gone) (e, same))

  -- and one that it is told of now
  pub expires_untold : {X : Type 0} (conn : ℕ) (a : Scene S) (p : PeersState S) (c : Scene S) (r : Result X ServeFault) → is_silent_at a.peers conn ≡ true → is_gone_at a.peers conn ≡ false
      → p ≡ without a.peers conn → Handed (Gone conn) (record a { peers = p }) c r
      → MatchResult r (λ _. MayExpire remaining contents calls text conn a c) (Stops remaining contents calls text a c)
  expires_untold conn a p c (Ok x) silent open_still e h =
      inr (silent, subst (λ (b : Bool). LetsExpire remaining contents calls text b conn a c) (sym open_still) (subst (λ (q : PeersState S). Takes text (Gone conn) (record a { peers = q }) c) e h))
  expires_untold conn a p c (Err fault) silent open_still e h = stops_at (Gone conn) a c fault (fails_from (Gone conn) a c p a.keys fault refl h)

  pub sweeps : (a c : Scene S) → Does remaining contents calls text Sweeps a c → Goes remaining contents calls text 0 a c
  sweeps a c does = quiet Sweeps a c refl does

  pub sweeping_goes : (due : Bool) (a c : Scene S) → SweepsIfDue remaining contents calls text due a c → Goes remaining contents calls text 0 a c
  sweeping_goes true a c (begun, count, does, many, none) = goes_on a begun c (sweeps a begun does) (many_expired_go count begun c many)
  sweeping_goes false a c e = goes_same a c e

  -- all are looked through
  pub swept_through : {X : Type 0} (a at_first c : Scene S) (r : Result X ServeFault) → is_sweep_due a.peers ≡ true → Does remaining contents calls text Sweeps a at_first
      → MatchResult r (λ _. ExpiresAmong remaining contents calls text (numbers_of a.peers) at_first c) (Stops remaining contents calls text at_first c)
      → ((at_first.peers ≡ swept_now a.peers) → AreNoneSilent (numbers_of a.peers) at_first.peers c.peers → (conn : ℕ) → is_silent_at c.peers conn ≡ false)
      → MatchResult r (λ _. SweepsIfDue remaining contents calls text (is_sweep_due a.peers) a c) (Stops remaining contents calls text a c)
  swept_through a at_first c (Ok x) due does (count, many, silent) none =
      subst (λ (b : Bool). SweepsIfDue remaining contents calls text b a c) (sym due) (at_first, count, does, many, none does.1 silent)
  swept_through a at_first c (Err fault) due does stops none = stops_after 0 a at_first c fault (sweeps a at_first does) stops

  -- ---- turns

  turn_goes : (a c : Scene S) → TakesTurn remaining contents calls text a c → Goes remaining contents calls text 1 a c
  turn_goes a c t =
      goes_trans 1 0 a t.swept c
      (goes_trans 1 0 a t.joined t.swept
      (goes_trans 1 0 a t.told t.joined
      (goes_trans 0 1 a t.reported t.told (reports_go t.reports a t.reported t.reporting) (passes t.now t.reported t.told t.telling))
      (taken_in_go 256 t.told t.joined t.joining)) (sweeping_goes (is_sweep_due t.joined.peers) t.joined t.swept t.sweeping))
      (all_go t.swept c t.attending)

  pub turns_go : (n : ℕ) (a c : Scene S) → Turns remaining contents calls text n a c → Goes remaining contents calls text n a c
  turns_go zero a c e = goes_same a c e
  turns_go (suc n) a c (mid, turns, turn) =
      let next : n + 1 ≡ suc n = omega arith in
      subst (λ m. Goes remaining contents calls text m a c) next (goes_trans n 1 a mid c (turns_go n a mid turns) (turn_goes mid c turn))

  pub left_at_first : (most left : ℕ) → left ≡ most → IsLeft most 0 left
  left_at_first most left e = (λ none. sym e ∙ none, λ some. omega arith)

  one_less : (most turns left : ℕ) → IsLeft most turns left → left ≢ 1 → IsLeft most (turns + 1) (left - 1)
  one_less most turns zero (none, some) more = (λ e. none refl, λ h. omega arith)
  one_less most turns (suc zero) (none, some) more = absurd (more refl)
  one_less most turns (suc (suc left)) (none, some) more = let all = some (omega arith) in (λ e. omega arith, λ h. omega arith)

  pub one_left_less : (most turns left less : ℕ) → IsLeft most turns left → left ≢ 1 → less ≡ left - 1 → IsLeft most (turns + 1) less
  one_left_less most turns left less at more e = subst (λ (n : ℕ). IsLeft most (turns + 1) n) (sym e) (one_less most turns left at more)

  -- the last one is taken
  pub last_taken : (may_ask : Bool) (most turns left : ℕ) → IsLeft most turns left → left ≡ 1 → IsTurns may_ask most (turns + 1)
  last_taken may_ask most turns left (none, some) one = let all = some (omega arith) in (omega arith, λ h. omega arith, λ never. omega arith)

  -- it is asked to stop
  pub asked_to_stop : (may_ask : Bool) (most turns left : ℕ) → IsLeft most turns left → may_ask ≡ true → IsTurns may_ask most (turns + 1)
  asked_to_stop may_ask most turns zero (none, some) asks = (omega arith, λ h. let no = none refl in omega arith, λ never. absurd (true≢false (sym asks ∙ never)))
  asked_to_stop may_ask most turns (suc left) (none, some) asks = let all = some (omega arith) in (omega arith, λ h. omega arith, λ never. absurd (true≢false (sym asks ∙ never)))

  pub next_turn : (n : ℕ) (a b c : Scene S) → Turns remaining contents calls text n a b → TakesTurn remaining contents calls text b c → Turns remaining contents calls text (n + 1) a c
  next_turn n a b c turns turn =
      let next : suc n ≡ n + 1 = omega arith in
      subst (λ m. Turns remaining contents calls text m a c) next (b, turns, turn)

  -- after the look and the reads the server is told
  pub attends_then : {X : Type 0} (conn : ℕ) (a looked read c : Scene S) (r : Result X ServeFault) → LooksOn remaining contents calls text conn a looked
      → ReadsOn remaining contents calls text conn looked read
      → MatchResult r (λ _. Finishes remaining contents calls text conn read c) (Stops remaining contents calls text read c)
      → MatchResult r (λ _. Attends remaining contents calls text conn a c) (Stops remaining contents calls text a c)
  attends_then conn a looked read c (Ok x) looking reads finishes = (looked, read, looking, reads, finishes)
  attends_then conn a looked read c (Err fault) looking reads stops =
      stops_after 0 a read c fault (goes_on a looked read (looks_go conn a looked looking) (reads_go conn looked read reads)) stops

  -- up to the time, up to those who connected, and up to the silent ones
  pub told_time : (a b c : Scene S) (now : Moment) → ((list : List (ℕ × Readiness)) × ReportsEach remaining contents calls text list a b) → Does remaining contents calls text (Passes now) b c
      → Goes remaining contents calls text 1 a c
  told_time a b c now (list, each) does = goes_trans 0 1 a b c (reports_go list a b each) (passes now b c does)

  pub reports_stop : (a b c : Scene S) (fault : ServeFault) → ((list : List (ℕ × Readiness)) × ReportsEach remaining contents calls text list a b) → Stops remaining contents calls text b c fault
      → Stops remaining contents calls text a c fault
  reports_stop a b c fault (list, each) stops = stops_after 0 a b c fault (reports_go list a b each) stops

  -- a turn ends with attending to all
  pub turned : {X : Type 0} (a reported told joined swept c : Scene S) (now : Moment) (r : Result X ServeFault)
      → ((list : List (ℕ × Readiness)) × ReportsEach remaining contents calls text list a reported)
      → Does remaining contents calls text (Passes now) reported told → TakesInSome remaining contents calls text told joined
      → SweepsIfDue remaining contents calls text (is_sweep_due joined.peers) joined swept
      → MatchResult r (λ _. AttendsAll remaining contents calls text swept c) (Stops remaining contents calls text swept c)
      → MatchResult r (λ _. TakesTurn remaining contents calls text a c) (Stops remaining contents calls text a c)
  turned a reported told joined swept c now (Ok x) (list, each) does joining sweeping attends = record {
    reports = list;
    now = now;
    reported = reported;
    told = told;
    joined = joined;
    swept = swept;
    reporting = each;
    telling = does;
    joining = joining;
    sweeping = sweeping;
    attending = attends;
  }
  turned a reported told joined swept c now (Err fault) each does joining sweeping stops =
      stops_after 1 a swept c fault
      (goes_trans 1 0 a joined swept (goes_trans 1 0 a told joined (told_time a reported told now each does) (taken_in_go 256 told joined joining)) (sweeping_goes (is_sweep_due joined.peers) joined swept sweeping)) stops

  -- ---- after a fault

  -- nothing is done
  left_so : (a : Scene S) (fault : ServeFault) → WindsUp fault a a
  left_so a serve_fault.Port = inr (stays_so a.server, refl)
  left_so a serve_fault.Address = inr (stays_so a.server, refl)
  left_so a serve_fault.Network = inr (stays_so a.server, refl)
  left_so a (serve_fault.Step f) = inr (stays_so a.server, refl)
  left_so a serve_fault.Trace = inr (stays_so a.server, refl)
  left_so a (serve_fault.Store f) = refl
  left_so a serve_fault.Memory = inr (stays_so a.server, refl)

  pub gives_up_so : (a c : Scene S) (fault : ServeFault) → Stops remaining contents calls text a c fault → GivesUp remaining contents calls text a c fault
  gives_up_so a c fault stops = (c, stops, left_so c fault)

  pub gives_up_after : (m : ℕ) (a b c : Scene S) (fault : ServeFault) → Goes remaining contents calls text m a b → GivesUp remaining contents calls text b c fault
      → GivesUp remaining contents calls text a c fault
  gives_up_after m a b c fault p (stopped, stops, winds) = (stopped, stops_after m a b stopped fault p stops, winds)

  -- some turns, and then the server is told to end
  pub to_the_end : {X : Type 0} (may_ask : Bool) (most : ℕ) (a b c : Scene S) (r : Result X ServeFault) → ((n : ℕ) × IsTurns may_ask most n × Turns remaining contents calls text n a b)
      → MatchResult r (λ _. HandsIn remaining contents calls text Shutdown b c) (GivesUp remaining contents calls text b c)
      → MatchResult r (λ _. ServesUntil remaining contents calls text may_ask most a c) (GivesUp remaining contents calls text a c)
  to_the_end may_ask most a b c (Ok x) (n, are, turns) hands = (n, are, (b, turns, hands))
  to_the_end may_ask most a b c (Err fault) (n, are, turns) gives = gives_up_after n a b c fault (turns_go n a b turns) gives

  -- the server was told to end, and what it sends then isn't written
  pub unwritten : (a b c : Scene S) (fault : ServeFault) → Takes text Shutdown a b → IsUnsent b c fault → GivesUp remaining contents calls text a c fault
  unwritten a b c serve_fault.Port takes h = absurd h
  unwritten a b c serve_fault.Address takes h = absurd h
  unwritten a b c serve_fault.Network takes h = absurd h
  unwritten a b c (serve_fault.Step f) takes h = absurd h
  unwritten a b c serve_fault.Trace takes h = absurd h
  unwritten a b c (serve_fault.Store f) takes unkept = (c, stops_at Shutdown a c (serve_fault.Store f) (refl, b, takes, unkept), refl)
  unwritten a b c serve_fault.Memory (x, steps, owed, events, puts, keys) kept =
      (b, stops_at Shutdown a b serve_fault.Memory (inr (refl, x, steps, puts)), inl kept)

  -- the server is told to end, and what it sends then is written
  pub ended : {X : Type 0} (a b c : Scene S) (r : Result X ServeFault) → Takes text Shutdown a b
      → MatchResult r (λ _. SendsOut remaining contents calls text b c) (IsUnsent b c)
      → MatchResult r (λ _. HandsIn remaining contents calls text Shutdown a c) (GivesUp remaining contents calls text a c)
  ended a b c (Ok x) takes sends = (b, takes, sends)
  ended a b c (Err fault) takes unsent = unwritten a b c fault takes unsent

  -- ---- an observer puts all into the writer that was lent to it

  expired_writer : (gone : Bool) (conn : ℕ) (a b : Scene S) → LetsExpire remaining contents calls text gone conn a b → b.output.writer ≡ a.output.writer
  expired_writer true conn a b (e, (server, events, output, keys)) = ap (λ (t : Output). t.writer) output
  expired_writer false conn a b (x, steps, owed, events, puts, keys) = puts.writer

  does_writer : (act : Happening) (a b : Scene S) → Does remaining contents calls text act a b → b.output.writer ≡ a.output.writer
  does_writer (Connects address key) a b (stream, left, drawn, room, (x, steps, owed, events, puts, keys)) = puts.writer
  does_writer (Reports conn readiness) a b (e, (server, events, output, keys)) = ap (λ (t : Output). t.writer) output
  does_writer (Gathers conns) a b (taken, e, (server, events, output, keys)) = ap (λ (t : Output). t.writer) output
  does_writer (Looks conn) a b (none, looked, (server, events, output, keys)) = ap (λ (t : Output). t.writer) output
  does_writer (Hears conn piece) a b (h, some, p, reads, (x, steps, owed, events, puts, keys)) = puts.writer
  does_writer (Waits conn) a b (h, other, reads, (server, events, output, keys)) = ap (λ (t : Output). t.writer) output
  does_writer Keeps a b (settles, e) = ap (λ (s : Scene S). s.output.writer) e
  does_writer Writes a b (none, wrote, (server, events, output, keys)) = ap (λ (t : Output). t.writer) output
  does_writer (Leaves conn) a b (over, (x, steps, owed, events, puts, keys)) = puts.writer
  does_writer (Drops conn) a b (done, e, (server, events, output, keys)) = ap (λ (t : Output). t.writer) output
  does_writer (Passes now) a b (x, steps, owed, events, puts, keys) = puts.writer
  does_writer Sweeps a b (due, e, (server, events, output, keys)) = ap (λ (t : Output). t.writer) output
  does_writer (Expires conn) a b (silent, lets) = expired_writer (is_gone_at a.peers conn) conn a b lets

  runs_writer : (acts : List Happening) (a b : Scene S) → Runs remaining contents calls text acts a b → b.output.writer ≡ a.output.writer
  runs_writer [] a b e = ap (λ (s : Scene S). s.output.writer) e
  runs_writer (act ∷ acts) a b (mid, d, p) = runs_writer acts mid b p ∙ does_writer act a mid d

  fails_writer : (event : Event) (a b : Scene S) (fault : ServeFault) → Fails text event a b fault → b.output.writer ≡ a.output.writer
  fails_writer event a b serve_fault.Port h = absurd h
  fails_writer event a b serve_fault.Address h = absurd h
  fails_writer event a b serve_fault.Network h = absurd h
  fails_writer event a b (serve_fault.Step f) (steps, output) = ap (λ (t : Output). t.writer) output
  fails_writer event a b serve_fault.Trace (x, steps, part) = part.puts.writer
  fails_writer event a b (serve_fault.Store f) (last, told, (x, steps, owed, events, puts, keys), unkept) = ap (λ (s : Scene S). s.output.writer) unkept.1 ∙ puts.writer
  fails_writer event a b serve_fault.Memory (inl (either, output)) = ap (λ (t : Output). t.writer) output
  fails_writer event a b serve_fault.Memory (inr (last, x, steps, puts)) = puts.writer

  stops_writer : (a b : Scene S) (fault : ServeFault) → Stops remaining contents calls text a b fault → b.output.writer ≡ a.output.writer
  stops_writer a b fault (n, mid, (acts, t, p), inl (h, server, output)) = ap (λ (t : Output). t.writer) output ∙ runs_writer acts a mid p
  stops_writer a b fault (n, mid, (acts, t, p), inr (inr (event, h))) = fails_writer event mid b fault h ∙ runs_writer acts a mid p
  stops_writer a b fault (n, mid, (acts, t, p), inr (inl (h, unkept))) = ap (λ (s : Scene S). s.output.writer) unkept.1 ∙ runs_writer acts a mid p

  kept_writer : (a b : Scene S) → IsKept a b ⊎ IsUnkept a b → b.output.writer ≡ a.output.writer
  kept_writer a b (inl (settles, e)) = ap (λ (s : Scene S). s.output.writer) e
  kept_writer a b (inr (stays, e)) = ap (λ (s : Scene S). s.output.writer) e

  wound_up_writer : (a b : Scene S) (fault : ServeFault) → WindsUp fault a b → b.output.writer ≡ a.output.writer
  wound_up_writer a b serve_fault.Port h = kept_writer a b h
  wound_up_writer a b serve_fault.Address h = kept_writer a b h
  wound_up_writer a b serve_fault.Network h = kept_writer a b h
  wound_up_writer a b (serve_fault.Step f) h = kept_writer a b h
  wound_up_writer a b serve_fault.Trace h = kept_writer a b h
  wound_up_writer a b (serve_fault.Store f) e = ap (λ (s : Scene S). s.output.writer) e
  wound_up_writer a b serve_fault.Memory h = kept_writer a b h

  gives_up_writer : (a b : Scene S) (fault : ServeFault) → GivesUp remaining contents calls text a b fault → b.output.writer ≡ a.output.writer
  gives_up_writer a b fault (stopped, stops, winds) = wound_up_writer stopped b fault winds ∙ stops_writer a stopped fault stops

  goes_writer : (turns : ℕ) (a b : Scene S) → Goes remaining contents calls text turns a b → b.output.writer ≡ a.output.writer
  goes_writer turns a b (acts, t, p) = runs_writer acts a b p

  pub run_writer : {X : Type 0} (may_ask : Bool) (most : ℕ) (a b : Scene S) (r : Result X ServeFault)
      → MatchResult r (λ _. ServesUntil remaining contents calls text may_ask most a b) (GivesUp remaining contents calls text a b) → b.output.writer ≡ a.output.writer
  run_writer may_ask most a b (Ok x) (turns, are, (mid, h, (told, (given, steps, owed, events, puts, keys), (kept, does, sends)))) =
      does_writer Writes kept b sends ∙ does_writer Keeps told kept does ∙ puts.writer ∙ goes_writer turns a mid (turns_go turns a mid h)
  run_writer may_ask most a b (Err fault) h = gives_up_writer a b fault h

-- a run, from a server that is known
pub ran : {X : Type 0} (text : EventText) (first server server' : Keeping) (old new : Sockets TcpStream) (output output' : Output) (may_ask : Bool) (most : ℕ) (r : Result X ServeFault) → server ≡ first
    → MatchResult r (λ _. ServesUntil unknown unknown uncounted text may_ask most (begun old server output) (begun new server' output'))
    (GivesUp unknown unknown uncounted text (begun old server output) (begun new server' output'))
    → MatchResult r (λ _. IsServed text old first may_ask most output output') (λ fault. IsStopped text old first fault output output')
ran text first server server' old new output output' may_ask most (Ok x) e h =
    (begun new server' output', refl, subst (λ (s : Keeping). ServesUntil unknown unknown uncounted text may_ask most (begun old s output) (begun new server' output')) e h)
ran text first server server' old new output output' may_ask most (Err fault) e h =
    (begun new server' output', refl, subst (λ (s : Keeping). GivesUp unknown unknown uncounted text (begun old s output) (begun new server' output') fault) e h)
