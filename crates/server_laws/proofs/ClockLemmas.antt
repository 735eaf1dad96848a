-- The clock that the services are handed is the clock of the sessions.
use Rattle.std.proofs.Common.{◌≡◌, ℕ, Bool, true, false, cond, List, Option, Some, None, Ok, refl, ap, ◌∙◌}
use Rattle.std.specs.Prelude.{⊤, not, ◌==◌, ◌&&◌, int_lt}
use Rattle.std.specs.FinMap.{remove}
use Rattle.ua_types.specs.Configuration.{Configuration}
use Rattle.ua_types.specs.Moments.{later}
use Rattle.ua_types.specs.declared.moment.Moment.{Moment}
use Rattle.ua_types.specs.declared.node_id.NodeId.{NodeId}
use Rattle.ua_types.specs.declared.status.TheConstants.Status as status
use Rattle.ua_session.specs.Sessions.{SessionsState, Named, named, create_of, find_of, activate_of, close_of, is_full, refused, found, used, activated, moved, closed, next_nonce, with_nonce, with_new_session, new_session, ticked}
use Rattle.ua_session.specs.Sessions as sessions
use Rattle.ua_history.specs.Histories.{HistoryState}
use Rattle.ua_space.specs.Nodes.{SpaceState}
use Rattle.server_core.specs.Coherent.{reached, IfRuns}
use Rattle.server_core.specs.declared.event.Event.{Event}
use Rattle.server_core.specs.declared.world.World.{World}
use Rattle.server_laws.specs.Bounds.{HasOneClock, KeepsItsConfiguration}
use Rattle.server_laws.proofs.ServicesKept.{AreKept}
use Rattle.server_laws.proofs.ServersKept.{Holds, request_holds, tick_holds, all_hold, if_runs}

pub later_again : (a b : Moment) → later a (later a b) ≡ later a b
later_again a b = by (int_lt a.0 b.0) refl
  where
    by : (before : Bool) → int_lt a.0 b.0 ≡ before → later a (cond before b a) ≡ cond before b a
    by true is = ap (λ (x : Bool). cond x b a) is
    by false is = same (int_lt a.0 a.0)
      where
        same : (x : Bool) → cond x a a ≡ a
        same true = refl
        same false = refl

abbrev Shows : Moment → SessionsState → Type 0
Shows clock s = s.clock ≡ clock

module _ (clock : Moment) where
  created_clock : (s : SessionsState) (conn : ℕ) (key : List ℕ) → s.clock ≡ clock → (create_of s conn key).state.clock ≡ clock
  unfolding create_of
  created_clock s conn key h = by (is_full s)
    where
      by : (full : Bool) → (cond full (refused s status.BAD_TOO_MANY_SESSIONS) (record { answer = Ok (sessions.created s conn key); state = with_nonce (with_new_session s (new_session s conn key)) })).state.clock ≡ clock
      by true = h
      by false = h

  found_clock : (s : SessionsState) (token : NodeId) (conn : ℕ) → s.clock ≡ clock → (find_of s token conn).state.clock ≡ clock
  unfolding find_of
  found_clock s token conn h = by (named s token)
    where
      by : (o : Option Named) → (found s conn o).state.clock ≡ clock
      by None = h
      by (Some n) = which (not (n.session.conn == conn)) (not n.session.is_activated)
        where
          which : (a b : Bool) → (cond a (refused s status.BAD_SECURE_CHANNEL_ID_INVALID) (cond b (refused s status.BAD_SESSION_NOT_ACTIVATED) (record { answer = Ok n.number; state = used s n }))).state.clock ≡ clock
          which true b = h
          which false true = h
          which false false = h

  activated_clock : (s : SessionsState) (token : NodeId) (conn : ℕ) (key : List ℕ) (is_anonymous : Bool) → s.clock ≡ clock → (activate_of s token conn key is_anonymous).state.clock ≡ clock
  unfolding activate_of
  activated_clock s token conn key is_anonymous h = by (named s token)
    where
      by : (o : Option Named) → (activated s conn key is_anonymous o).state.clock ≡ clock
      by None = h
      by (Some n) = which (not (n.session.conn == conn) && not n.session.is_activated) (not is_anonymous)
        where
          which : (a b : Bool) → (cond a (refused s status.BAD_SECURE_CHANNEL_ID_INVALID) (cond b (refused s status.BAD_IDENTITY_TOKEN_REJECTED) (record { answer = Ok (next_nonce s key); state = with_nonce (moved s n conn) }))).state.clock ≡ clock
          which true b = h
          which false true = h
          which false false = h

  closed_clock : (s : SessionsState) (token : NodeId) (conn : ℕ) → s.clock ≡ clock → (close_of s token conn).state.clock ≡ clock
  unfolding close_of
  closed_clock s token conn h = by (named s token)
    where
      by : (o : Option Named) → (closed s conn o).state.clock ≡ clock
      by None = h
      by (Some n) = which (not (n.session.conn == conn))
        where
          which : (a : Bool) → (cond a (refused {A = ℕ} s status.BAD_SECURE_CHANNEL_ID_INVALID) (record { answer = Ok n.number; state = record s { sessions = remove s.sessions n.number; points = remove s.points n.number } })).state.clock ≡ clock
          which true = h
          which false = h

  clocks_kept : AreKept (Shows clock) (λ (h : HistoryState). ⊤)
  clocks_kept = record {
    created = created_clock;
    found = found_clock;
    activated = activated_clock;
    closed = closed_clock;
    ended = λ s h. h;
    browsed = λ space size session descriptions s h. h;
    went_on = λ space is_release session named s h. h;
    read = λ history nodes wanted session asked s h. h;
    kept = λ nodes h changes p. tt;
  }

tick_clock : (clock brought : Moment) (s : SessionsState) → s.clock ≡ clock → (ticked s (later clock brought)).clock ≡ later clock brought
tick_clock clock brought s h = ap (λ (c : Moment). later c (later clock brought)) h ∙ later_again clock brought

module _ (config : Configuration) (space : SpaceState) (events : List Event) where
  abbrev Runs : World → Type 0
  Runs world = Holds config Shows (λ (h : HistoryState). ⊤) clocks_kept tick_clock world.core

  runs : IfRuns Runs (reached config space events).server
  runs = all_hold config Shows (λ (h : HistoryState). ⊤) clocks_kept tick_clock space events (record { config_is = refl; sessions = refl; history = tt })

  one_clock : (world : World) → Runs world → HasOneClock world
  one_clock world h = record {
    now = h.sessions;
    requests = λ request. (request_holds config Shows (λ (x : HistoryState). ⊤) clocks_kept tick_clock world.core h request).0;
    ticks = λ brought. (tick_holds config Shows (λ (x : HistoryState). ⊤) clocks_kept tick_clock world.core h brought).0;
  }

  pub has_one_clock : IfRuns HasOneClock (reached config space events).server
  has_one_clock = if_runs Runs HasOneClock one_clock (reached config space events).server runs

  pub keeps_its_configuration : IfRuns (KeepsItsConfiguration config) (reached config space events).server
  keeps_its_configuration = if_runs Runs (KeepsItsConfiguration config) (λ world h. h.config_is) (reached config space events).server runs
