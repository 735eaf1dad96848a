-- What each call of the sessions and the histories keeps, every service keeps, and every tick that brings no other time.
use Rattle.std.proofs.Common.{ℕ, Bool, List, Option}
use Rattle.ua_types.specs.declared.node_id.NodeId.{NodeId}
use Rattle.server_messages.specs.declared.request.Request.{Request}
use Rattle.server_messages.specs.declared.setting.Setting.{Setting}
use Rattle.ua_service_messages.specs.declared.browsing.BrowseDescription.{BrowseDescription}
use Rattle.ua_service_messages.specs.declared.history.HistoryReadValueId.{HistoryReadValueId}
use Rattle.ua_read_write.specs.Writing.{write_of}
use Rattle.ua_read_write.specs.declared.writing.Change.{Change}
use Rattle.ua_browse.specs.Browsing.{browse_of}
use Rattle.ua_history.specs.Histories.{HistoryState}
use Rattle.ua_session.specs.Sessions.{SessionsState, create_of, find_of, activate_of, close_of, points_of, with_points, ticked, all_ended}
use Rattle.ua_space.specs.Nodes.{Nodes, SpaceState}
use Rattle.ua_services.specs.BrowseNext.{go_on_of}
use Rattle.ua_services.specs.BrowseResults.{browse_told}
use Rattle.ua_services.specs.HistoryRead.{node_read}
use Rattle.ua_services.specs.Paging.{all_done}
use Rattle.ua_services.specs.Services.{serving_of, ticking_of, shutting_of}
use Rattle.ua_services.specs.Serving.{Serving}
use Rattle.ua_services.specs.Write.{all_kept}
use Rattle.ua_services.specs.declared.history_read.Wanted.{Wanted}
use Rattle.ua_services.specs.declared.services.Services.{Services}
use Rattle.subscription_laws.specs.Runs.{Move}
use Rattle.server_laws.proofs.WalkingServices.{SessionStep, sessions_after, FollowsServices, served, ticking, shutting}

-- what the calls of the sessions and the histories keep
pub record AreKept (P : SessionsState → Type 0) (H : HistoryState → Type 0) : Type 0 where
  pub created : (s : SessionsState) (conn : ℕ) (key : List ℕ) → P s → P (create_of s conn key).state
  pub found : (s : SessionsState) (token : NodeId) (conn : ℕ) → P s → P (find_of s token conn).state
  pub activated : (s : SessionsState) (token : NodeId) (conn : ℕ) (key : List ℕ) (is_anonymous : Bool) → P s → P (activate_of s token conn key is_anonymous).state
  pub closed : (s : SessionsState) (token : NodeId) (conn : ℕ) → P s → P (close_of s token conn).state
  pub ended : (s : SessionsState) → P s → P (all_ended s)
  pub browsed : (space : SpaceState) (size session : ℕ) (descriptions : List BrowseDescription) (s : SessionsState) → P s →
      P (with_points s session (all_done (λ points d. browse_told (browse_of space points size d)) (points_of s session) descriptions).points)
  pub went_on : (space : SpaceState) (is_release : Bool) (session : ℕ) (named : List (Option (List ℕ))) (s : SessionsState) → P s →
      P (with_points s session (all_done (λ points bytes. browse_told (go_on_of space is_release points bytes)) (points_of s session) named).points)
  pub read : (history : HistoryState) (nodes : Nodes) (wanted : Wanted) (session : ℕ) (asked : List HistoryReadValueId) (s : SessionsState) → P s →
      P (with_points s session (all_done (λ points x. node_read history nodes wanted points x) (points_of s session) asked).points)
  pub kept : (nodes : Nodes) (h : HistoryState) (changes : List Change) → H h → H (all_kept nodes h changes)

module _ (P : SessionsState → Type 0) (H : HistoryState → Type 0) (k : AreKept P H) where
  abbrev pub Keeps : Services → Type 0
  Keeps state = P state.sessions × H state.history

  step_keeps : (state : Services) (step : SessionStep) → Keeps state → P (sessions_after state step)
  step_keeps state (SessionStep.Create conn key) p = k.created state.sessions conn key p.0
  step_keeps state (SessionStep.Find token conn) p = k.found state.sessions token conn p.0
  step_keeps state (SessionStep.Activate token conn key is_anonymous) p = k.activated state.sessions token conn key is_anonymous p.0
  step_keeps state (SessionStep.Close token conn) p = k.closed state.sessions token conn p.0
  step_keeps state (SessionStep.Browse size session descriptions) p = k.browsed state.space size session descriptions state.sessions p.0
  step_keeps state (SessionStep.GoOn is_release session named) p = k.went_on state.space is_release session named state.sessions p.0
  step_keeps state (SessionStep.ReadHistory wanted session asked) p = k.read state.history state.space.nodes wanted session asked state.sessions p.0

  abbrev Goes : Services → List Move → Serving → Type 0
  Goes before moves s = Keeps before → Keeps s.state

  follows : (setting : Setting) → FollowsServices setting Goes
  follows setting = record {
    still = λ state replies spends is_refused p. p;
    steps = λ state step moves s g p. g (step_keeps state step p, p.1);
    calls = λ A state own s move e p. p;
    next = λ state moves later s more g h p. h (g p);
    ends = λ state moves s g p. let q = g p in (k.ended s.state.sessions q.0, q.1);
  }

  pub serving_keeps : (setting : Setting) (request : Request) (state : Services) → Keeps state → Keeps (serving_of setting request state).state
  serving_keeps setting =
      served setting Goes (follows setting) (λ caller at values p. let writing = write_of setting.clock at.space.nodes values in (p.0, k.kept writing.nodes at.history writing.changed p.1))

  -- once all sessions have ended
  pub shutting_keeps : (setting : Setting) (state : Services) → Keeps state → Keeps (shutting_of setting state).state
  shutting_keeps setting = shutting setting Goes (follows setting)

  -- once the sessions were told the time
  pub ticking_keeps : (setting : Setting) (state : Services) → P (ticked state.sessions setting.clock) → H state.history → Keeps (ticking_of setting state).state
  ticking_keeps setting state p q = ticking setting Goes (follows setting) state (p, q)
