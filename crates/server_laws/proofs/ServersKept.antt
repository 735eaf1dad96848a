-- What each call of the sessions and the histories keeps, and each tick, holds whatever happens to a server.
use Rattle.std.proofs.Common.{◌≡◌, List, Option, Some, None, sym, ap, subst, ◌∙◌}
use Rattle.ua_types.specs.Configuration.{Configuration}
use Rattle.ua_types.specs.Moments.{later}
use Rattle.ua_types.specs.declared.moment.Moment.{Moment}
use Rattle.server_messages.specs.declared.request.Request.{Request}
use Rattle.server_messages.specs.declared.setting.Setting.{Setting}
use Rattle.ua_history.specs.Histories.{HistoryState}
use Rattle.ua_session.specs.Sessions.{SessionsState, ticked}
use Rattle.ua_space.specs.Nodes.{SpaceState}
use Rattle.ua_services.specs.Services.{serving_of, ticking_of}
use Rattle.ua_services.specs.declared.services.Services.{Services}
use Rattle.server_core.specs.Coherent.{reached, IfRuns}
use Rattle.server_core.specs.Effects.{Effect}
use Rattle.server_core.specs.Handling.{setting_at}
use Rattle.server_core.specs.declared.event.Event.{Event}
use Rattle.server_core.specs.declared.parts.Core.{Core}
use Rattle.server_core.specs.declared.world.World.{World}
use Rattle.server_core.specs.World.{opening}
use Rattle.server_laws.specs.Dealings.{Dealing}
use Rattle.server_laws.proofs.ServicesKept.{AreKept, serving_keeps, ticking_keeps, shutting_keeps}
use Rattle.server_laws.proofs.Walking.{Follows, seen, walked}

module _ (config : Configuration) (P : Moment → SessionsState → Type 0) (H : HistoryState → Type 0) (k : (clock : Moment) → AreKept (P clock) H)
    (tick : (clock brought : Moment) (s : SessionsState) → P clock s → P (later clock brought) (ticked s (later clock brought))) where
  -- at the clock that the services are handed
  pub record Holds (core : Core) : Type 0 where
    pub config_is : core.setting.config ≡ config
    pub sessions : let services : Services = core.services in P core.setting.clock services.sessions
    pub history : let services : Services = core.services in H services.history

  pub request_holds : (core : Core) → Holds core → (request : Request) → let s = serving_of core.setting request core.services in P core.setting.clock s.state.sessions × H s.state.history
  request_holds core h request = serving_keeps (P core.setting.clock) H (k core.setting.clock) core.setting request core.services (h.sessions, h.history)

  pub tick_holds : (core : Core) → Holds core → (brought : Moment) → let s = ticking_of (setting_at core (later core.setting.clock brought)) core.services in P (later core.setting.clock brought) s.state.sessions × H s.state.history
  tick_holds core h brought =
      let now = later core.setting.clock brought in
      ticking_keeps (P now) H (k now) (setting_at core now) core.services (tick core.setting.clock brought core.services.sessions h.sessions) h.history

  abbrev Keeps : Core → List Dealing → List Effect → Core → Type 0
  Keeps before ds effects after = Holds before → Holds after

  follows : Follows Keeps
  follows = record {
    none = λ core h. h;
    next = λ a b c ds es xs ys f g h. g (f h);
    aside = λ a b outs set h. record {
      config_is = ap (λ (s : Setting). s.config) set.setting ∙ h.config_is;
      sessions = subst (λ (s : Setting). P s.clock b.services.sessions) (sym set.setting) (subst (λ (services : Services). P a.setting.clock services.sessions) (sym set.services) h.sessions);
      history = subst (λ (services : Services). H services.history) (sym set.services) h.history;
    };
    serves = λ core request h. let after = request_holds core h request in record { config_is = h.config_is; sessions = after.0; history = after.1 };
    ticks = λ core brought h. let after = tick_holds core h brought in record { config_is = h.config_is; sessions = after.0; history = after.1 };
    forgets = λ core conn h. record { config_is = h.config_is; sessions = h.sessions; history = h.history };
    ends = λ core h.
        let after = shutting_keeps (P core.setting.clock) H (k core.setting.clock) core.setting core.services (h.sessions, h.history) in
        record { config_is = h.config_is; sessions = after.0; history = after.1 };
  }

  pub all_hold : (space : SpaceState) (events : List Event) → Holds (opening config space).core → IfRuns (λ (world : World). Holds world.core) (reached config space events).server
  all_hold space events h = let gone = walked Keeps follows config space events in seen gone (λ (world : World). Holds world.core) (gone.goes h)

-- what follows for a server that runs
pub if_runs : (P Q : World → Type 0) → ((world : World) → P world → Q world) → (server : Option World) → IfRuns P server → IfRuns Q server
if_runs P Q f None p = tt
if_runs P Q f (Some world) p = f world p
