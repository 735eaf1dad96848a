-- Which subscriptions a call concerns, and what comes to each (IEC 62541-4, 5.13: the events of the state table).
use Rattle.std.specs.Prelude.{◌≡◌, ℕ, List, [], ◌∷◌, map}
use Rattle.std.specs.List.{flat_map}
use Rattle.ua_types.specs.Configuration.{Configuration}
use Rattle.server_messages.specs.declared.fired.Fired.{Fired}
use Rattle.ua_state_table.specs.declared.event.TableEvent.{TableEvent}
use Rattle.ua_state_table.specs.declared.vars.Vars.{Vars}
use Rattle.ua_subscriptions.specs.Calls.{event_of}
use Rattle.ua_subscriptions.specs.Firing.{before_of}
use Rattle.ua_subscriptions.specs.Scenes.{Scene}
use Rattle.subscription_laws.specs.Encounters.{Encounter, Meets, Does, encounters}
use Rattle.subscription_laws.specs.Runs.{Move, Ran, start, of_run}

-- a subscription, what comes to it, and the variables at which it is met
pub record Concern : Type 0 where
  pub subscription : ℕ
  pub event : TableEvent
  pub before : Vars

abbrev pub concern : ℕ → TableEvent → Vars → Concern
concern number event before = record { subscription = number; event = event; before = before }

abbrev pub subscription_of : Concern → ℕ
subscription_of c = c.subscription

-- what a row that fired tells of it
abbrev pub concern_of : Fired → Concern
concern_of f = concern f.subscription f.event f.before

-- that of a scene
abbrev pub concern_in : Scene → Concern
concern_in c = concern c.round.own (event_of c.round.call) (before_of c)

-- those of an encounter
abbrev pub concerns_at : Encounter → List Concern
concerns_at (Meets c) = concern_in c ∷ []
concerns_at (Does w b) = []

-- what a call concerns. What was asked of the items of a subscription concerns that one as it was before it
abbrev pub concerned : Ran → Move → List Concern
concerned r m = flat_map concerns_at (encounters r m)

-- what all calls concern, from the first on
abbrev pub all_concerned : Configuration → List Move → List Concern
all_concerned config moves = of_run concerned (start config) moves

-- one row fires for each of these, in their order, and no other
abbrev pub AreTheRowsFor : List Concern → List Fired → Type 0
AreTheRowsFor concerns rows = map concern_of rows ≡ concerns
