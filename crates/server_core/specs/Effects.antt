-- What an event does beside changing the world.
use Rattle.std.specs.Prelude.{Bool, false, List, [], ◌∷◌, ◌++◌, map}
use Rattle.std.specs.List.{list_any}
use Rattle.server_messages.specs.declared.fired.Fired.{Fired}
use Rattle.server_messages.specs.declared.reply.Reply.{Reply}
use Rattle.server_messages.specs.declared.out.Out.{Out}
use Rattle.server_messages.specs.declared.stored.Stored.{Stored}
use Rattle.server_connections.specs.Delivering.{Delivery}
use Rattle.ua_services.specs.Serving.{Occurrence, Fire, Store, Spent, is_spent}
use Rattle.server_core.specs.declared.out.Step.{Step}

-- An out is to be done. The others are said of the server beside: what a service did beside its replies, and a reply whose
-- connection was not open, which the law `loses_no_reply` shows never to come
pub data Effect : Type 0 where
  Do : Out → Effect
  Occurred : Occurrence → Effect
  Lost : Reply → Effect

abbrev pub doing : List Out → List Effect
doing outs = map Do outs

abbrev pub occurring : List Occurrence → List Effect
occurring occurrences = map Occurred occurrences

abbrev pub losing : List Reply → List Effect
losing replies = map Lost replies

-- what is served, and what is sent of it
abbrev pub effects_of : List Occurrence → Delivery → List Effect
effects_of occurrences d = occurring occurrences ++ (doing d.outs ++ losing d.lost)

-- ---- projections

abbrev pub outs_of : List Effect → List Out
outs_of [] = []
outs_of (Do out ∷ effects) = out ∷ outs_of effects
outs_of (Occurred occurrence ∷ effects) = outs_of effects
outs_of (Lost reply ∷ effects) = outs_of effects

-- the rows of the subscriptions' state table that fired
abbrev pub fired_of : List Effect → List Fired
fired_of [] = []
fired_of (Do out ∷ effects) = fired_of effects
fired_of (Occurred (Fire fired) ∷ effects) = fired ∷ fired_of effects
fired_of (Occurred (Store stored) ∷ effects) = fired_of effects
fired_of (Occurred Spent ∷ effects) = fired_of effects
fired_of (Lost reply ∷ effects) = fired_of effects

-- what a store has to keep
abbrev pub stored_of : List Effect → List Stored
stored_of [] = []
stored_of (Do out ∷ effects) = stored_of effects
stored_of (Occurred (Fire fired) ∷ effects) = stored_of effects
stored_of (Occurred (Store stored) ∷ effects) = stored ∷ stored_of effects
stored_of (Occurred Spent ∷ effects) = stored_of effects
stored_of (Lost reply ∷ effects) = stored_of effects

abbrev pub is_spending : Effect → Bool
is_spending (Occurred occurrence) = is_spent occurrence
is_spending effect = false

-- a serial of 64 bits has passed its last value
abbrev pub are_spent : List Effect → Bool
are_spent effects = list_any is_spending effects

-- ---- what the code gives of them

abbrev pub step : List Out → List Fired → List Stored → Step
step outs rows stored = record { outs = outs; rows = rows; stored = stored }

-- nothing is to be done
abbrev pub no_step : Step
no_step = step [] [] []

abbrev pub shown : List Effect → Step
shown effects = step (outs_of effects) (fired_of effects) (stored_of effects)

-- behind what was given before
abbrev pub after_step : Step → List Effect → Step
after_step before effects = step (before.outs ++ outs_of effects) (before.rows ++ fired_of effects) (before.stored ++ stored_of effects)
