-- A server, and who keeps what it stores.
use Rattle.std.specs.Prelude.{◌≡◌, ⊤, List, [], ◌∷◌, ◌++◌, Option, Result, Ok, Err}
use Rattle.server_messages.specs.Kept as store
use Rattle.server_messages.specs.Kept.{Kept}
use Rattle.server_messages.specs.declared.stored.Stored.{Stored}
use Rattle.server_core.specs.World.{world_of}
use Rattle.server_core.specs.Stepping.{step_on, StepsTo}
use Rattle.server_core.specs.declared.world.World.{World}
use Rattle.server_core.specs.declared.event.Event.{Event}
use Rattle.server_core.specs.declared.out.Step.{Step}
use Rattle.server_core.specs.declared.out.StepFault.{StepFault}
use Rattle.socket_server.specs.declared.kept_server.Answer.{Answer}
use Rattle.socket_server.specs.declared.kept_server.KeptServer.{KeptServer}
use Rattle.socket_server.specs.declared.serve_fault.ServeFault.{ServeFault}
use Rattle.socket_server.specs.declared.serve_fault.ServeFault.TheVariants as serve_fault

-- What a server knows, or none once it is halted; what it stored that waits to be kept, in order; and what is kept, where that is known
pub record Keeping : Type 0 where
  pub world : Option World
  pub waiting : List Stored
  pub kept : Option Kept

-- nothing waits to be kept
abbrev pub keeping_all : Option World → Option Kept → Keeping
keeping_all world kept = record { world = world; waiting = []; kept = kept }

abbrev pub keeping : {K : Type 0} → (K → Option Kept) → KeptServer K → Keeping
keeping kept s = record { world = world_of s.server; waiting = s.waiting.items; kept = kept s.keeper }

-- The server gives this answer to an event. These wait to be kept then, behind those that wait already
abbrev pub AnswersWith : List Stored → Event → Step → Keeping → Keeping → Type 0
AnswersWith stored event x old new =
    StepsTo (Ok x) old.world new.world (step_on old.world event) × (new.waiting ≡ old.waiting ++ stored) × (new.kept ≡ old.kept)

-- all that it stored at the event
abbrev pub Answers : Event → Step → Keeping → Keeping → Type 0
Answers event x old new = AnswersWith x.stored event x old new

-- none of it: the answer is lost
abbrev pub LosesAnswer : Event → Keeping → Keeping → Type 0
LosesAnswer event old new = (x : Step) × AnswersWith [] event x old new

-- the server doesn't answer an event, and nothing else happens
abbrev pub Refuses : Event → Keeping → Keeping → StepFault → Type 0
Refuses event old new fault = StepsTo (Err fault) old.world new.world (step_on old.world event) × (new.waiting ≡ old.waiting) × (new.kept ≡ old.kept)

-- An event is answered, and what was stored at it waits to be kept. Or the server doesn't answer it; or there is no memory for what waits
abbrev pub Steps : Event → Keeping → Keeping → Result Answer ServeFault → Type 0
Steps event old new (Ok a) = (x : Step) × Answers event x old new × (a.outs ≡ x.outs) × (a.rows ≡ x.rows)
Steps event old new (Err (serve_fault.Step fault)) = Refuses event old new fault
Steps event old new (Err serve_fault.Memory) = LosesAnswer event old new
Steps event old new (Err fault) = ⊥

abbrev pub SettlesBy : List Stored → Keeping → Keeping → Type 0
SettlesBy [] old new = new ≡ old
SettlesBy (s ∷ ss) old new = store.Keeps (s ∷ ss) old.kept new.kept × (new ≡ keeping_all old.world new.kept)

-- All that waits is kept, in order, and nothing waits then. Where nothing waits nothing is done
abbrev pub Settles : Keeping → Keeping → Type 0
Settles old new = SettlesBy old.waiting old new

-- it can't be kept, and waits still; nothing more is kept, where that is known
abbrev pub StaysUnkept : Keeping → Keeping → Type 0
StaysUnkept old new = store.Keeps [] old.kept new.kept × (new ≡ record old { kept = new.kept })

-- a fault of the store
abbrev pub IsOfStore : ServeFault → Type 0
IsOfStore (serve_fault.Store fault) = ⊤
IsOfStore fault = ⊥

abbrev pub SettlesOr : Keeping → Keeping → {X : Type 0} → Result X ServeFault → Type 0
SettlesOr old new (Ok x) = Settles old new
SettlesOr old new (Err fault) = IsOfStore fault × StaysUnkept old new
