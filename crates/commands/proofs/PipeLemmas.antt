-- What `pipe` comes to.
use Rattle.std.proofs.Common.{◌≡◌, ℕ, List, [], ◌∷◌, Option, Result, Ok, Err, MatchResult, is_ok, inl, sym, ap}
use Rattle.std.proofs.lemmas.Bool.{false≢true}
use Rattle.ua_types.specs.Answers as answers
use Rattle.stream_taps.specs.Tapped.{Tapped}
use Rattle.server_core.specs.Running.{run_of, then_run}
use Rattle.server_core.specs.Stepping.{WorldStep, StepsTo, step_on, answer_by, server_by}
use Rattle.server_core.specs.declared.event.Event.{Event}
use Rattle.server_core.specs.declared.out.Step.{Step}
use Rattle.server_core.specs.declared.out.StepFault.{StepFault}
use Rattle.stream_server.specs.Pumped as pump
use Rattle.stream_server.specs.Pumped.{State, scene}
use Rattle.stream_server.specs.declared.PumpFault.{PumpFault}
use Rattle.stream_server.specs.declared.PumpFault.TheVariants as fault
use Rattle.commands.specs.Commands.{opened, status_of, Pipes}
use Rattle.commands.specs.NodeFiles.{Made}

-- ---- one event

abbrev Answer : Type 0
Answer = answers.Step Step StepFault State

stepped_by : (old new : State) (x : Step) (r : Result WorldStep StepFault) → answers.step (Ok x) new ≡ answers.step (answer_by r) (server_by old r) → new ≡ (then_run old r (λ s. run_of s [])).server
stepped_by old new x (Ok s) e = ap (λ (y : Answer). y.state) e
stepped_by old new x (Err f) e = absurd (false≢true (sym (ap (λ (y : Answer). is_ok y.answer) e)))

-- the server after an event that it answers is that of a run of it
pub stepped : (old new : State) (x : Step) (event : Event) → StepsTo (Ok x) old new (step_on old event) → new ≡ (run_of old (event ∷ [])).server
stepped old new x event e = stepped_by old new x (step_on old event) e

-- ---- a run of the pump

module _ {R W : Type 0} (remaining : R → Option (List ℕ)) (contents : W → Option (List ℕ)) (input input' : Tapped R) (output output' : Tapped W) (made : Made) (server : State) (sent : ℕ) where
  abbrev Old : pump.Scene
  Old = scene remaining contents 0 (opened made) input output

  abbrev New : pump.Scene
  New = scene remaining contents sent server input' output'

  pub piped : (r : Result (Unit {0}) PumpFault) → MatchResult r (λ x. pump.Done 1 Old New) (pump.Stopped 1 Old New) → Pipes remaining contents input input' output output' made (status_of r)
  piped (Ok x) h = (server, sent, h)
  piped (Err (fault.Step f)) h = inl (f, (server, sent, h))
  piped (Err fault.Read) h = (fault.Read, tt, (server, sent, h))
  piped (Err fault.Write) h = (fault.Write, tt, (server, sent, h))
  piped (Err fault.Turns) h = (fault.Turns, tt, (server, sent, h))
