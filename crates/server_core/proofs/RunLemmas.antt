-- A run of events, one after the other.
use Rattle.std.proofs.Common.{◌≡◌, Bool, true, false, List, [], ◌∷◌, ◌++◌, map, Option, Some, None, Result, Ok, Err, refl, sym, ◌∙◌, ap, subst, append_assoc, append-nil}
use Rattle.std.specs.List.{list_any}
use Rattle.std.specs.Prelude.{◌||◌, is_ok}
use Rattle.std.proofs.lemmas.Bool.{false≢true}
use Rattle.ua_types.specs.Answers as answers
use Rattle.server_core.specs.declared.event.Event.{Event}
use Rattle.server_core.specs.declared.out.Step.{Step}
use Rattle.server_core.specs.declared.out.StepFault.{StepFault}
use Rattle.server_core.specs.declared.out.StepFault.TheVariants.{KnownConnection, UnknownConnection, Memory, Halted, Exhausted}
use Rattle.server_core.specs.Effects.{Effect, are_spent, shown}
use Rattle.server_core.specs.Stepping.{WorldStep, step_on, answer_by, server_by, StepsTo, IsSpent, IsUnspent}
use Rattle.server_core.specs.Running.{Running, Shown, running, run_after, then_run, run_of, shown_as, shown_run, BreaksOff, Spends, Runs}
use Rattle.server_core.specs.World.{World}

-- ---- a run of two lists of events

-- what comes next runs where the first had no fault
abbrev pub and_run_by : Running → Option StepFault → (Option World → Running) → Running
and_run_by r None more = run_after r.steps (more r.server)
and_run_by r (Some fault) more = r

abbrev pub and_run : Running → (Option World → Running) → Running
and_run r more = and_run_by r r.fault more

after_and : (effects : List Effect) (steps : List (List Effect)) (fault : Option StepFault) (server : Option World) (more : Option World → Running) →
    run_after (effects ∷ []) (and_run (running steps fault server) more) ≡ and_run (run_after (effects ∷ []) (running steps fault server)) more
after_and effects steps None server more = refl
after_and effects steps (Some fault) server more = refl

append_by : (server : Option World) (r : Result WorldStep StepFault) (both first : Option World → Running) (more : Option World → Running) → ((s : Option World) → both s ≡ and_run (first s) more) →
    then_run server r both ≡ and_run (then_run server r first) more
append_by server (Ok s) both first more f =
    let rest = first (Some s.world) in
    ap (run_after (s.effects ∷ [])) (f (Some s.world)) ∙ after_and s.effects rest.steps rest.fault rest.server more
append_by server (Err fault) both first more f = refl

pub run_of-append : (server : Option World) (xs ys : List Event) → run_of server (xs ++ ys) ≡ and_run (run_of server xs) (λ s. run_of s ys)
run_of-append server [] ys = refl
run_of-append server (x ∷ xs) ys =
    append_by server (step_on server x) (λ s. run_of s (xs ++ ys)) (λ s. run_of s xs) (λ s. run_of s ys) (λ s. run_of-append s xs ys)

-- ---- the code's run

-- these events have passed, and were answered thus
pub record Begun (old : Option World) (events left : List Event) (steps : List Step) (server : Option World) : Type 0 where
  pub passed : List Event
  pub split : events ≡ passed ++ left
  pub done : List (List Effect)
  pub ran : run_of old passed ≡ running done None server
  pub given : map shown done ≡ steps
  pub counted : list_any are_spent done ≡ false

pub begun : (old : Option World) (events : List Event) → Begun old events events [] old
begun old events = record { passed = []; split = refl; done = []; ran = refl; given = refl; counted = refl }

steps_more : (done : List (List Effect)) (effects : List Effect) → map shown (done ++ effects ∷ []) ≡ map shown done ++ shown effects ∷ []
steps_more [] effects = refl
steps_more (x ∷ done) effects = ap (λ (ss : List Step). shown x ∷ ss) (steps_more done effects)

neither_one : (a b : Bool) → a ≡ false → b ≡ false → (a || b) ≡ false
neither_one true b x y = absurd (false≢true (sym x))
neither_one false b x y = y

none_more : (done : List (List Effect)) (effects : List Effect) → list_any are_spent done ≡ false → are_spent effects ≡ false → list_any are_spent (done ++ effects ∷ []) ≡ false
none_more [] effects before none = neither_one (are_spent effects) false none refl
none_more (x ∷ done) effects before none = by (are_spent x) before (λ rest. none_more done effects rest none)
  where
    by : (b : Bool) → (b || list_any are_spent done) ≡ false → (list_any are_spent done ≡ false → list_any are_spent (done ++ effects ∷ []) ≡ false) → (b || list_any are_spent (done ++ effects ∷ [])) ≡ false
    by true e rest = absurd (false≢true (sym e))
    by false e rest = rest e

abbrev Answered : Type 0
Answered = answers.Step Step StepFault (Option World)

abbrev step_or : Step → Result Step StepFault → Step
step_or s (Ok t) = t
step_or s (Err f) = s

abbrev fault_or : StepFault → Result Step StepFault → StepFault
fault_or f (Ok t) = f
fault_or f (Err g) = g

module _ (old : Option World) (events : List Event) (event : Event) (left : List Event) (steps : List Step) (server : Option World) (b : Begun old events (event ∷ left) steps server) where
  -- the run of what has passed, and then of the event
  whole : (more : List Event) → run_of old (b.passed ++ event ∷ more) ≡ run_after b.done (then_run server (step_on server event) (λ s. run_of s more))
  whole more =
      run_of-append old b.passed (event ∷ more) ∙ ap (λ (r : Running). and_run r (λ s. run_of s (event ∷ more))) b.ran

  -- an event that was answered goes to those that have passed
  next_by : (r : Result WorldStep StepFault) → step_on server event ≡ r → (given : Step) (after : Option World) → answers.step (Ok given) after ≡ answers.step (answer_by r) (server_by server r) → IsUnspent r →
      Begun old events left (steps ++ given ∷ []) after
  next_by (Ok s) is given after e none = record {
    passed = b.passed ++ event ∷ [];
    split = b.split ∙ sym (append_assoc b.passed (event ∷ []) left);
    done = b.done ++ s.effects ∷ [];
    ran = whole []
        ∙ ap (λ (r : Result WorldStep StepFault). run_after b.done (then_run server r (λ s. run_of s []))) is
        ∙ ap (λ (x : Answered). running (b.done ++ s.effects ∷ []) None x.state) (sym e);
    given = steps_more b.done s.effects ∙ ap (λ (ss : List Step). ss ++ shown s.effects ∷ []) b.given
        ∙ sym (ap (λ (x : Answered). steps ++ step_or given x.answer ∷ []) e);
    counted = none_more b.done s.effects b.counted none;
  }
  next_by (Err f) is given after e none = absurd (false≢true (sym (ap (λ (x : Answered). is_ok x.answer) e)))

  pub next : (given : Step) (after : Option World) → StepsTo (Ok given) server after (step_on server event) → IsUnspent (step_on server event) → Begun old events left (steps ++ given ∷ []) after
  next given after e none = next_by (step_on server event) refl given after e none

  -- an event that was refused ends the run
  refused_by : (r : Result WorldStep StepFault) → step_on server event ≡ r → (fault : StepFault) (after : Option World) → answers.step (Err fault) after ≡ answers.step (answer_by r) (server_by server r) →
      shown_as steps (Some fault) after ≡ shown_run (run_of old events)
  refused_by (Ok s) is fault after e = absurd (false≢true (ap (λ (x : Answered). is_ok x.answer) e))
  refused_by (Err f) is fault after e =
      ap (λ (x : Answered). shown_as steps (Some (fault_or fault x.answer)) x.state) e
      ∙ ap (λ (ss : List Step). shown_as ss (Some f) server) (sym b.given)
      ∙ ap (λ (spends : Bool). let x : Shown = record (shown_as (map shown b.done) (Some f) server) { spends = spends } in x) (sym b.counted)
      ∙ ap (λ (ss : List (List Effect)). shown_run (running ss (Some f) server)) (sym (append-nil b.done))
      ∙ ap (λ (r : Result WorldStep StepFault). shown_run (run_after b.done (then_run server r (λ s. run_of s left)))) (sym is)
      ∙ ap shown_run (sym (whole left))
      ∙ ap (λ (es : List Event). shown_run (run_of old es)) (sym b.split)

  -- memory ran out at the event
  abbrev pub breaks : (after : Option World) → after ≡ None → BreaksOff old events steps after
  breaks after n = record {
    halted = n;
    passed = b.passed;
    event = event;
    left = left;
    split = b.split;
    no_fault = ap (λ (r : Running). r.fault) b.ran;
    shown = ap (λ (r : Running). map shown r.steps) b.ran ∙ b.given;
  }

  -- or the event would spend a serial
  spends : (after : Option World) → after ≡ None → IsSpent (step_on server event) → Spends old events steps after
  spends after n e = record {
    breaks = breaks after n;
    spent = subst (λ (s : Option World). IsSpent (step_on s event)) (sym (ap (λ (r : Running). r.server) b.ran)) e;
  }

  pub ends : (fault : StepFault) (after : Option World) → StepsTo (Err fault) server after (step_on server event) → Runs (Some fault) steps old events after
  ends Memory after e = breaks after e
  ends Exhausted after e = spends after e.0 e.1
  ends KnownConnection after e = refused_by (step_on server event) refl KnownConnection after e
  ends UnknownConnection after e = refused_by (step_on server event) refl UnknownConnection after e
  ends Halted after e = refused_by (step_on server event) refl Halted after e

pub ran_out : (old : Option World) (events : List Event) (steps : List Step) (server : Option World) → Begun old events [] steps server → Runs None steps old events server
ran_out old events steps server b =
    ap (λ (ss : List Step). shown_as ss None server) (sym b.given)
    ∙ ap (λ (spends : Bool). let x : Shown = record (shown_as (map shown b.done) None server) { spends = spends } in x) (sym b.counted)
    ∙ ap shown_run (sym b.ran)
    ∙ ap (λ (es : List Event). shown_run (run_of old es)) (sym (append-nil b.passed) ∙ sym b.split)
