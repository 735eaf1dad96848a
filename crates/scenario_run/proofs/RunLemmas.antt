-- Runs whose steps are printed.
use Rattle.std.proofs.Common.{◌≡◌, ◌≢◌, ◌∙◌, ℕ, ◌+◌, ◌<◌, false, List, [], ◌∷◌, ◌++◌, length, drop, get_or, Option, Some, None, Result, Ok, Err, arith, refl, sym, ap, subst, append_assoc, append-nil}
use Rattle.std.proofs.lemmas.Bool.{false≢true}
use Rattle.std.proofs.lemmas.List.{drop_more, length-append}
use Rattle.server_core.specs.Running.{Runs}
use Rattle.server_core.specs.Stepping.{StepsTo, IsUnspent, step_on}
use Rattle.server_core.specs.declared.world.World.{World}
use Rattle.server_core.specs.declared.event.Event.{Event}
use Rattle.server_core.specs.declared.out.Step.{Step}
use Rattle.server_core.specs.declared.out.StepFault.{StepFault}
use Rattle.server_core.proofs.RunLemmas.{Begun, begun, next, ends, ran_out}
use Rattle.scenario_run.specs.Held.{Place, Printed, CutShort, Holds}
use Rattle.scenario_run.specs.Runs.{RunPrinted, MayFailBehind, fault_of, is_cut_short, step_lines, lines_from, lines_of}
use Rattle.scenario_run.specs.declared.held.PrintFault.{PrintFault}
use Rattle.scenario_run.specs.declared.held.PrintFault.TheVariants as print
use Rattle.scenario_run.specs.declared.runs.Lines.{Lines}
use Rattle.scenario_run.specs.declared.runs.Lines.TheVariants.{Outs, Rows}
use Rattle.scenario_run.specs.declared.runs.RunFault.{RunFault}
use Rattle.scenario_run.specs.declared.runs.RunFault.TheVariants.{Write, Memory, Step as Unanswered}
use Rattle.scenario_run.proofs.HeldLemmas.{none_out, then_printed, then_cut, then_out, then_broken, cut_longer}

-- ---- the lines of steps

lines_append : (lines : Lines) (n : ℕ) (a b : List Step) → lines_from lines n (a ++ b) ≡ lines_from lines n a ++ lines_from lines (n + length a) b
lines_append lines n [] b = ap (λ (m : ℕ). lines_from lines m b) (omega arith)
lines_append lines n (x ∷ a) b =
    ap (λ (t : List ℕ). step_lines lines n x ++ t) (lines_append lines (n + 1) a b)
    ∙ sym (append_assoc (step_lines lines n x) (lines_from lines (n + 1) a) (lines_from lines (n + 1 + length a) b))
    ∙ ap (λ (m : ℕ). (step_lines lines n x ++ lines_from lines (n + 1) a) ++ lines_from lines m b) (omega arith)

pub steps_more : (lines : Lines) (steps : List Step) (last : Step) (number : ℕ) → length steps + 1 ≡ number
    → lines_of lines steps ++ step_lines lines number last ≡ lines_of lines (steps ++ last ∷ [])
steps_more lines steps last number e =
    ap (λ (n : ℕ). lines_of lines steps ++ step_lines lines n last) (sym e ∙ omega arith)
    ∙ ap (λ (t : List ℕ). lines_of lines steps ++ t) (sym (append-nil (step_lines lines (1 + length steps) last)))
    ∙ sym (lines_append lines 1 steps (last ∷ []))

-- the server has answered the events before those that are left, and the lines of its steps are printed
pub record Going (lines : Lines) (server now : Option World) (old new : Place) (events left : List Event) (number : ℕ) (held : List ℕ) : Type 0 where
  pub steps : List Step
  pub begun : Begun server events left steps now
  pub counted : length steps ≡ number
  pub printed : Printed old new (lines_of lines steps) held
  pub rows : lines ≡ Rows → held ≡ []

pub at_start : (lines : Lines) (server : Option World) (place : Place) (events : List Event) (held : List ℕ) → held ≡ [] → Going lines server server place place events events 0 held
at_start lines server place events held none =
    record { steps = []; begun = begun server events; counted = refl; printed = subst (Printed place place []) (sym none) (none_out place []); rows = λ _. none }

-- what is left is one event, and then the rest
pub at_event : (lines : Lines) (server now : Option World) (old new : Place) (events : List Event) (i number : ℕ) (event : Event) (held : List ℕ) → i < length events → event ≡ get_or events i event
    → Going lines server now old new events (drop i events) number held → Going lines server now old new events (event ∷ drop (i + 1) events) number held
at_event lines server now old new events i number event held h e =
    subst (λ es. Going lines server now old new events es number held) (drop_more events i event h ∙ ap (λ x. x ∷ drop (i + 1) events) (sym e))

-- the events that were taken, as a run of their own
pub taken : (server now : Option World) (events left : List Event) (steps : List Step) (b : Begun server events left steps now) → Runs None steps server b.passed now
taken server now events left steps b =
    ran_out server b.passed steps now (record { passed = b.passed; split = sym (append-nil b.passed); done = b.done; ran = b.ran; given = b.given; counted = b.counted })

none_behind : (lines : Lines) → MayFailBehind lines None
none_behind Outs = tt
none_behind Rows = refl

-- ---- one event

module _ (lines : Lines) (server before now : Option World) (old mid new : Place) (events left : List Event) (number : ℕ) (event : Event) (held : List ℕ)
    (g : Going lines server before old mid events (event ∷ left) number held) where
  -- the server answered it
  abbrev further : (given : Step) → StepsTo (Ok given) before now (step_on before event) → IsUnspent (step_on before event) → Begun server events left (g.steps ++ given ∷ []) now
  further given e none = next server events event left g.steps before g.begun given now e none

  more : (given : Step) → lines_of lines g.steps ++ step_lines lines (number + 1) given ≡ lines_of lines (g.steps ++ given ∷ [])
  more given = steps_more lines g.steps given (number + 1) (omega (arith, g.counted))

  -- its lines are held or out
  pub goes_on : (given : Step) (after : List ℕ) → StepsTo (Ok given) before now (step_on before event) → IsUnspent (step_on before event) → Printed mid new (held ++ step_lines lines (number + 1) given) after
      → (lines ≡ Rows → after ≡ []) → Going lines server now old new events left (number + 1) after
  goes_on given after e none q few = record {
    steps = g.steps ++ given ∷ [];
    begun = further given e none;
    counted = omega (arith, g.counted, length-append g.steps (given ∷ []));
    printed = subst (λ text. Printed old new text after) (more given)
        (then_printed old mid new (lines_of lines g.steps) held (step_lines lines (number + 1) given) g.printed after q);
    rows = few;
  }

  -- or they aren't
  pub breaks_off : (fault : PrintFault) (given : Step) (after : List ℕ) → StepsTo (Ok given) before now (step_on before event) → IsUnspent (step_on before event)
      → Holds (Err fault) mid new held (step_lines lines (number + 1) given) after → RunPrinted lines (Err (fault_of fault)) server now old new events after
  breaks_off print.Write given after e none q =
      let b = further given e none in (
        b.passed,
        left,
        None,
        g.steps ++ given ∷ [],
        b.split,
        none_behind lines,
        taken server now events left (g.steps ++ given ∷ []) b,
        subst (CutShort old new) (more given) (then_cut old mid new (lines_of lines g.steps) held (step_lines lines (number + 1) given) g.printed q),
      )
  breaks_off print.Memory given after e none (same, same_held) =
      let b = further given e none in (
        b.passed,
        left,
        g.steps,
        given,
        b.split,
        taken server now events left (g.steps ++ given ∷ []) b,
        subst (λ place. Printed old place (lines_of lines g.steps) after) (sym same) (subst (Printed old mid (lines_of lines g.steps)) (sym same_held) g.printed),
      )

  -- and where there is no room for them, nothing more is held
  pub none_held : (fault : PrintFault) (given : Step) (after : List ℕ) → Holds (Err fault) mid new held (step_lines lines (number + 1) given) after
      → lines ≡ Rows → is_cut_short (Err (fault_of fault)) ≡ false → after ≡ []
  none_held print.Write given after q rows e = absurd (false≢true (sym e))
  none_held print.Memory given after (same, same_held) rows e = same_held ∙ g.rows rows

  -- the server didn't answer it
  pub unanswered : (fault : StepFault) → StepsTo (Err fault) before now (step_on before event) → RunPrinted lines (Err (Unanswered fault)) server now old mid events held
  unanswered fault e = (g.steps, ends server events event left g.steps before g.begun fault now e, g.printed)

-- ---- the end

pub all_taken : (lines : Lines) (server now : Option World) (old new : Place) (events : List Event) (number : ℕ) (held : List ℕ) → Going lines server now old new events [] number held
    → RunPrinted lines (Ok tt) server now old new events held
all_taken lines server now old new events number held g = (g.steps, ran_out server events g.steps now g.begun, g.printed)

may_fail : (lines : Lines) → lines ≢ Rows → (fault : Option StepFault) → MayFailBehind lines fault
may_fail Outs other fault = tt
may_fail Rows other fault = absurd (other refl)

-- what is held is out at last
module _ (lines : Lines) (server now : Option World) (old mid new : Place) (events : List Event) (held : List ℕ) where
  pub let_out : (ran : Result (Unit {0}) RunFault) → is_cut_short ran ≡ false → RunPrinted lines ran server now old mid events held → Printed mid new held []
      → RunPrinted lines ran server now old new events []
  let_out (Ok x) e (steps, runs, p) q = (steps, runs, then_out old mid new (lines_of lines steps) held [] p q)
  let_out (Err (Unanswered fault)) e (steps, runs, p) q = (steps, runs, then_out old mid new (lines_of lines steps) held [] p q)
  let_out (Err Memory) e (passed, left, steps, last, split, runs, p) q =
      (passed, left, steps, last, split, runs, then_out old mid new (lines_of lines steps) held [] p q)
  let_out (Err Write) e h q = absurd (false≢true (sym e))

  -- or a write fails there, which it doesn't where nothing is held
  pub broken : (ran : Result (Unit {0}) RunFault) → (lines ≡ Rows → is_cut_short ran ≡ false → held ≡ []) → held ≢ [] → is_cut_short ran ≡ false → RunPrinted lines ran server now old mid events held → CutShort mid new held
      → RunPrinted lines (Err Write) server now old new events []
  broken (Ok x) rows some e (steps, runs, p) q =
      (events, [], None, steps, sym (append-nil events), none_behind lines, runs, then_broken old mid new (lines_of lines steps) held p q)
  broken (Err (Unanswered fault)) rows some e (steps, runs, p) q =
      (events, [], Some fault, steps, sym (append-nil events), may_fail lines (λ are. some (rows are e)) (Some fault), runs, then_broken old mid new (lines_of lines steps) held p q)
  broken (Err Memory) rows some e (passed, left, steps, last, split, runs, p) q = (
    passed,
    left,
    None,
    steps ++ last ∷ [],
    split,
    none_behind lines,
    runs,
    subst (CutShort old new) (steps_more lines steps last (length steps + 1) refl)
        (cut_longer old new (lines_of lines steps) (step_lines lines (length steps + 1) last) (then_broken old mid new (lines_of lines steps) held p q)),
  )
  broken (Err Write) rows some e h q = absurd (false≢true (sym e))
