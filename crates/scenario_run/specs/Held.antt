-- Text on its way to a writer: its beginning is out, and the rest of it is held.
use Rattle.std.specs.Prelude.{◌≡◌, ℕ, ◌≤◌, List, [], ◌++◌, Option, Result, Ok, Err}
use Rattle.std.specs.Io.KnownBytes.{Appends}
use Rattle.server_core.specs.declared.event.Event.{Event}
use Rattle.stream_taps.specs.Tapped.{Tapped, Rose}
use Rattle.scenario_run.specs.Texts.{events_lines}
use Rattle.scenario_run.specs.declared.held.PrintFault.{PrintFault}
use Rattle.scenario_run.specs.declared.held.PrintFault.TheVariants.{Write, Memory}

-- the bytes of a writer, where they are known, and how many of its calls failed
pub record Place : Type 0 where
  pub bytes : Option (List ℕ)
  pub failures : ℕ

module _ {W : Type 0} where
  abbrev pub place : (W → Option (List ℕ)) → Tapped W → Place
  place contents writer = record { bytes = contents writer.stream; failures = writer.failures }

-- the text is out but for its end, which is held
pub record Printed (old new : Place) (text held : List ℕ) : Type 0 where
  pub out : List ℕ
  pub whole : text ≡ out ++ held
  pub written : Appends old.bytes new.bytes out
  pub failures : old.failures ≤ new.failures

-- a part of the text is out, from its beginning on, and a call of the writer failed
pub record CutShort (old new : Place) (text : List ℕ) : Type 0 where
  pub out : List ℕ
  pub left : List ℕ
  pub whole : text ≡ out ++ left
  pub written : Appends old.bytes new.bytes out
  pub failures : old.failures ≤ new.failures
  pub failed : Rose old.failures new.failures

-- more lines behind the text that was held before; where there is no room for them, nothing has happened
abbrev pub Holds : Result (Unit {0}) PrintFault → Place → Place → List ℕ → List ℕ → List ℕ → Type 0
Holds (Ok x) old new before lines after = Printed old new (before ++ lines) after
Holds (Err Write) old new before lines after = CutShort old new (before ++ lines)
Holds (Err Memory) old new before lines after = (new ≡ old) × (after ≡ before)

-- this text is out; or a part of it is, from its beginning on, and a call failed; or there was no room for it, and nothing is out
abbrev pub Puts : Result (Unit {0}) PrintFault → Place → Place → List ℕ → Type 0
Puts (Ok x) old new text = Printed old new text []
Puts (Err Write) old new text = CutShort old new text
Puts (Err Memory) old new text = new ≡ old

-- The lines of these events are out, but for what is held; where there is no room, those of the events before
abbrev pub EventsPrinted : Result (Unit {0}) PrintFault → Place → Place → List Event → List ℕ → Type 0
EventsPrinted (Ok x) old new events held = Printed old new (events_lines events) held
EventsPrinted (Err Write) old new events held = CutShort old new (events_lines events)
EventsPrinted (Err Memory) old new events held =
    (passed : List Event) × (left : List Event) × (events ≡ passed ++ left) × Printed old new (events_lines passed) held
