-- What an observer puts out while the server serves.
use Rattle.std.specs.Prelude.{◌≡◌, ℕ, ◌≤◌, List, ◌++◌, Option, None, Result, Ok, Err}
use Rattle.std.specs.Io.KnownBytes.{Appends}
use Rattle.server_messages.specs.declared.fired.Fired.{Fired}
use Rattle.stream_taps.specs.Tapped.{Rose}
use Rattle.socket_server.specs.declared.serve_fault.ServeFault.{ServeFault}
use Rattle.socket_server.specs.declared.serve_fault.ServeFault.TheVariants as serve_fault

-- The writer that an observer puts its text into: which one was lent to it, the bytes there, where they are known, and how many
-- calls of it failed
pub record Output : Type 0 where
  pub writer : ℕ
  pub bytes : Option (List ℕ)
  pub failures : ℕ

-- an observer without a writer
abbrev pub no_output : Output
no_output = record { writer = 0; bytes = None; failures = 0 }

-- what is put out at the event of this number, at which these rows fired
abbrev pub EventText : Type 0
EventText = ℕ → List Fired → List ℕ

-- this text was put out
pub record Puts (old new : Output) (text : List ℕ) : Type 0 where
  pub writer : new.writer ≡ old.writer
  pub written : Appends old.bytes new.bytes text
  pub failures : old.failures ≤ new.failures

-- a part of this text was put out, from its beginning on, and a call of the writer failed
pub record PutsPart (old new : Output) (text : List ℕ) : Type 0 where
  pub out : List ℕ
  pub left : List ℕ
  pub whole : text ≡ out ++ left
  pub puts : Puts old new out
  pub failed : Rose old.failures new.failures

-- the text was put out; or a call failed; or there was no room for it, and nothing was put out
abbrev pub PutsOrFails : List ℕ → Output → Output → Result (Unit {0}) ServeFault → Type 0
PutsOrFails text old new (Ok x) = Puts old new text
PutsOrFails text old new (Err serve_fault.Trace) = PutsPart old new text
PutsOrFails text old new (Err serve_fault.Memory) = new ≡ old
PutsOrFails text old new (Err fault) = ⊥
