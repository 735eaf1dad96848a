-- What a pump reads, hands to the server and writes.
use Rattle.std.specs.Prelude.{◌≡◌, ℕ, ◌+◌, ◌-◌, ◌^◌, ◌≤◌, ◌⊎◌, min, List, ◌++◌, length, Option, None, Bool, true, false, not, Result, Ok, Err}
use Rattle.std.specs.Io.KnownBytes.{Appends, Consumes, IsAtEnd}
use Rattle.stream_taps.specs.Tapped.{Tapped, counted}
use Rattle.server_messages.specs.declared.out.Out.{Out}
use Rattle.server_core.specs.Effects.{outs_of}
use Rattle.server_core.specs.Running.{heard_run, joined, closes}
use Rattle.server_core.specs.Stepping.{step_on, IsSpent}
use Rattle.server_core.specs.declared.world.World.{World}
use Rattle.server_core.specs.declared.event.Event.TheVariants.{Bytes}
use Rattle.server_core.specs.declared.out.StepFault.{StepFault}
use Rattle.server_core.specs.declared.out.StepFault.TheVariants.{Memory, Exhausted}
use Rattle.stream_server.specs.declared.PumpFault.{PumpFault}
use Rattle.stream_server.specs.declared.PumpFault.TheVariants.{Read, Write, Step, Turns}

-- what a server knows, or none once it is halted
abbrev pub State : Type 0
State = Option World

-- ---- what the server says to these bytes of a connection, however they are cut

abbrev pub outs_to : ℕ → State → List ℕ → List Out
outs_to conn server read = outs_of (heard_run server conn read).effects

abbrev pub sends_to : ℕ → State → List ℕ → List ℕ
sends_to conn server read = joined (outs_to conn server read)

abbrev pub is_closed_by : ℕ → State → List ℕ → Bool
is_closed_by conn server read = closes conn (outs_to conn server read)

-- ---- what a run works on

abbrev pub IsPrefix : List ℕ → List ℕ → Type 0
IsPrefix front all = (rest : List ℕ) × (all ≡ front ++ rest)

-- a count of bytes after n more, which stays at its last value
abbrev pub counting : ℕ → ℕ → ℕ
counting count n = min (count + n) (2 ^ 128 - 1)

-- all that a pump works on: the server, the bytes that the reader has left and those that the writer holds, where they are known,
-- how many reads and writes failed, how many reads were interrupted, and how many bytes are out
pub record Scene : Type 0 where
  pub server : State
  pub left : Option (List ℕ)
  pub held : Option (List ℕ)
  pub read_failures : ℕ
  pub write_failures : ℕ
  pub interruptions : ℕ
  pub sent : ℕ

module _ {R W : Type 0} where
  abbrev pub scene : (R → Option (List ℕ)) → (W → Option (List ℕ)) → ℕ → State → Tapped R → Tapped W → Scene
  scene remaining contents sent server reader writer = record {
    server = server;
    left = remaining reader.stream;
    held = contents writer.stream;
    read_failures = reader.failures;
    write_failures = writer.failures;
    interruptions = reader.interruptions;
    sent = sent;
  }

-- these bytes were read and those were written, and one read failed or none, and one write or none
pub record Moved (old new : Scene) (read put : List ℕ) (read_failed write_failed : Bool) : Type 0 where
  pub taken : Consumes old.left new.left read
  pub written : Appends old.held new.held put
  pub count : new.sent ≡ counting old.sent (length put)
  pub reads : new.read_failures ≡ counted old.read_failures read_failed
  pub writes : new.write_failures ≡ counted old.write_failures write_failed
  pub interrupted : old.interruptions ≤ new.interruptions

-- these bytes were read, the server answered them and is as they left it, and those were written
pub record Fed (conn : ℕ) (old new : Scene) (read put : List ℕ) (read_failed write_failed : Bool) : Type 0 where
  pub moved : Moved old new read put read_failed write_failed
  pub answered : (heard_run old.server conn read).fault ≡ None
  pub server : new.server ≡ (heard_run old.server conn read).server

-- ---- what a run comes to

-- at least n reads were tried: each gave a byte or more, or was interrupted
abbrev pub Tried : ℕ → Scene → Scene → List ℕ → Type 0
Tried n old new read = (n ≤ length read + (new.interruptions - old.interruptions)) ⊎ (2 ^ 64 - 1 ≤ new.interruptions)

-- n reads or more were tried and no call failed, all that the server sends to what was read is out, and the connection is open
abbrev pub Goes : ℕ → ℕ → Scene → Scene → Type 0
Goes n conn old new =
    (read : List ℕ) × Fed conn old new read (sends_to conn old.server read) false false × (is_closed_by conn old.server read ≡ false) × Tried n old new read

-- the last piece, of at most 4096 bytes, closed the connection
pub record JustClosed (conn : ℕ) (server : State) (read : List ℕ) : Type 0 where
  pub before : List ℕ
  pub last : List ℕ
  pub split : read ≡ before ++ last
  pub size : length last ≤ 4096
  pub open_before : is_closed_by conn server before ≡ false
  pub closed : is_closed_by conn server read ≡ true

-- No call failed, and all that the server sends to what was read is out. The input is at its end and the connection open, or it
-- has just been closed
abbrev pub Done : ℕ → Scene → Scene → Type 0
Done conn old new =
    (read : List ℕ) × Fed conn old new read (sends_to conn old.server read) false false
    × ((IsAtEnd new.left × (is_closed_by conn old.server read ≡ false)) ⊎ JustClosed conn old.server read)

-- The server's fault at the piece that came last. Where memory ran out, the server is halted, or else there was no room for
-- the piece, and the server didn't get it.
abbrev pub Faulted : ℕ → State → State → List ℕ → StepFault → Type 0
Faulted conn server new last Memory = (new ≡ None) ⊎ (new ≡ server)
Faulted conn server new last Exhausted = (new ≡ None) × IsSpent (step_on server (Bytes conn last))
Faulted conn server new last fault = (step_on server (Bytes conn last) ≡ Err fault) × (new ≡ server)

-- Where a read failed, or the server didn't answer the piece that came last, all that was due before is out. Where a write
-- failed, a part of what is due is out, from its beginning on. The call that failed is the only one that did, and the last
abbrev pub Stopped : ℕ → Scene → Scene → PumpFault → Type 0
Stopped conn old new Read =
    (read : List ℕ) × Fed conn old new read (sends_to conn old.server read) true false × (is_closed_by conn old.server read ≡ false)
Stopped conn old new Write =
    (read : List ℕ) × (put : List ℕ) × Fed conn old new read put false true × IsPrefix put (sends_to conn old.server read)
Stopped conn old new (Step fault) =
    (read : List ℕ) × (last : List ℕ) × Moved old new (read ++ last) (sends_to conn old.server read) false false × ((heard_run old.server conn read).fault ≡ None)
    × (is_closed_by conn old.server read ≡ false) × Faulted conn (heard_run old.server conn read).server new.server last fault
Stopped conn old new Turns = Goes 1000000000 conn old new

-- ---- one answer

-- the sends of one step are out, and `open` says whether the connection still is; or a part of them is
abbrev pub Answered : ℕ → List Out → Option (List ℕ) → Option (List ℕ) → ℕ → ℕ → Result Bool PumpFault → Type 0
Answered conn outs held now old new (Ok open_still) =
    Appends held now (joined outs) × (new ≡ counting old (length (joined outs))) × (open_still ≡ not (closes conn outs))
Answered conn outs held now old new (Err fault) =
    (put : List ℕ) × IsPrefix put (joined outs) × Appends held now put × (new ≡ counting old (length put))
