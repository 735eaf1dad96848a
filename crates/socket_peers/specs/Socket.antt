-- What the calls of a stream that doesn't wait came to.
use Rattle.std.specs.Prelude.{◌≡◌, ⊤, ℕ, zero, suc, ◌+◌, Option, Some, None, Result, Ok, Err}
use Rattle.std.specs.IoError.{error_kind}
use Rattle.std.specs.declared.io.Error.{Error}
use Rattle.std.specs.declared.io.ErrorKind.{ErrorKind}
use Rattle.std.specs.declared.io.ErrorKind.TheVariants as kind
use Rattle.socket_peers.specs.declared.socket.Missed.{Missed}
use Rattle.socket_peers.specs.declared.socket.Missed.TheVariants.{Waits, Interrupted, Failed}

-- how many calls of a stream failed, how many would have had to wait, and how many were interrupted
pub record Calls : Type 0 where
  pub failed : ℕ
  pub waited : ℕ
  pub interrupted : ℕ

-- why a call that answered an error of this kind moved no byte
abbrev pub missed_by : ErrorKind → Missed
missed_by kind.WouldBlock = Waits
missed_by kind.Interrupted = Interrupted
missed_by _ = Failed

-- one call more
abbrev pub with_missed : Missed → Calls → Calls
with_missed Waits calls = record calls { waited = calls.waited + 1 }
with_missed Interrupted calls = record calls { interrupted = calls.interrupted + 1 }
with_missed Failed calls = record calls { failed = calls.failed + 1 }

-- where the calls are known, none was added that moved no byte
abbrev pub NoneMissed : Option Calls → Option Calls → Type 0
NoneMissed None new = ⊤
NoneMissed (Some old) new = new ≡ Some old

-- where the calls are known, one was added, which moved no byte for this reason
abbrev pub OneMissed : Missed → Option Calls → Option Calls → Type 0
OneMissed why None new = ⊤
OneMissed why (Some old) new = new ≡ Some (with_missed why old)

-- what is counted of a read
abbrev pub CountsRead : Result ℕ Error → Option Calls → Option Calls → Type 0
CountsRead (Ok count) old new = NoneMissed old new
CountsRead (Err e) old new = OneMissed (missed_by (error_kind e)) old new

-- what is counted of a write of some bytes: one that takes none of them failed
abbrev pub CountsWrite : Result ℕ Error → Option Calls → Option Calls → Type 0
CountsWrite (Ok zero) old new = OneMissed Failed old new
CountsWrite (Ok (suc count)) old new = NoneMissed old new
CountsWrite (Err e) old new = OneMissed (missed_by (error_kind e)) old new
