-- A stream with a count of the calls that failed, and of those that were interrupted.
use Rattle.std.specs.Prelude.{◌≡◌, ◌≢◌, ℕ, ◌+◌, ◌-◌, ◌^◌, ◌<◌, ◌≤◌, ◌⊎◌, nat_lt, Bool, true, false, Result, Ok, Err, ◌==◌, ◌&&◌, not, if◌then◌else◌, refl}
use Rattle.std.specs.Coded.{Coded, code_by, coded×, coded_ℕ}
use Rattle.std.specs.IoError.{error_kind}
use Rattle.std.specs.declared.io.Error.{Error}
use Rattle.std.specs.declared.io.ErrorKind.TheVariants.{Interrupted}

pub record Tapped (S : Type 0) : Type 0 where
  pub stream : S
  pub failures : ℕ
  pub interruptions : ℕ

-- the count after one more call, which stays at its last value
abbrev pub counted : ℕ → Bool → ℕ
counted failures failed = if failed && nat_lt failures (2 ^ 64 - 1) then failures + 1 else failures

-- the count rose, or was at its last value before
abbrev pub Rose : ℕ → ℕ → Type 0
Rose old new = (old < new) ⊎ (2 ^ 64 - 1 ≤ old)

module _ {S : Type 0} where
  abbrev pub tapped_code : Coded S → Coded (Tapped S)
  tapped_code stream =
      code_by (S × (ℕ × ℕ)) (coded× stream (coded× coded_ℕ coded_ℕ))
      (λ t. (t.stream, (t.failures, t.interruptions)))
      (λ p. record { stream = p.0; failures = p.1.0; interruptions = p.1.1 })
      (λ _. refl)

  abbrev pub untouched : S → Tapped S
  untouched stream = record { stream = stream; failures = 0; interruptions = 0 }

  -- a call that failed is counted, and one that didn't is not
  abbrev pub CountsFailure : Bool → Tapped S → Tapped S → Type 0
  CountsFailure failed old new = (new.failures ≡ counted old.failures failed) × (new.interruptions ≡ old.interruptions)

  -- a call that was interrupted is counted apart, since it may be made again
  abbrev pub CountsInterruption : Tapped S → Tapped S → Type 0
  CountsInterruption old new = (new.failures ≡ old.failures) × (new.interruptions ≡ counted old.interruptions true)

  abbrev pub CountsError : Error → Tapped S → Tapped S → Type 0
  CountsError e old new =
      (error_kind e ≡ Interrupted → CountsInterruption old new) × (error_kind e ≢ Interrupted → CountsFailure true old new)

  -- what the counts are after a read
  abbrev pub CountsRead : Result ℕ Error → Tapped S → Tapped S → Type 0
  CountsRead (Ok n) old new = CountsFailure false old new
  CountsRead (Err e) old new = CountsError e old new

  -- what they are after a write of so many bytes: one that takes nothing of a piece that has bytes fails too
  abbrev pub CountsWrite : Result ℕ Error → ℕ → Tapped S → Tapped S → Type 0
  CountsWrite (Ok n) len old new = CountsFailure (n == 0 && not (len == 0)) old new
  CountsWrite (Err e) len old new = CountsError e old new
