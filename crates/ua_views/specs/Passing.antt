-- What is said of bytes by moving past a value: where it ends, or its first fault.
use Rattle.std.specs.Prelude.{◌≡◌, ℕ, List, Result, Ok, Err}
use Rattle.ua_binary.specs.declared.fault.TakeFault.{TakeFault}

-- A value was read, and these bytes are left.
pub record IsRead {A : Type 0} (reading : Result (A × List ℕ) TakeFault) (rest : List ℕ) : Type 0 where
  pub value : A
  pub is : reading ≡ Ok (value, rest)

-- What moving past a value answered, and the bytes left after it, are what reading gives, but for the value, which has a name.
abbrev pub Skips : {A : Type 0} → Result Unit TakeFault → List ℕ → Result (A × List ℕ) TakeFault → Type 0
Skips (Ok _) rest reading = IsRead reading rest
Skips (Err e) rest reading = reading ≡ Err e

-- A value was read that is seen by a view as this, and these bytes are left.
pub record IsSeen {A B : Type 0} (view : A → B) (reading : Result (A × List ℕ) TakeFault) (seen : B) (rest : List ℕ) : Type 0 where
  pub value : A
  pub is : reading ≡ Ok (value, rest)
  pub seen_as : view value ≡ seen

-- What was told is what is seen of the value that reading gives.
abbrev pub Tells : {A B : Type 0} → (A → B) → Result B TakeFault → List ℕ → Result (A × List ℕ) TakeFault → Type 0
Tells view (Ok seen) rest reading = IsSeen view reading seen rest
Tells view (Err e) rest reading = reading ≡ Err e
