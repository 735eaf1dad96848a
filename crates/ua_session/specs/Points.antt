-- Continuation points of a session: where long answers go on (ContinuationPoint, IEC 62541-4, section 7).
use Rattle.std.specs.Prelude.{◌≡◌, ℕ, ◌+◌, ◌-◌, ◌^◌, ◌==◌, Bool, true, false, nat_le, List, length, Option, Some, None, Result, Ok, Err, if◌then◌else◌}
use Rattle.std.specs.FinMap.{FinMap, insert, remove, empty, len}
use Rattle.std.specs.Int.{w64, from_le_bytes}
use Rattle.std.specs.Ordering.{nat_cmp}
use Rattle.ua_types.specs.Answers.{Step, step}
use Rattle.ua_types.specs.declared.refusal.Refusal.{Refusal}
use Rattle.ua_types.specs.declared.refusal.Refusal.TheVariants.{Service, Memory, Exhausted}
use Rattle.ua_types.specs.declared.status.Status.{Status}
use Rattle.ua_types.specs.declared.status.TheConstants.Status as status
use Rattle.ua_session.specs.declared.points.Point.{Point}

-- the most points that are held at once, the serial of the last one that was made, and the points by their serials
pub record PointsState : Type 0 where
  pub most : ℕ
  pub made : ℕ
  pub held : FinMap nat_cmp Point

abbrev pub no_points : ℕ → PointsState
no_points most = record { most = most; made = 0; held = empty }

-- one more point, under the next serial
abbrev pub with_point : PointsState → Point → PointsState
with_point s point = record s { made = s.made + 1; held = insert s.held (s.made + 1) point }

abbrev pub without_point : PointsState → ℕ → PointsState
without_point s serial = record s { held = remove s.held serial }

abbrev pub put_of : PointsState → Point → Step ℕ Status PointsState
put_of s point = step (Ok (s.made + 1)) (with_point s point)

abbrev pub is_full : PointsState → Bool
is_full s = nat_le s.most (len s.held)

-- a point is kept, if there is room for it
unfoldable pub hold_of : PointsState → Point → Step ℕ Status PointsState
hold_of s point = if is_full s then step (Err status.BAD_NO_CONTINUATION_POINTS) s else put_of s point

-- a point in the place of another, which is held no more
unfoldable pub replace_of : PointsState → ℕ → Point → Step ℕ Status PointsState
replace_of s serial point = step (Ok (s.made + 1)) (without_point (with_point s point) serial)

-- the last serial of 64 bits was given
abbrev pub is_at_last : PointsState → Bool
is_at_last s = nat_le (2 ^ 64 - 1) s.made

-- a serial past the last one of 64 bits was given
abbrev pub is_overspent : PointsState → Bool
is_overspent s = nat_le (2 ^ 64) s.made

-- no serial past the last one is given
abbrev pub GivesInRange : PointsState → PointsState → Type 0
GivesInRange old new = is_overspent old ≡ false → is_overspent new ≡ false

-- A call takes the step that is said of it, and no serial past the last one is given; unless memory ran out, or the step said gives
-- such a serial: then the state is the old one
abbrev pub TakesSerial : {A : Type 0} → Result A Refusal → PointsState → PointsState → Step A Status PointsState → Type 0
TakesSerial (Ok x) old new said = (said ≡ step (Ok x) new) × GivesInRange old new
TakesSerial (Err (Service code)) old new said = (said ≡ step (Err code) new) × GivesInRange old new
TakesSerial (Err Memory) old new said = new ≡ old
TakesSerial (Err Exhausted) old new said = (is_overspent said.state ≡ true) × (is_overspent old ≡ false) × (new ≡ old)

-- ---- points as their clients know them

abbrev pub serial_in : List ℕ → Option ℕ
serial_in bytes = if length bytes == 8 then Some (from_le_bytes w64 bytes) else None

-- the serial of the one point that these bytes may name: 8 bytes, the lowest first
abbrev pub serial_of : Option (List ℕ) → Option ℕ
serial_of None = None
serial_of (Some bytes) = serial_in bytes
