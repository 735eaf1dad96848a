-- What the points of a session keep.
use Rattle.std.specs.Prelude.{◌≡◌, ◌≤◌, ◌<◌, ℕ, true, None, is_some}
use Rattle.std.specs.FinMap.{get, len}
use Rattle.ua_session.specs.Points.{PointsState, no_points, hold_of, replace_of, without_point}
use Rattle.ua_session.specs.declared.points.Point.{Point}

-- no more points are held than may be, and none has a serial above the last one's
pub record IsSound (s : PointsState) : Type 0 where
  pub few : len s.held ≤ s.most
  pub fresh : (serial : ℕ) → s.made < serial → get s.held serial ≡ None

-- The points of a new session are sound, and whatever is called leaves sound points sound. So a new point's serial was
-- never one before
pub record StaySound : Type 0 where
  pub new : (most : ℕ) → IsSound (no_points most)
  pub held : (s : PointsState) (point : Point) → IsSound s → IsSound (hold_of s point).state
  pub replaced : (s : PointsState) (serial : ℕ) (point : Point) → is_some (get s.held serial) ≡ true → IsSound s → IsSound (replace_of s serial point).state
  pub given_up : (s : PointsState) (serial : ℕ) → IsSound s → IsSound (without_point s serial)
