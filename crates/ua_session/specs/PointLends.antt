-- What becomes of the continuation points of a session that were lent to be used.
use Rattle.std.specs.Prelude.{◌≡◌, ℕ, Option, OnSome}
use Rattle.std.specs.Borrow.{MutBor, Fml, LendsSo}
use Rattle.std.specs.Ordering.{nat_cmp}
use Rattle.std.specs.FinMap.{FinMap, insert}
use Rattle.ua_session.specs.Points.{PointsState}
use Rattle.ua_session.specs.Sessions.{SessionsState, with_points}
use Rattle.ua_session.specs.contracts.points.Points as one
use Rattle.ua_session.specs.contracts.session_points.SessionPoints as all
use Rattle.ua_session.specs.contracts.sessions.Sessions as sessions

-- the session of this number has the points that are left, and the others have theirs
abbrev pub lends_entry : MutBor (FinMap nat_cmp PointsState) → ℕ → Option (MutBor PointsState) → Fml
lends_entry map number result =
    LendsSo all.the_row one.the_row map result (λ after points. OnSome result (after ≡ insert map.now number points)) (λ after. after ≡ map.now)

abbrev pub lends_points : MutBor SessionsState → ℕ → Option (MutBor PointsState) → Fml
lends_points state number result =
    LendsSo sessions.the_row one.the_row state result (λ after points. OnSome result (after ≡ with_points state.now number points)) (λ after. after ≡ state.now)
