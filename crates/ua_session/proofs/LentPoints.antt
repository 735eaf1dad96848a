-- The continuation points of a session, used in their place.
use Rattle.std.proofs.Common.{◌≡◌, ℕ, true, Option, Some, None, is_some, OnSome, refl, ap, sym, ◌∙◌}
use Rattle.std.proofs.lemmas.Bool.{false≢true}
use Rattle.std.specs.Ordering.{nat_cmp}
use Rattle.std.specs.Option.{unwrap_or}
use Rattle.std.specs.FinMap.{FinMap, get, insert}
use Rattle.collections.proofs.NumberMaps.{insert_same}
use Rattle.ua_session.specs.Points.{PointsState}
use Rattle.ua_session.specs.Sessions.{SessionsState, with_points}

-- what holds where something was lent
pub on_some : {X : Type 0} (A B : Type 0) (r : Option X) → OnSome r A → (A → B) → OnSome r B
on_some A B None a f = tt
on_some A B (Some x) a f = f a

-- the points that are left are those of their session
pub given_points : (before now : SessionsState) (number : ℕ) (points : PointsState) (held : FinMap nat_cmp PointsState) → before ≡ now → held ≡ insert before.points number points
    → record before { points = held } ≡ with_points now number points
given_points before now number points held is e = ap (λ m. record before { points = m }) e ∙ ap (λ s. with_points s number points) is

there : {V : Type 0} (m : FinMap nat_cmp V) (k : ℕ) (v : V) (found : Option V) → get m k ≡ found → is_some found ≡ true → m ≡ insert m k (unwrap_or found v)
there m k v None is some = absurd (false≢true some)
there m k v (Some x) is some = sym (insert_same m k x is)

-- a session that has a place for its points keeps them
pub points_stay : (now : SessionsState) (number : ℕ) (none : PointsState) → is_some (get now.points number) ≡ true → now ≡ with_points now number (unwrap_or (get now.points number) none)
points_stay now number none some = ap (λ m. record now { points = m }) (there now.points number none (get now.points number) refl some)

-- where nothing was lent they are what they were
pub same_points : (before now : SessionsState) (held : FinMap nat_cmp PointsState) → before ≡ now → held ≡ before.points → record before { points = held } ≡ now
same_points before now held is e = ap (λ m. record before { points = m }) e ∙ is
