-- Entries that are read run by run: each run is a slice, and none is empty.
use Rattle.std.specs.Prelude.{◌≡◌, ◌<◌, List, [], ◌++◌, length, Option, MatchOption}
use Rattle.std.specs.Borrow.{Bor}

module _ {E : Type 0} where
  -- the first run is taken, and the others are left; none is taken where there is none
  abbrev pub TakesRun : List E → Option (Bor (List E)) → List E → Type 0
  TakesRun s r t = MatchOption r ((s ≡ []) × (t ≡ [])) (λ run. (0 < length run.now) × (s ≡ run.now ++ t))

  -- the last one is
  abbrev pub TakesLastRun : List E → Option (Bor (List E)) → List E → Type 0
  TakesLastRun s r t = MatchOption r ((s ≡ []) × (t ≡ [])) (λ run. (0 < length run.now) × (s ≡ t ++ run.now))
