-- What a map of numbered values is, once the value that it lent is given back.
use Rattle.std.specs.Prelude.{◌≡◌, ℕ, Option, OnSome}
use Rattle.std.specs.Borrow.{RattleType, MutBor, Fml, LendsSo}
use Rattle.std.specs.Ordering.{nat_cmp}
use Rattle.std.specs.FinMap.{FinMap, insert}
use Rattle.collections.specs.contracts.numbered.Numbered.{the_row}

-- the map has, at this number, the last value behind the result; where there is none, it is as it was
abbrev pub lends_value : (V : RattleType) → MutBor (FinMap nat_cmp V.Denot) → ℕ → Option (MutBor V.Denot) → Fml
lends_value V map number result =
    LendsSo (the_row V) V map result (λ after value. OnSome result (after ≡ insert map.now number value)) (λ after. after ≡ map.now)
