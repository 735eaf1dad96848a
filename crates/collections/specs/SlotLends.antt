-- What a slot, and all slots, end as, once a value that was lent is given back.
use Rattle.std.specs.Prelude.{◌≡◌, ℕ, List, Option, OnSome}
use Rattle.std.specs.Borrow.{RattleType, MutBor, Fml, Lends, LendsSo}
use Rattle.std.specs.BTreeMap.{is_at}
use Rattle.std.specs.Map.{set_value}
use Rattle.std.specs.Ordering.{nat_cmp}
use Rattle.collections.specs.contracts.slot.Slot as one
use Rattle.collections.specs.contracts.slots.Slots as all
use Rattle.collections.specs.declared.slot.Slot.{Slot}

abbrev pub lends_held : (V : RattleType) → MutBor (Slot V.Denot) → MutBor V.Denot → Fml
lends_held V slot result = Lends (one.the_row V) V slot result (λ value. record slot.now { value = value })

-- the number has the last value behind the result; where it has none, nothing changed
abbrev pub lends_value : (V : RattleType) → MutBor (List (ℕ × V.Denot)) → ℕ → Option (MutBor V.Denot) → Fml
lends_value V slots number result =
    LendsSo (all.the_row V) V slots result (λ after value. OnSome result (after ≡ set_value (is_at (nat_cmp number)) slots.now value)) (λ after. after ≡ slots.now)
