-- A slab, and the slot of each number.
use Rattle.std.specs.Prelude.{◌≡◌, ⊤, ℕ, List, [], ◌∷◌, Option, Some, None, IsSomeAnd, slice_index_or}
use Rattle.std.specs.BTreeMap.{is_at}
use Rattle.std.specs.List.Sorted.{IsStrictlySortedBy}
use Rattle.std.specs.Map.{lookup, keys_of}
use Rattle.std.specs.Ordering.{nat_cmp}
use Rattle.collections.specs.declared.slot.Slot.{Slot}

module _ {V : Type 0} where
  -- the value and its number in a slot, if it is filled
  abbrev pub slot_at : List (Option (Slot V)) → ℕ → Option (Slot V)
  slot_at slots key = slice_index_or slots key None

  abbrev pub held_at : ℕ → Option (Slot V) → List (ℕ × V) → List (ℕ × V)
  held_at number None rest = rest
  held_at number (Some slot) rest = (number, slot.value) ∷ rest

  -- the values in the slots of these numbers
  abbrev pub held_in : List (Option (Slot V)) → List (ℕ × ℕ) → List (ℕ × V)
  held_in slots [] = []
  held_in slots (e ∷ es) = held_at e.0 (slot_at slots e.1) (held_in slots es)

  -- each slot that a number leads to is filled, and with that number
  abbrev pub AreNumbered : List (Option (Slot V)) → List (ℕ × ℕ) → Type 0
  AreNumbered slots [] = ⊤
  AreNumbered slots (e ∷ es) = IsSomeAnd (slot_at slots e.1) (λ slot. slot.number ≡ e.0) × AreNumbered slots es

  -- the numbers rise, each leads to the slot that is filled with it, and each slot that is filled is led to
  pub record IsHeld (slots : List (Option (Slot V))) (es : List (ℕ × ℕ)) : Type 0 where
    pub numbered : AreNumbered slots es
    pub led : (key : ℕ) (slot : Slot V) → slot_at slots key ≡ Some slot → lookup (is_at (nat_cmp slot.number)) es ≡ Some key
    pub rising : IsStrictlySortedBy nat_cmp (keys_of es)
