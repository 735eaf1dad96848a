-- The history of one node while values are put into it.
use Rattle.std.specs.Prelude.{◌≡◌, ⊤, ℕ, ◌<◌, ℤ, List, [], ◌∷◌, Option, Some, None, slice_get}
use Rattle.std.specs.List.{AllByRecursion}
use Rattle.std.specs.List.Sorted.{IsStrictlySortedBy}
use Rattle.std.specs.Map.{keys_of, values_of}
use Rattle.std.specs.Option.{option_or}
use Rattle.std.specs.Ordering.{int_cmp}
use Rattle.ua_types.specs.declared.data_value.DataValue.{DataValue}
use Rattle.ua_space.specs.Histories.{history_in, with_history_in}
use Rattle.ua_space.specs.Nodes.{Nodes}
use Rattle.server_messages.specs.Kept.{Past}
use Rattle.store_restoring.specs.Restored.{past_of}

-- times and the values at them
abbrev pub Timed : Type 0
Timed = List (ℤ × DataValue)

-- the place of the node, and the values by rising time
pub record OpenedState : Type 0 where
  pub place : ℕ
  pub values : Timed

abbrev pub no_values : ℕ → OpenedState
no_values place = record { place = place; values = [] }

-- each value stands under its source's time
abbrev pub AreTimed : Timed → Type 0
AreTimed es = AllByRecursion (λ (e : ℤ × DataValue). e.1.source_time ≡ Some (record { 0 = e.0 })) es

-- and the times rise
pub record IsOpened (o : OpenedState) : Type 0 where
  pub timed : AreTimed o.values
  pub rising : IsStrictlySortedBy int_cmp (keys_of o.values)

-- one more value, unless there is one at its time
abbrev pub has_added : DataValue → Past → Past
has_added value past time = option_or (past time) (past_of (value ∷ []) time)

-- the history of the node at a place is open: it had at each time the same value before, and whatever is put back, the nodes are
-- those from before with it
pub record IsOpenedAt (at : ℕ) (before after : Nodes) (o : OpenedState) : Type 0 where
  pub place : o.place ≡ at
  pub past : (time : ℤ) → past_of (values_of o.values) time ≡ past_of (history_in (slice_get before at)) time
  pub nodes : (values : List DataValue) → with_history_in at values after ≡ with_history_in at values before

-- the nodes once the history is back in its place
abbrev pub closed : Nodes → Option OpenedState → Nodes
closed nodes None = nodes
closed nodes (Some o) = with_history_in o.place (values_of o.values) nodes

-- it is the history of one of so many nodes
abbrev pub IsWithin : ℕ → Option OpenedState → Type 0
IsWithin count None = ⊤
IsWithin count (Some o) = o.place < count
