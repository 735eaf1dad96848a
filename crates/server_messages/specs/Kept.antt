-- What a store keeps: the value of each variable, and the values that it had.
use Rattle.std.specs.Prelude.{◌≡◌, ◌&&◌, ◌⊎◌, ⊤, ℤ, Bool, false, List, [], ◌∷◌, Option, Some, None, fold, if◌then◌else◌}
use Rattle.std.specs.Ordering.{is_eq, int_cmp}
use Rattle.ua_types.specs.NodeIdOrder.{id_cmp}
use Rattle.ua_types.specs.declared.moment.Moment.{Moment}
use Rattle.ua_types.specs.declared.node_id.NodeId.{NodeId}
use Rattle.ua_types.specs.declared.data_value.DataValue.{DataValue}
use Rattle.server_messages.specs.declared.kept_values.KeptValue.{KeptValue}
use Rattle.server_messages.specs.declared.stored.Stored.{Stored}

-- the values of one variable, by the times of their source
abbrev pub Past : Type 0
Past = ℤ → Option DataValue

-- the value of each variable that has one here, and its history
pub record Kept : Type 0 where
  pub values : NodeId → Option DataValue
  pub histories : NodeId → Past

abbrev pub is_same : NodeId → NodeId → Bool
is_same id other = is_eq (id_cmp id other)

-- a value at a time, in the place of one that was there
abbrev pub put_at : Option Moment → DataValue → Past → Past
put_at None value past time = past time
put_at (Some moment) value past time = if is_eq (int_cmp moment.0 time) then Some value else past time

-- the value at a time falls out
abbrev pub dropped_at : Option Moment → Past → Past
dropped_at None past time = past time
dropped_at (Some moment) past time = if is_eq (int_cmp moment.0 time) then None else past time

-- a historical value is put at its source's time, and then the one that falls out for it is gone
abbrev pub past_with : Stored → Past → Past
past_with s past time = if s.is_historical then dropped_at s.dropped (put_at s.value.source_time s.value past) time else past time

-- one more value
abbrev pub with_stored : Kept → Stored → Kept
with_stored kept s = record {
  values = λ id. if is_same s.node_id id then Some s.value else kept.values id;
  histories = λ id time. if is_same s.node_id id then past_with s (kept.histories id) time else kept.histories id time;
}

-- values, one after the other
abbrev pub with_all_stored : Kept → List Stored → Kept
with_all_stored kept stored = fold with_stored kept stored

-- two stores keep the same
pub record AreAlike (a b : Kept) : Type 0 where
  pub values : (id : NodeId) → a.values id ≡ b.values id
  pub histories : (id : NodeId) (time : ℤ) → a.histories id time ≡ b.histories id time

-- the second is the first with these, where both are known
abbrev pub Keeps : List Stored → Option Kept → Option Kept → Type 0
Keeps stored (Some old) (Some new) = AreAlike (with_all_stored old stored) new
Keeps stored old new = ⊤

-- whatever may be found is what is kept, where that is known
abbrev pub IsLasting : Option Kept → (Kept → Type 0) → Type 0
IsLasting None MayFind = ⊤
IsLasting (Some kept) MayFind = (found : Kept) → MayFind found → AreAlike kept found

-- nothing may be found but what was to be found before, or what was kept with these
abbrev pub GrowsBy : List Stored → Option Kept → (Kept → Type 0) → (Kept → Type 0) → Type 0
GrowsBy stored kept MayFind MayFindThen = (found : Kept) → MayFindThen found → MayFind found ⊎ Keeps stored kept (Some found)

-- ---- read back

-- the value of a variable among these, and the one at a time
abbrev pub value_among : NodeId → List KeptValue → Option DataValue
value_among id [] = None
value_among id (k ∷ ks) = if is_same k.node_id id then Some k.value else value_among id ks

abbrev pub is_at_time : ℤ → Option Moment → Bool
is_at_time time None = false
is_at_time time (Some moment) = is_eq (int_cmp moment.0 time)

abbrev pub past_among : NodeId → ℤ → List KeptValue → Option DataValue
past_among id time [] = None
past_among id time (k ∷ ks) = if is_same k.node_id id && is_at_time time k.value.source_time then Some k.value else past_among id time ks

-- these are the values and the histories of a store
abbrev pub read_back : List KeptValue → List KeptValue → Kept
read_back values histories = record { values = λ id. value_among id values; histories = λ id time. past_among id time histories }
