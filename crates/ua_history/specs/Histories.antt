-- What is kept of the values that variables had: of each node a plain list, by rising time of the source.
use Rattle.std.specs.Prelude.{ℕ, ℤ, nat_lt, List, [], length, drop, slice_get, Option, Some, None, option_map, unwrap_or, if◌then◌else◌}
use Rattle.std.specs.List.{fold}
use Rattle.std.specs.BTreeMap.{is_at, insert_entry}
use Rattle.std.specs.Map.{lookup, set_value}
use Rattle.std.specs.Ordering.{int_cmp}
use Rattle.ua_types.specs.Configuration.{Configuration}
use Rattle.ua_types.specs.NodeIdOrder.{id_cmp}
use Rattle.ua_types.specs.declared.moment.Moment.{Moment}
use Rattle.ua_types.specs.declared.node_id.NodeId.{NodeId}
use Rattle.ua_types.specs.declared.data_value.DataValue.{DataValue}
use Rattle.ua_space.specs.Nodes.{Nodes}
use Rattle.ua_space.specs.declared.node.Node.{Node}

-- times and the values at them
abbrev pub Values : Type 0
Values = List (ℤ × DataValue)

-- the most values that are kept of a node, and the values of each node
pub record HistoryState : Type 0 where
  pub most : ℕ
  pub nodes : List (NodeId × Values)

abbrev pub no_histories : Configuration → HistoryState
no_histories config = record { most = config.history; nodes = [] }

-- the values of a node, by rising time
abbrev pub history_of : NodeId → HistoryState → Values
history_of id h = unwrap_or (lookup (is_at (id_cmp id)) h.nodes) []

-- the value at a time, if there is one
abbrev pub value_at : ℤ → Values → Option DataValue
value_at time values = lookup (is_at (int_cmp time)) values

-- a value at its time, before those that are later, in the place of one that was there
abbrev pub put_in : ℤ → DataValue → Values → Values
put_in time value values = insert_entry int_cmp values time value

-- where there are more than so many, all but that with the least time
abbrev pub latest : ℕ → Values → Values
latest most values = if nat_lt most (length values) then drop 1 values else values

-- one more value. Where it is one too many, that with the least time goes
abbrev pub kept_in : ℕ → ℤ → DataValue → Values → Values
kept_in most time value values = latest most (put_in time value values)

-- the first value of a node, or one more
abbrev pub with_one : HistoryState → NodeId → ℤ → DataValue → Option Values → HistoryState
with_one h id time value None = record h { nodes = insert_entry id_cmp h.nodes id (kept_in h.most time value []) }
with_one h id time value (Some values) = record h { nodes = set_value (is_at (id_cmp id)) h.nodes (kept_in h.most time value values) }

abbrev pub kept_at : HistoryState → NodeId → DataValue → Option Moment → HistoryState
kept_at h id value None = h
kept_at h id value (Some time) = with_one h id time.0 value (lookup (is_at (id_cmp id)) h.nodes)

-- a value is kept by the time of its source
abbrev pub kept : HistoryState → NodeId → DataValue → HistoryState
kept h id value = kept_at h id value value.source_time

-- ---- what falls out of a history

abbrev pub time_of : ℤ × DataValue → Moment
time_of e = record { 0 = e.0 }

-- where there are more than so many, the least time
abbrev pub surplus : ℕ → Values → Option Moment
surplus most values = if nat_lt most (length values) then option_map time_of (slice_get values 0) else None

-- the time whose value goes as one more is kept
abbrev pub dropped_in : ℕ → ℤ → DataValue → Values → Option Moment
dropped_in most time value values = surplus most (put_in time value values)

abbrev pub dropped_at : HistoryState → NodeId → DataValue → Option Moment → Option Moment
dropped_at h id value None = None
dropped_at h id value (Some time) = dropped_in h.most time.0 value (history_of id h)

abbrev pub dropped : HistoryState → NodeId → DataValue → Option Moment
dropped h id value = dropped_at h id value value.source_time

-- ---- what a server begins with

-- the values that a node had before, kept one after the other
abbrev pub with_all : HistoryState → NodeId → List DataValue → HistoryState
with_all h id values = fold (λ (h : HistoryState) (value : DataValue). kept h id value) h values

abbrev pub with_node : HistoryState → NodeId × Node → HistoryState
with_node h e = with_all h e.1.id e.1.history

-- those of each node, in the order of ids
abbrev pub histories_begun : Configuration → Nodes → HistoryState
histories_begun config nodes = fold with_node (no_histories config) nodes

-- ---- words of the contracts

abbrev pub with_node_if : HistoryState → Option (NodeId × Node) → HistoryState
with_node_if h None = h
with_node_if h (Some e) = with_node h e
