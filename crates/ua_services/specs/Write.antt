-- The service Write.
use Rattle.std.specs.Prelude.{ℕ, Bool, false, List, [], ◌∷◌, map, Option, Some, None, Result, Ok, Err, if◌then◌else◌}
use Rattle.std.specs.List.{fold}
use Rattle.ua_types.specs.declared.moment.Moment.{Moment}
use Rattle.ua_types.specs.declared.node_id.NodeId.{NodeId}
use Rattle.ua_types.specs.declared.status.Status.{Status}
use Rattle.ua_types.specs.declared.data_value.DataValue.{DataValue}
use Rattle.ua_messages.specs.declared.type_ids.TheConstants.{WRITE_RESPONSE}
use Rattle.ua_service_messages.specs.declared.writing.WriteRequest.{WriteRequest}
use Rattle.ua_service_messages.specs.declared.writing.WriteValue.{WriteValue}
use Rattle.ua_space.specs.Nodes.{Nodes}
use Rattle.ua_space.specs.Values.{variable_at, with_value}
use Rattle.ua_space.specs.Variables.{VariableAttributes}
use Rattle.ua_monitored_items.specs.Items.{ItemsState}
use Rattle.ua_monitored_items.specs.Releases.{shown}
use Rattle.ua_history.specs.Histories.{HistoryState, kept, dropped}
use Rattle.ua_read_write.specs.Writing.{Writing, write_of}
use Rattle.ua_read_write.specs.declared.writing.Change.{Change}
use Rattle.server_messages.specs.declared.setting.Setting.{Setting}
use Rattle.server_messages.specs.declared.stored.Stored.{Stored}
use Rattle.ua_services.specs.Operations.{operations_of}
use Rattle.ua_services.specs.ServicesState.{Services}
use Rattle.ua_services.specs.Serving.{Serving, Store, answered_at_once, faulted}
use Rattle.ua_services.specs.StatusResults.{statuses_body}
use Rattle.ua_services.specs.declared.caller.Caller.{Caller}

-- a variable whose values are kept
abbrev pub is_historizing : Option VariableAttributes → Bool
is_historizing None = false
is_historizing (Some v) = v.historizing

-- a value of a node is kept where its values are
abbrev pub history_with : HistoryState → NodeId → DataValue → Bool → HistoryState
history_with h id value is_historical = if is_historical then kept h id value else h

-- one more value that was accepted
abbrev pub with_change : Nodes → HistoryState → Change → HistoryState
with_change nodes h change = history_with h change.node_id change.value (is_historizing (variable_at change.node_id nodes))

-- the histories once values were accepted, one after the other
abbrev pub all_kept : Nodes → HistoryState → List Change → HistoryState
all_kept nodes h changes = fold (with_change nodes) h changes

-- the time that falls out of the node's history for it
abbrev pub dropped_by : HistoryState → NodeId → DataValue → Bool → Option Moment
dropped_by h id value is_historical = if is_historical then dropped h id value else None

-- what a store has to keep of a value that was accepted: it, whether it is kept in its variable's history, and the time that
-- falls out for it
abbrev pub stored_by : HistoryState → Change → Bool → Stored
stored_by h change is_historical = record {
  node_id = change.node_id;
  value = change.value;
  is_historical = is_historical;
  dropped = dropped_by h change.node_id change.value is_historical;
}

abbrev pub stored_change : Nodes → HistoryState → Change → Stored
stored_change nodes h change = stored_by h change (is_historizing (variable_at change.node_id nodes))

-- of values that were accepted, one after the other
abbrev pub stored_changes : Nodes → HistoryState → List Change → List Stored
stored_changes nodes h [] = []
stored_changes nodes h (change ∷ changes) = stored_change nodes h change ∷ stored_changes nodes (with_change nodes h change) changes

-- nothing is to be kept where there is no store
abbrev pub for_store : Bool → List Stored → List Stored
for_store has_store stored = if has_store then stored else []

-- what a store has to keep of all that was written
abbrev pub stored_written : Bool → Services → Writing → List Stored
stored_written has_store state writing = for_store has_store (stored_changes writing.nodes state.history writing.changed)

-- the items see the values that were accepted, one after the other
abbrev pub sampled : ItemsState → List Change → ItemsState
sampled items changes = record items { items = shown items.items changes }

-- the nodes with their new values, the histories with those that are kept, and the items that saw them
abbrev pub with_written : Services → Writing → Services
with_written state writing = record state {
  space = record state.space { nodes = writing.nodes };
  history = all_kept writing.nodes state.history writing.changed;
  items = sampled state.items writing.changed;
}

abbrev pub write_listed : Setting → Caller → Services → Result (List WriteValue) Status → Serving
write_listed setting caller state (Ok values) =
    let writing = write_of setting.clock state.space.nodes values in
    record (answered_at_once (with_written state writing) caller (statuses_body WRITE_RESPONSE setting caller writing.statuses)) {
      occurrences = map Store (stored_written setting.config.has_store state writing);
    }
write_listed setting caller state (Err code) = faulted state caller code setting.clock

-- the list is judged first, and then each value is judged and stored, shown to the items, and kept where its variable is
-- historizing; a store has to keep those that were accepted
abbrev pub write_meaning : Setting → Caller → ℕ → WriteRequest → Services → Serving
write_meaning setting caller session request state = write_listed setting caller state (operations_of setting.config request.nodes_to_write)

-- ---- words of the contracts

-- one more value that was accepted is shown, kept where its variable is historizing, and stored
abbrev pub with_accepted : Services → Change → Services
with_accepted state change = record state {
  space = record state.space { nodes = with_value change.node_id change.value state.space.nodes };
  history = with_change state.space.nodes state.history change;
  items = sampled state.items (change ∷ []);
}

abbrev pub with_judged : Services → Result Change Status → Services
with_judged state (Ok change) = with_accepted state change
with_judged state (Err code) = state

-- what a store has to keep of one more value
abbrev pub stored_judged : Bool → Services → Result Change Status → List Stored
stored_judged has_store state (Ok change) = for_store has_store (stored_change state.space.nodes state.history change ∷ [])
stored_judged has_store state (Err code) = []
