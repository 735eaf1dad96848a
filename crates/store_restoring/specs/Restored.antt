-- The nodes of a space once what a store has kept is put into it.
use Rattle.std.specs.Prelude.{◌≡◌, true, false, ℤ, List, [], ◌∷◌, Option, Some, None, IsSomeAnd, if◌then◌else◌}
use Rattle.std.specs.Option.{option_or}
use Rattle.ua_types.specs.declared.node_id.NodeId.{NodeId}
use Rattle.ua_types.specs.declared.data_value.DataValue.{DataValue}
use Rattle.ua_space.specs.Histories.{rises}
use Rattle.ua_space.specs.Nodes.{Nodes, node_at}
use Rattle.ua_space.specs.Values.{holding}
use Rattle.ua_space.specs.declared.node.Node.{Node}
use Rattle.ua_space.specs.declared.node.NodeDetails.{NodeDetails}
use Rattle.server_messages.specs.Kept.{Kept, Past, is_at_time, read_back}
use Rattle.server_messages.specs.declared.kept_values.KeptValue.{KeptValue}
use Rattle.store_restoring.specs.Fitting.{fitting}

-- the value at a time among those that a variable had
abbrev pub past_of : List DataValue → Past
past_of [] time = None
past_of (v ∷ vs) time = if is_at_time time v.source_time then Some v else past_of vs time

-- a value that was kept is the variable's
abbrev pub with_kept : Option DataValue → NodeDetails → NodeDetails
with_kept None details = details
with_kept (Some value) details = holding value details

-- a node before and after. It has the value that was kept for it. Its history has at each time the value that was kept for that
-- time, or else the one that it had. Nothing else is another, and where no history was kept, it is as it was
pub record IsNodeRestored (kept : Kept) (id : NodeId) (old new : Node) : Type 0 where
  pub node : new ≡ record old { details = with_kept (kept.values id) old.details; history = new.history }
  pub history : (time : ℤ) → past_of new.history time ≡ option_or (kept.histories id time) (past_of old.history time)
  pub rising : rises old.history ≡ true → rises new.history ≡ true
  pub unkept : ((time : ℤ) → kept.histories id time ≡ None) → new.history ≡ old.history

-- where there is no node, there is none afterwards
abbrev pub IsRestored : Kept → NodeId → Option Node → Option Node → Type 0
IsRestored kept id None new = new ≡ None
IsRestored kept id (Some old) new = IsSomeAnd new (IsNodeRestored kept id old)

-- the node of each id
abbrev pub AreRestored : Kept → Nodes → Nodes → Type 0
AreRestored kept old new = (id : NodeId) → IsRestored kept id (node_at id old) (node_at id new)

-- what fits a space, of the values and of the histories that were kept
abbrev pub kept_for : Nodes → List KeptValue → List KeptValue → Kept
kept_for nodes values histories = read_back (fitting false nodes values) (fitting true nodes histories)

-- ---- words of the contracts: one more value is put in, and all of them are

abbrev pub TakesValue : KeptValue → Nodes → Nodes → Type 0
TakesValue k before after =
    (old : Nodes) (ks : List KeptValue) → AreRestored (read_back (fitting false old ks) []) old before
    → AreRestored (read_back (fitting false old (k ∷ ks)) []) old after

abbrev pub TakesValues : List KeptValue → Nodes → Nodes → Type 0
TakesValues values before after = AreRestored (read_back (fitting false before values) []) before after

abbrev pub TakesPast : KeptValue → Nodes → Nodes → Type 0
TakesPast k before after =
    (old : Nodes) (values ks : List KeptValue) → AreRestored (read_back values (fitting true old ks)) old before
    → AreRestored (read_back values (fitting true old (k ∷ ks))) old after

abbrev pub TakesPasts : List KeptValue → Nodes → Nodes → Type 0
TakesPasts histories before after =
    (old : Nodes) (values : List KeptValue) → AreRestored (read_back values []) old before
    → AreRestored (read_back values (fitting true old histories)) old after
