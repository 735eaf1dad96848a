-- What a variable's values from before the server began have to be, and the nodes once they are moved out.
use Rattle.std.specs.Prelude.{ℕ, zero, suc, map, Bool, true, false, ◌&&◌, ◌||◌, List, [], ◌∷◌, Option, Some, None, is_some, int_lt}
use Rattle.std.specs.List.{list_all}
use Rattle.ua_types.specs.declared.moment.Moment.{Moment}
use Rattle.ua_types.specs.declared.data_value.DataValue.{DataValue}
use Rattle.ua_types.specs.declared.node_id.NodeId.{NodeId}
use Rattle.ua_space.specs.Nodes.{Nodes}
use Rattle.ua_space.specs.declared.node.Node.{Node}
use Rattle.ua_space.specs.declared.node.NodeDetails.{NodeDetails}
use Rattle.ua_space.specs.declared.node.NodeDetails.TheVariants.{Variable}

-- the node is a Variable, and the server keeps its history
abbrev pub is_historizing : NodeDetails → Bool
is_historizing (Variable v) = v.historizing
is_historizing other = false

-- a time is later than the last one, if there is a last one
abbrev pub follows : Option Moment → Moment → Bool
follows None time = true
follows (Some last) time = int_lt last.0 time.0

-- a source time that is there, and later than the last one
abbrev pub is_later : Option Moment → Option Moment → Bool
is_later last None = false
is_later last (Some time) = follows last time

abbrev pub are_later : Option Moment → List DataValue → Bool
are_later last values = list_all (λ v. is_later last v.source_time) values

-- each value has a source time, and those of all that follow are later
unfoldable pub rises : List DataValue → Bool
rises [] = true
rises (v ∷ vs) = (is_some v.source_time && are_later v.source_time vs) && rises vs

abbrev pub is_none : List DataValue → Bool
is_none [] = true
is_none (v ∷ vs) = false

-- only a node whose history is kept has values from before, by rising source time
abbrev pub is_history : Node → Bool
is_history node = is_none node.history || (is_historizing node.details && rises node.history)

-- ---- histories that are put in and moved out

-- what a node has from before; where there is no node, nothing
abbrev pub history_in : Option (NodeId × Node) → List DataValue
history_in None = []
history_in (Some entry) = entry.1.history

abbrev pub with_history : List DataValue → NodeId × Node → NodeId × Node
with_history values entry = (entry.0, record entry.1 { history = values })

-- the nodes, where the one at a place has these values from before
abbrev pub with_history_in : ℕ → List DataValue → Nodes → Nodes
with_history_in place values [] = []
with_history_in zero values (e ∷ es) = with_history values e ∷ es
with_history_in (suc place) values (e ∷ es) = e ∷ with_history_in place values es

abbrev pub without_history : NodeId × Node → NodeId × Node
without_history entry = with_history [] entry

-- the nodes, where the one at a place has nothing from before
abbrev pub without_history_in : ℕ → Nodes → Nodes
without_history_in place nodes = with_history_in place [] nodes

-- the nodes, where none has anything from before
abbrev pub without_histories : Nodes → Nodes
without_histories nodes = map without_history nodes
