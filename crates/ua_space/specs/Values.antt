-- The variables among the nodes, and their values.
use Rattle.std.specs.Prelude.{Bool, false, Option, Some, None, option_map}
use Rattle.std.specs.BTreeMap.{is_at}
use Rattle.std.specs.Map.{set_value}
use Rattle.ua_types.specs.NodeIdOrder.{id_cmp}
use Rattle.ua_types.specs.declared.node_id.NodeId.{NodeId}
use Rattle.ua_types.specs.declared.data_value.DataValue.{DataValue}
use Rattle.ua_types.specs.declared.variant.Variant.{Variant}
use Rattle.ua_space.specs.declared.node.Node.{Node}
use Rattle.ua_space.specs.declared.node.NodeDetails.{NodeDetails}
use Rattle.ua_space.specs.declared.node.NodeDetails.TheVariants.{Variable}
use Rattle.ua_space.specs.Variables.{VariableAttributes, takes_if_any}
use Rattle.ua_space.specs.Nodes.{Nodes, node_at}

abbrev pub variable_in : NodeDetails → Option VariableAttributes
variable_in (Variable v) = Some v
variable_in other = None

abbrev pub variable_of : Option Node → Option VariableAttributes
variable_of None = None
variable_of (Some node) = variable_in node.details

-- the variable with an id
abbrev pub variable_at : NodeId → Nodes → Option VariableAttributes
variable_at id nodes = variable_of (node_at id nodes)

-- its value
abbrev pub value_at : NodeId → Nodes → Option DataValue
value_at id nodes = option_map (λ v. v.value) (variable_at id nodes)

abbrev pub variable_takes : Option VariableAttributes → Option Variant → Bool
variable_takes None value = false
variable_takes (Some v) value = takes_if_any v value

-- there is a variable with this id, and it takes the value, which is there
abbrev pub takes_at : NodeId → DataValue → Nodes → Bool
takes_at id value nodes = variable_takes (variable_at id nodes) value.value

abbrev pub holding : DataValue → NodeDetails → NodeDetails
holding value (Variable v) = Variable (record v { value = value })
holding value other = other

abbrev pub put : NodeId → DataValue → Nodes → Option Node → Nodes
put id value nodes None = nodes
put id value nodes (Some node) = set_value (is_at (id_cmp id)) nodes (record node { details = holding value node.details })

-- the nodes with another value at the variable with an id
abbrev pub with_value : NodeId → DataValue → Nodes → Nodes
with_value id value nodes = put id value nodes (node_at id nodes)
