-- Which of the values that a store has kept a space takes, and why it doesn't take the others.
use Rattle.std.specs.Prelude.{Bool, not, ◌&&◌, List, Option, Some, None, option_map, is_none, if◌then◌else◌}
use Rattle.std.specs.List.{filter, filter_map}
use Rattle.ua_types.specs.declared.data_value.DataValue.{DataValue}
use Rattle.ua_space.specs.Nodes.{Nodes, node_at}
use Rattle.ua_space.specs.Values.{variable_in}
use Rattle.ua_space.specs.Variables.{VariableAttributes, takes_if_any}
use Rattle.ua_space.specs.declared.node.Node.{Node}
use Rattle.server_messages.specs.declared.kept_values.KeptValue.{KeptValue}
use Rattle.store_restoring.specs.declared.left_out.LeftOut.{LeftOut}
use Rattle.store_restoring.specs.declared.left_out.Misfit.{Misfit}
use Rattle.store_restoring.specs.declared.left_out.Misfit.TheVariants as misfits

-- a value fits a variable that takes it; into a history, where one is kept, under its source's time
abbrev pub variable_misfit : Bool → DataValue → Option VariableAttributes → Option Misfit
variable_misfit is_historical value None = Some misfits.NotAVariable
variable_misfit is_historical value (Some v) =
    if is_historical && not v.historizing then Some misfits.NotHistorizing
    else if is_historical && is_none value.source_time then Some misfits.Untimed
    else if takes_if_any v value.value then None
    else Some misfits.OtherType

abbrev pub node_misfit : Bool → DataValue → Option Node → Option Misfit
node_misfit is_historical value None = Some misfits.NoNode
node_misfit is_historical value (Some node) = variable_misfit is_historical value (variable_in node.details)

-- why a space doesn't take a value that was kept, as the value of its node or into its history; None where it takes it
abbrev pub misfit : Bool → Nodes → KeptValue → Option Misfit
misfit is_historical nodes k = node_misfit is_historical k.value (node_at k.node_id nodes)

-- those that it takes
abbrev pub fitting : Bool → Nodes → List KeptValue → List KeptValue
fitting is_historical nodes ks = filter (λ k. is_none (misfit is_historical nodes k)) ks

abbrev pub left_out_for : Bool → KeptValue → Option Misfit → Option LeftOut
left_out_for is_historical k why = option_map (λ w. record { kept = k; is_historical = is_historical; why = w }) why

-- and the others, with why
abbrev pub left_out : Bool → Nodes → List KeptValue → List LeftOut
left_out is_historical nodes ks = filter_map (λ k. left_out_for is_historical k (misfit is_historical nodes k)) ks
