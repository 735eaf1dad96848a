-- What an item does, and which changes it takes (IEC 62541-4, section 7, MonitoringMode and DataChangeFilter).
use Rattle.std.specs.Prelude.{◌==◌, ◌&&◌, Bool, true, false, pos, Option, Some, None, Result, Ok, Err, if◌then◌else◌}
use Rattle.std.specs.Ordering.{int_eq}
use Rattle.ua_types.specs.NodeIds.{is_null_id}
use Rattle.ua_types.specs.declared.extension_object.ExtensionObject.{ExtensionObject}
use Rattle.ua_types.specs.declared.extension_object.ExtensionObjectBody.{ExtensionObjectBody}
use Rattle.ua_types.specs.declared.extension_object.ExtensionObjectBody.TheVariants.{Absent}
use Rattle.ua_messages.specs.Structures.{structure_of}
use Rattle.ua_messages.specs.declared.structures.StructureFault.{StructureFault}
use Rattle.ua_messages.specs.declared.type_ids.TheConstants.{DATA_CHANGE_FILTER}
use Rattle.ua_subscription_messages.specs.MonitoringParameters.{data_change_filter_reading}
use Rattle.ua_subscription_messages.specs.declared.enumerations.MonitoringMode.{MonitoringMode}
use Rattle.ua_subscription_messages.specs.declared.enumerations.DataChangeTrigger.{DataChangeTrigger}
use Rattle.ua_subscription_messages.specs.declared.monitoring_parameters.DataChangeFilter.{DataChangeFilter}
use Rattle.ua_monitored_items.specs.declared.kinds.Mode.{Mode}
use Rattle.ua_monitored_items.specs.declared.kinds.Mode.TheVariants as modes
use Rattle.ua_monitored_items.specs.declared.kinds.Trigger.{Trigger}
use Rattle.ua_monitored_items.specs.declared.kinds.Trigger.TheVariants as triggers

-- a mode by its number
abbrev pub mode_numbered : MonitoringMode → Option Mode
mode_numbered mode =
    if int_eq mode.0 (pos 0) then Some modes.Disabled
    else if int_eq mode.0 (pos 1) then Some modes.Sampling
    else if int_eq mode.0 (pos 2) then Some modes.Reporting
    else None

-- a trigger by its number
abbrev pub trigger_numbered : DataChangeTrigger → Option Trigger
trigger_numbered trigger =
    if int_eq trigger.0 (pos 0) then Some triggers.Status
    else if int_eq trigger.0 (pos 1) then Some triggers.StatusValue
    else if int_eq trigger.0 (pos 2) then Some triggers.StatusValueTime
    else None

abbrev pub is_absent : ExtensionObjectBody → Bool
is_absent Absent = true
is_absent body = false

-- no filter: the null id, and no body
abbrev pub is_null_filter : ExtensionObject → Bool
is_null_filter filter = is_null_id filter.type_id && is_absent filter.body

-- a filter with a trigger that has a meaning, and without a deadband
abbrev pub trigger_in : Result DataChangeFilter StructureFault → Option Trigger
trigger_in (Ok filter) = if filter.deadband_type == 0 then trigger_numbered filter.trigger else None
trigger_in (Err fault) = None

-- which changes a filter lets through, if the server has the filter; without one, each of the status or the value
unfoldable pub trigger_of : ExtensionObject → Option Trigger
trigger_of filter =
    if is_null_filter filter then Some triggers.StatusValue
    else trigger_in (structure_of data_change_filter_reading DATA_CHANGE_FILTER filter)
