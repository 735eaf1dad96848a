-- The service SetMonitoringMode.
use Rattle.std.specs.Prelude.{ℕ, List, Option, Some, None, Result, Ok, Err}
use Rattle.ua_types.specs.declared.status.Status.{Status}
use Rattle.ua_types.specs.declared.status.TheConstants.Status as status
use Rattle.ua_binary.specs.Scalars.{status_encoding}
use Rattle.ua_messages.specs.declared.type_ids.TheConstants.{SET_MONITORING_MODE_RESPONSE}
use Rattle.server_messages.specs.declared.setting.Setting.{Setting}
use Rattle.ua_monitored_items.specs.Kinds.{mode_numbered}
use Rattle.ua_monitored_items.specs.Releases.{modes_set}
use Rattle.ua_monitored_items.specs.declared.kinds.Mode.{Mode}
use Rattle.ua_subscription_messages.specs.declared.monitored_items.SetMonitoringModeRequest.{SetMonitoringModeRequest}
use Rattle.ua_services.specs.ItemServing.{Itemed, items_refused, items_answered, items_called}
use Rattle.ua_services.specs.Operations.{operations_of}
use Rattle.ua_services.specs.ServicesState.{Services}
use Rattle.ua_services.specs.Serving.{Serving}
use Rattle.ua_services.specs.declared.caller.Caller.{Caller}

abbrev pub moded_all : Setting → Caller → ℕ → Services → List ℕ → Option Mode → Itemed
moded_all setting caller number state numbers None = items_refused setting caller state status.BAD_MONITORING_MODE_INVALID
moded_all setting caller number state numbers (Some mode) =
    items_answered status_encoding SET_MONITORING_MODE_RESPONSE setting caller
    (modes_set state.space.nodes setting.clock number mode state.items numbers)

abbrev pub moded_listed : Setting → Caller → ℕ → Services → Option Mode → Result (List ℕ) Status → Itemed
moded_listed setting caller number state mode (Ok numbers) = moded_all setting caller number state numbers mode
moded_listed setting caller number state mode (Err code) = items_refused setting caller state code

-- the list is judged first, then the mode, then each item gets it
unfoldable pub items_moded : Setting → Caller → SetMonitoringModeRequest → Services → Itemed
items_moded setting caller request state =
    moded_listed setting caller request.subscription_id state (mode_numbered request.monitoring_mode) (operations_of setting.config request.monitored_item_ids)

abbrev pub set_monitoring_mode_meaning : Setting → Caller → ℕ → SetMonitoringModeRequest → Services → Serving
set_monitoring_mode_meaning setting caller session request state =
    items_called setting caller session request.subscription_id state (items_moded setting caller request state)
