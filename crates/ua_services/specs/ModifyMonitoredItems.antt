-- The service ModifyMonitoredItems.
use Rattle.std.specs.Prelude.{ℕ, List, Option, Some, None, Result, Ok, Err}
use Rattle.ua_types.specs.declared.status.Status.{Status}
use Rattle.ua_types.specs.declared.status.TheConstants.Status as status
use Rattle.ua_messages.specs.declared.type_ids.TheConstants.{MODIFY_MONITORED_ITEMS_RESPONSE}
use Rattle.server_messages.specs.declared.setting.Setting.{Setting}
use Rattle.ua_monitored_items.specs.Items.{all_served, modify_one}
use Rattle.ua_read_write.specs.Timestamps.{timestamps_of}
use Rattle.ua_read_write.specs.declared.timestamps.Timestamps.{Timestamps}
use Rattle.ua_subscription_messages.specs.MonitoredItems.{monitored_item_modify_result_encoding}
use Rattle.ua_subscription_messages.specs.declared.monitored_items.ModifyMonitoredItemsRequest.{ModifyMonitoredItemsRequest}
use Rattle.ua_subscription_messages.specs.declared.monitored_items.MonitoredItemModifyRequest.{MonitoredItemModifyRequest}
use Rattle.ua_services.specs.ItemServing.{Itemed, items_refused, items_answered, items_called}
use Rattle.ua_services.specs.Operations.{operations_of}
use Rattle.ua_services.specs.ServicesState.{Services}
use Rattle.ua_services.specs.Serving.{Serving}
use Rattle.ua_services.specs.declared.caller.Caller.{Caller}

abbrev pub modify_listed : Setting → Caller → ℕ → Services → Timestamps → Result (List MonitoredItemModifyRequest) Status → Itemed
modify_listed setting caller number state times (Ok requests) =
    items_answered monitored_item_modify_result_encoding MODIFY_MONITORED_ITEMS_RESPONSE setting caller
    (all_served (modify_one number times) state.items requests)
modify_listed setting caller number state times (Err code) = items_refused setting caller state code

abbrev pub modify_timed : Setting → Caller → ℕ → Services → Option (List MonitoredItemModifyRequest) → Option Timestamps → Itemed
modify_timed setting caller number state requests None = items_refused setting caller state status.BAD_TIMESTAMPS_TO_RETURN_INVALID
modify_timed setting caller number state requests (Some times) = modify_listed setting caller number state times (operations_of setting.config requests)

-- the times that are wanted are judged first, then the list, then each item gets its other parameters
unfoldable pub items_modified : Setting → Caller → ModifyMonitoredItemsRequest → Services → Itemed
items_modified setting caller request state =
    modify_timed setting caller request.subscription_id state request.items_to_modify (timestamps_of request.timestamps_to_return)

abbrev pub modify_monitored_items_meaning : Setting → Caller → ℕ → ModifyMonitoredItemsRequest → Services → Serving
modify_monitored_items_meaning setting caller session request state =
    items_called setting caller session request.subscription_id state (items_modified setting caller request state)
