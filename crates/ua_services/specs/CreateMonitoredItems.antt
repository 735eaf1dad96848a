-- The service CreateMonitoredItems.
use Rattle.std.specs.Prelude.{ℕ, List, Option, Some, None, Result, Ok, Err}
use Rattle.ua_types.specs.declared.status.Status.{Status}
use Rattle.ua_types.specs.declared.status.TheConstants.Status as status
use Rattle.ua_messages.specs.declared.type_ids.TheConstants.{CREATE_MONITORED_ITEMS_RESPONSE}
use Rattle.server_messages.specs.declared.setting.Setting.{Setting}
use Rattle.ua_monitored_items.specs.Items.{all_served, create_one}
use Rattle.ua_read_write.specs.Timestamps.{timestamps_of}
use Rattle.ua_read_write.specs.declared.timestamps.Timestamps.{Timestamps}
use Rattle.ua_subscription_messages.specs.MonitoredItems.{monitored_item_create_result_encoding}
use Rattle.ua_subscription_messages.specs.declared.monitored_items.CreateMonitoredItemsRequest.{CreateMonitoredItemsRequest}
use Rattle.ua_subscription_messages.specs.declared.monitored_items.MonitoredItemCreateRequest.{MonitoredItemCreateRequest}
use Rattle.ua_services.specs.ItemServing.{Itemed, items_refused, items_answered, items_called}
use Rattle.ua_services.specs.Operations.{operations_of}
use Rattle.ua_services.specs.ServicesState.{Services}
use Rattle.ua_services.specs.Serving.{Serving}
use Rattle.ua_services.specs.declared.caller.Caller.{Caller}

abbrev pub create_listed : Setting → Caller → ℕ → Services → Timestamps → Result (List MonitoredItemCreateRequest) Status → Itemed
create_listed setting caller number state times (Ok requests) =
    items_answered monitored_item_create_result_encoding CREATE_MONITORED_ITEMS_RESPONSE setting caller
    (all_served (create_one state.space.nodes setting.clock number times) state.items requests)
create_listed setting caller number state times (Err code) = items_refused setting caller state code

abbrev pub create_timed : Setting → Caller → ℕ → Services → Option (List MonitoredItemCreateRequest) → Option Timestamps → Itemed
create_timed setting caller number state requests None = items_refused setting caller state status.BAD_TIMESTAMPS_TO_RETURN_INVALID
create_timed setting caller number state requests (Some times) = create_listed setting caller number state times (operations_of setting.config requests)

-- the times that are wanted are judged first, then the list, then each item is made
unfoldable pub items_created : Setting → Caller → CreateMonitoredItemsRequest → Services → Itemed
items_created setting caller request state =
    create_timed setting caller request.subscription_id state request.items_to_create (timestamps_of request.timestamps_to_return)

abbrev pub create_monitored_items_meaning : Setting → Caller → ℕ → CreateMonitoredItemsRequest → Services → Serving
create_monitored_items_meaning setting caller session request state =
    items_called setting caller session request.subscription_id state (items_created setting caller request state)
