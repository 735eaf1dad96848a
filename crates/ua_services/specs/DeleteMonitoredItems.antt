-- The service DeleteMonitoredItems.
use Rattle.std.specs.Prelude.{ℕ, List, Result, Ok, Err}
use Rattle.ua_types.specs.declared.status.Status.{Status}
use Rattle.ua_binary.specs.Scalars.{status_encoding}
use Rattle.ua_messages.specs.declared.type_ids.TheConstants.{DELETE_MONITORED_ITEMS_RESPONSE}
use Rattle.server_messages.specs.declared.setting.Setting.{Setting}
use Rattle.ua_monitored_items.specs.Items.{all_served, delete_one}
use Rattle.ua_subscription_messages.specs.declared.monitored_items.DeleteMonitoredItemsRequest.{DeleteMonitoredItemsRequest}
use Rattle.ua_services.specs.ItemServing.{Itemed, items_refused, items_answered, items_called}
use Rattle.ua_services.specs.Operations.{operations_of}
use Rattle.ua_services.specs.ServicesState.{Services}
use Rattle.ua_services.specs.Serving.{Serving}
use Rattle.ua_services.specs.declared.caller.Caller.{Caller}

abbrev pub deleted_listed : Setting → Caller → ℕ → Services → Result (List ℕ) Status → Itemed
deleted_listed setting caller number state (Ok numbers) =
    items_answered status_encoding DELETE_MONITORED_ITEMS_RESPONSE setting caller (all_served (delete_one number) state.items numbers)
deleted_listed setting caller number state (Err code) = items_refused setting caller state code

-- the list is judged first, then each item goes
unfoldable pub items_deleted : Setting → Caller → DeleteMonitoredItemsRequest → Services → Itemed
items_deleted setting caller request state =
    deleted_listed setting caller request.subscription_id state (operations_of setting.config request.monitored_item_ids)

abbrev pub delete_monitored_items_meaning : Setting → Caller → ℕ → DeleteMonitoredItemsRequest → Services → Serving
delete_monitored_items_meaning setting caller session request state =
    items_called setting caller session request.subscription_id state (items_deleted setting caller request state)
