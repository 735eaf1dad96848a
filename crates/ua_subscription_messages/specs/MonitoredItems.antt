-- The services that make, change and delete monitored items (IEC 62541-4, section 5, MonitoredItem
-- Service Set).
use Rattle.std.specs.Prelude.{ℕ, List, ◌++◌}
use Rattle.std.specs.Int.{w32}
use Rattle.ua_subscription_messages.specs.declared.monitored_items.MonitoredItemCreateRequest.{MonitoredItemCreateRequest}
use Rattle.ua_subscription_messages.specs.declared.monitored_items.CreateMonitoredItemsRequest.{CreateMonitoredItemsRequest}
use Rattle.ua_subscription_messages.specs.declared.monitored_items.MonitoredItemCreateResult.{MonitoredItemCreateResult}
use Rattle.ua_subscription_messages.specs.declared.monitored_items.MonitoredItemModifyRequest.{MonitoredItemModifyRequest}
use Rattle.ua_subscription_messages.specs.declared.monitored_items.ModifyMonitoredItemsRequest.{ModifyMonitoredItemsRequest}
use Rattle.ua_subscription_messages.specs.declared.monitored_items.MonitoredItemModifyResult.{MonitoredItemModifyResult}
use Rattle.ua_subscription_messages.specs.declared.monitored_items.SetMonitoringModeRequest.{SetMonitoringModeRequest}
use Rattle.ua_subscription_messages.specs.declared.monitored_items.DeleteMonitoredItemsRequest.{DeleteMonitoredItemsRequest}
use Rattle.ua_binary.specs.Reading.{Reading, ◌>>=◌, done}
use Rattle.ua_binary.specs.Numbers.{number_reading, number_encoding}
use Rattle.ua_binary.specs.Arrays.{array_reading, array_encoding}
use Rattle.ua_binary.specs.Scalars.{duration_reading, status_reading, duration_encoding, status_encoding}
use Rattle.ua_binary.specs.ExtensionObjects.{extension_object_reading, extension_object_encoding}
use Rattle.ua_messages.specs.Enumerations.{timestamps_to_return_reading, timestamps_to_return_encoding}
use Rattle.ua_messages.specs.ReadValueIds.{read_value_id_reading, read_value_id_encoding}
use Rattle.ua_subscription_messages.specs.Enumerations.{monitoring_mode_reading, monitoring_mode_encoding}
use Rattle.ua_subscription_messages.specs.MonitoringParameters.{monitoring_parameters_reading, monitoring_parameters_encoding}

unfoldable pub monitored_item_create_request_reading : Reading MonitoredItemCreateRequest
monitored_item_create_request_reading = do
  item_to_monitor ← read_value_id_reading
  monitoring_mode ← monitoring_mode_reading
  requested_parameters ← monitoring_parameters_reading
  done (record {
    item_to_monitor = item_to_monitor;
    monitoring_mode = monitoring_mode;
    requested_parameters = requested_parameters;
  })

unfoldable pub monitored_item_create_request_encoding : MonitoredItemCreateRequest → List ℕ
monitored_item_create_request_encoding v =
    read_value_id_encoding v.item_to_monitor
    ++ monitoring_mode_encoding v.monitoring_mode
    ++ monitoring_parameters_encoding v.requested_parameters

unfoldable pub create_monitored_items_request_reading : Reading CreateMonitoredItemsRequest
create_monitored_items_request_reading = do
  subscription_id ← number_reading w32
  timestamps_to_return ← timestamps_to_return_reading
  items_to_create ← array_reading monitored_item_create_request_reading
  done (record {
    subscription_id = subscription_id;
    timestamps_to_return = timestamps_to_return;
    items_to_create = items_to_create;
  })

unfoldable pub create_monitored_items_request_encoding : CreateMonitoredItemsRequest → List ℕ
create_monitored_items_request_encoding v =
    number_encoding w32 v.subscription_id
    ++ timestamps_to_return_encoding v.timestamps_to_return
    ++ array_encoding monitored_item_create_request_encoding v.items_to_create

unfoldable pub monitored_item_create_result_reading : Reading MonitoredItemCreateResult
monitored_item_create_result_reading = do
  status_code ← status_reading
  monitored_item_id ← number_reading w32
  revised_sampling_interval ← duration_reading
  revised_queue_size ← number_reading w32
  filter_result ← extension_object_reading
  done (record {
    status_code = status_code;
    monitored_item_id = monitored_item_id;
    revised_sampling_interval = revised_sampling_interval;
    revised_queue_size = revised_queue_size;
    filter_result = filter_result;
  })

unfoldable pub monitored_item_create_result_encoding : MonitoredItemCreateResult → List ℕ
monitored_item_create_result_encoding v =
    status_encoding v.status_code
    ++ number_encoding w32 v.monitored_item_id
    ++ duration_encoding v.revised_sampling_interval
    ++ number_encoding w32 v.revised_queue_size
    ++ extension_object_encoding v.filter_result

unfoldable pub monitored_item_modify_request_reading : Reading MonitoredItemModifyRequest
monitored_item_modify_request_reading = do
  monitored_item_id ← number_reading w32
  requested_parameters ← monitoring_parameters_reading
  done (record { monitored_item_id = monitored_item_id; requested_parameters = requested_parameters })

unfoldable pub monitored_item_modify_request_encoding : MonitoredItemModifyRequest → List ℕ
monitored_item_modify_request_encoding v =
    number_encoding w32 v.monitored_item_id
    ++ monitoring_parameters_encoding v.requested_parameters

unfoldable pub modify_monitored_items_request_reading : Reading ModifyMonitoredItemsRequest
modify_monitored_items_request_reading = do
  subscription_id ← number_reading w32
  timestamps_to_return ← timestamps_to_return_reading
  items_to_modify ← array_reading monitored_item_modify_request_reading
  done (record {
    subscription_id = subscription_id;
    timestamps_to_return = timestamps_to_return;
    items_to_modify = items_to_modify;
  })

unfoldable pub modify_monitored_items_request_encoding : ModifyMonitoredItemsRequest → List ℕ
modify_monitored_items_request_encoding v =
    number_encoding w32 v.subscription_id
    ++ timestamps_to_return_encoding v.timestamps_to_return
    ++ array_encoding monitored_item_modify_request_encoding v.items_to_modify

unfoldable pub monitored_item_modify_result_reading : Reading MonitoredItemModifyResult
monitored_item_modify_result_reading = do
  status_code ← status_reading
  revised_sampling_interval ← duration_reading
  revised_queue_size ← number_reading w32
  filter_result ← extension_object_reading
  done (record {
    status_code = status_code;
    revised_sampling_interval = revised_sampling_interval;
    revised_queue_size = revised_queue_size;
    filter_result = filter_result;
  })

unfoldable pub monitored_item_modify_result_encoding : MonitoredItemModifyResult → List ℕ
monitored_item_modify_result_encoding v =
    status_encoding v.status_code
    ++ duration_encoding v.revised_sampling_interval
    ++ number_encoding w32 v.revised_queue_size
    ++ extension_object_encoding v.filter_result

unfoldable pub set_monitoring_mode_request_reading : Reading SetMonitoringModeRequest
set_monitoring_mode_request_reading = do
  subscription_id ← number_reading w32
  monitoring_mode ← monitoring_mode_reading
  monitored_item_ids ← array_reading (number_reading w32)
  done (record {
    subscription_id = subscription_id;
    monitoring_mode = monitoring_mode;
    monitored_item_ids = monitored_item_ids;
  })

unfoldable pub set_monitoring_mode_request_encoding : SetMonitoringModeRequest → List ℕ
set_monitoring_mode_request_encoding v =
    number_encoding w32 v.subscription_id
    ++ monitoring_mode_encoding v.monitoring_mode
    ++ array_encoding (number_encoding w32) v.monitored_item_ids

unfoldable pub delete_monitored_items_request_reading : Reading DeleteMonitoredItemsRequest
delete_monitored_items_request_reading = do
  subscription_id ← number_reading w32
  monitored_item_ids ← array_reading (number_reading w32)
  done (record {
    subscription_id = subscription_id;
    monitored_item_ids = monitored_item_ids;
  })

unfoldable pub delete_monitored_items_request_encoding : DeleteMonitoredItemsRequest → List ℕ
delete_monitored_items_request_encoding v =
    number_encoding w32 v.subscription_id
    ++ array_encoding (number_encoding w32) v.monitored_item_ids
