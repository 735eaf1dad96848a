-- How a monitored item takes and keeps its values (IEC 62541-4, section 7).
use Rattle.std.specs.Prelude.{ℕ, List, ◌++◌}
use Rattle.std.specs.Int.{w32}
use Rattle.ua_subscription_messages.specs.declared.monitoring_parameters.MonitoringParameters.{MonitoringParameters}
use Rattle.ua_subscription_messages.specs.declared.monitoring_parameters.DataChangeFilter.{DataChangeFilter}
use Rattle.ua_binary.specs.Reading.{Reading, ◌>>=◌, done}
use Rattle.ua_binary.specs.Numbers.{boolean_reading, number_reading, boolean_encoding, number_encoding}
use Rattle.ua_binary.specs.Floats.{double_reading, double_encoding}
use Rattle.ua_binary.specs.Scalars.{duration_reading, duration_encoding}
use Rattle.ua_binary.specs.ExtensionObjects.{extension_object_reading, extension_object_encoding}
use Rattle.ua_subscription_messages.specs.Enumerations.{data_change_trigger_reading, data_change_trigger_encoding}

unfoldable pub monitoring_parameters_reading : Reading MonitoringParameters
monitoring_parameters_reading = do
  client_handle ← number_reading w32
  sampling_interval ← duration_reading
  filter ← extension_object_reading
  queue_size ← number_reading w32
  discard_oldest ← boolean_reading
  done (record {
    client_handle = client_handle;
    sampling_interval = sampling_interval;
    filter = filter;
    queue_size = queue_size;
    discard_oldest = discard_oldest;
  })

unfoldable pub monitoring_parameters_encoding : MonitoringParameters → List ℕ
monitoring_parameters_encoding v =
    number_encoding w32 v.client_handle
    ++ duration_encoding v.sampling_interval
    ++ extension_object_encoding v.filter
    ++ number_encoding w32 v.queue_size
    ++ boolean_encoding v.discard_oldest

-- the deadband's value is carried as it is; where its type is 0 it has no meaning
unfoldable pub data_change_filter_reading : Reading DataChangeFilter
data_change_filter_reading = do
  trigger ← data_change_trigger_reading
  deadband_type ← number_reading w32
  deadband_value ← double_reading
  done (record {
    trigger = trigger;
    deadband_type = deadband_type;
    deadband_value = deadband_value;
  })

unfoldable pub data_change_filter_encoding : DataChangeFilter → List ℕ
data_change_filter_encoding v =
    data_change_trigger_encoding v.trigger
    ++ number_encoding w32 v.deadband_type
    ++ double_encoding v.deadband_value
