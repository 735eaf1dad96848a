-- Enumerations of monitored items (IEC 62541-6, 5.2.4): an Int32, of which any value is read.
use Rattle.std.specs.Prelude.{ℕ, List}
use Rattle.ua_subscription_messages.specs.declared.enumerations.MonitoringMode.{MonitoringMode}
use Rattle.ua_subscription_messages.specs.declared.enumerations.DataChangeTrigger.{DataChangeTrigger}
use Rattle.ua_binary.specs.Reading.{Reading}
use Rattle.ua_binary.specs.Enumerations.{enumeration_reading, enumeration_encoding}

abbrev pub monitoring_mode_reading : Reading MonitoringMode
monitoring_mode_reading = enumeration_reading (λ n. record { 0 = n })

abbrev pub monitoring_mode_encoding : MonitoringMode → List ℕ
monitoring_mode_encoding = enumeration_encoding (λ v. v.0)

abbrev pub data_change_trigger_reading : Reading DataChangeTrigger
data_change_trigger_reading = enumeration_reading (λ n. record { 0 = n })

abbrev pub data_change_trigger_encoding : DataChangeTrigger → List ℕ
data_change_trigger_encoding = enumeration_encoding (λ v. v.0)
