-- What sessions ask, word by word.
use Rattle.std.specs.Prelude.{ℕ, ◌+◌, ◌-◌, ◌^◌, List, codes, Option, Some, None, option_map, Result, Ok, Err, ◌==◌, if◌then◌else◌}
use Rattle.std.specs.List.{before_first, after_first}
use Rattle.std.specs.Str.{bytes_eq}
use Rattle.ua_types.specs.IdTexts.{behind, or_else, number_of}
use Rattle.ua_types.specs.declared.moment.Moment.{Moment}
use Rattle.std.specs.Option.{ok_or}
use Rattle.scenario_text.specs.Choices.{discard_reading}
use Rattle.scenario_text.specs.Entries.{while_more}
use Rattle.scenario_text.specs.Numbers.{signed_of, byte_reading, number_reading, long_number_reading, signed_number_reading, moment_reading, truth_reading, id_reading}
use Rattle.scenario_text.specs.Readings.{Reading, ◌>>=◌, done, judged}
use Rattle.scenario_text.specs.Values.{value_reading}
use Rattle.scenario_text.specs.Words.{word}
use Rattle.scenario_text.specs.declared.fault.Cause.{Cause}
use Rattle.scenario_text.specs.declared.fault.Cause.TheVariants.{Word, Number}
use Rattle.scenario_text.specs.declared.requests.Acknowledgement.{Acknowledgement}
use Rattle.scenario_text.specs.declared.requests.Attribute.{Attribute}
use Rattle.scenario_text.specs.declared.requests.ChangedItem.{ChangedItem}
use Rattle.scenario_text.specs.declared.requests.Counts.{Counts}
use Rattle.scenario_text.specs.declared.requests.LinkChange.{LinkChange}
use Rattle.scenario_text.specs.declared.requests.LinkChange.TheVariants.{Add, Remove}
use Rattle.scenario_text.specs.declared.requests.Monitoring.{Monitoring}
use Rattle.scenario_text.specs.declared.requests.NewItem.{NewItem}
use Rattle.scenario_text.specs.declared.requests.NewValue.{NewValue}
use Rattle.scenario_text.specs.declared.requests.RawValues.{RawValues}
use Rattle.scenario_text.specs.declared.requests.References.{References}

-- ID ATTR
unfoldable pub attribute_reading : Reading Attribute
attribute_reading = do
  node_id ← id_reading
  attribute_id ← number_reading
  done (record { node_id = node_id; attribute_id = attribute_id })

-- TIME: a moment, or `-` for none
abbrev pub source_time_of : List ℕ → Result (Option Moment) Cause
source_time_of t =
    if bytes_eq t (codes "-") then Ok None
    else ok_or (option_map (λ steps. Some (record { 0 = steps })) (signed_of (2 ^ 63) (2 ^ 63 - 1) t)) Number

unfoldable pub source_time_reading : Reading (Option Moment)
source_time_reading = do
  t ← word
  judged (source_time_of t)

-- ID TYPE VALUE TIME
unfoldable pub new_value_reading : Reading NewValue
new_value_reading = do
  node_id ← id_reading
  value ← value_reading
  source_time ← source_time_reading
  done (record { node_id = node_id; value = value; source_time = source_time })

-- MAX ID DIR REF true|false CLASSES RESULT
unfoldable pub references_reading : Reading References
references_reading = do
  max_references ← number_reading
  node_id ← id_reading
  direction ← signed_number_reading
  reference_type_id ← id_reading
  include_subtypes ← truth_reading
  node_class_mask ← number_reading
  result_mask ← number_reading
  done (record {
    max_references = max_references;
    node_id = node_id;
    direction = direction;
    reference_type_id = reference_type_id;
    include_subtypes = include_subtypes;
    node_class_mask = node_class_mask;
    result_mask = result_mask;
  })

-- POINT, where a further word stands
unfoldable pub last_point_reading : Reading (Option ℕ)
last_point_reading = while_more (do
  point ← long_number_reading
  done (Some point)) None

-- TS START END COUNT ID [POINT]
unfoldable pub raw_values_reading : Reading RawValues
raw_values_reading = do
  timestamps ← signed_number_reading
  start ← moment_reading
  end ← moment_reading
  count ← number_reading
  node_id ← id_reading
  point ← last_point_reading
  done (record { timestamps = timestamps; start = start; end = end; count = count; node_id = node_id; point = point })

-- LIFE KEEP NOTES PRIORITY
unfoldable pub counts_reading : Reading Counts
counts_reading = do
  lifetime ← number_reading
  max_keep_alive ← number_reading
  max_notifications ← number_reading
  priority ← byte_reading
  done (record { lifetime = lifetime; max_keep_alive = max_keep_alive; max_notifications = max_notifications; priority = priority })

-- HANDLE QUEUE oldest|newest TRIGGER
unfoldable pub monitoring_reading : Reading Monitoring
monitoring_reading = do
  client_handle ← number_reading
  queue_size ← number_reading
  discard ← discard_reading
  trigger ← signed_number_reading
  done (record { client_handle = client_handle; queue_size = queue_size; discard = discard; trigger = trigger })

-- SUB TS ID ATTR MODE HANDLE QUEUE oldest|newest TRIGGER
unfoldable pub new_item_reading : Reading NewItem
new_item_reading = do
  subscription ← number_reading
  timestamps ← signed_number_reading
  attribute ← attribute_reading
  mode ← signed_number_reading
  monitoring ← monitoring_reading
  done (record { subscription = subscription; timestamps = timestamps; attribute = attribute; mode = mode; monitoring = monitoring })

-- SUB TS ITEM HANDLE QUEUE oldest|newest TRIGGER
unfoldable pub changed_item_reading : Reading ChangedItem
changed_item_reading = do
  subscription ← number_reading
  timestamps ← signed_number_reading
  item ← number_reading
  monitoring ← monitoring_reading
  done (record { subscription = subscription; timestamps = timestamps; item = item; monitoring = monitoring })

-- +ID or -ID
abbrev pub added_link : Option ℕ → Result LinkChange Cause
added_link number = ok_or (option_map Add number) Number

abbrev pub removed_link : Option ℕ → Result LinkChange Cause
removed_link number = ok_or (option_map Remove number) Number

unfoldable pub link_change_of : List ℕ → Result LinkChange Cause
link_change_of t =
    or_else (behind (codes "+") t) (λ digits. added_link (number_of (0xffff_ffff + 1) digits))
    (or_else (behind (codes "-") t) (λ digits. removed_link (number_of (0xffff_ffff + 1) digits))
    (Err Word))

unfoldable pub link_change_reading : Reading LinkChange
link_change_reading = do
  t ← word
  judged (link_change_of t)

-- SUB:NUMBER
abbrev pub numbered : Option ℕ → Option ℕ → Option Acknowledgement
numbered (Some subscription) (Some sequence_number) = Some (record { subscription = subscription; sequence_number = sequence_number })
numbered _ _ = None

abbrev pub acknowledgement_of : List ℕ → Option Acknowledgement
acknowledgement_of t =
    numbered (number_of (0xffff_ffff + 1) (before_first (λ b. b == 58) t)) (number_of (0xffff_ffff + 1) (after_first (λ b. b == 58) t))

unfoldable pub acknowledgement_reading : Reading Acknowledgement
acknowledgement_reading = do
  t ← word
  judged (ok_or (acknowledgement_of t) Number)
