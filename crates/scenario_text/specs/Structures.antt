-- The structures of requests: what a word says stands in its field, and other fields are null or 0.
use Rattle.std.specs.Prelude.{ℕ, ℤ, pos, Bool, true, false, List, [], ◌∷◌, ◌++◌, fold, replicate, Option, Some, None}
use Rattle.std.specs.Int.{w64, to_le_bytes}
use Rattle.ua_types.specs.NodeIds.{numeric_id}
use Rattle.ua_types.specs.declared.duration.Duration.{Duration}
use Rattle.ua_types.specs.declared.extension_object.ExtensionObject.{ExtensionObject}
use Rattle.ua_types.specs.declared.extension_object.ExtensionObjectBody.TheVariants.{Absent}
use Rattle.ua_types.specs.declared.moment.Moment.{Moment}
use Rattle.ua_types.specs.declared.node_id.NodeId.{NodeId}
use Rattle.ua_types.specs.declared.qualified_name.QualifiedName.{QualifiedName}
use Rattle.ua_messages.specs.Structures.{object_around}
use Rattle.ua_messages.specs.declared.descriptions.ApplicationDescription.{ApplicationDescription}
use Rattle.ua_messages.specs.declared.enumerations.SecurityTokenRequestType.{SecurityTokenRequestType}
use Rattle.ua_messages.specs.declared.headers.RequestHeader.{RequestHeader}
use Rattle.ua_messages.specs.declared.read_value_ids.ReadValueId.{ReadValueId}
use Rattle.ua_messages.specs.declared.type_ids.TheConstants.{DATA_CHANGE_FILTER}
use Rattle.ua_service_messages.specs.declared.browsing.BrowseDescription.{BrowseDescription}
use Rattle.ua_service_messages.specs.declared.history.HistoryReadValueId.{HistoryReadValueId}
use Rattle.ua_service_messages.specs.declared.history.ReadRawModifiedDetails.{ReadRawModifiedDetails}
use Rattle.ua_service_messages.specs.declared.sessions.SignatureData.{SignatureData}
use Rattle.ua_service_messages.specs.declared.writing.WriteValue.{WriteValue}
use Rattle.ua_subscription_messages.specs.MonitoringParameters.{data_change_filter_encoding}
use Rattle.ua_subscription_messages.specs.declared.monitored_items.MonitoredItemCreateRequest.{MonitoredItemCreateRequest}
use Rattle.ua_subscription_messages.specs.declared.monitored_items.MonitoredItemModifyRequest.{MonitoredItemModifyRequest}
use Rattle.ua_subscription_messages.specs.declared.monitoring_parameters.MonitoringParameters.{MonitoringParameters}
use Rattle.ua_subscription_messages.specs.declared.publishing.SubscriptionAcknowledgement.{SubscriptionAcknowledgement}
use Rattle.scenario_text.specs.declared.choices.ChannelRequest.{ChannelRequest}
use Rattle.scenario_text.specs.declared.choices.ChannelRequest.TheVariants.{Issue, Renew}
use Rattle.scenario_text.specs.declared.choices.Discard.{Discard}
use Rattle.scenario_text.specs.declared.choices.Discard.TheVariants.{Oldest, Newest}
use Rattle.scenario_text.specs.declared.choices.Publishing.{Publishing}
use Rattle.scenario_text.specs.declared.choices.Publishing.TheVariants.{On, Off}
use Rattle.scenario_text.specs.declared.choices.Subscriptions.{Subscriptions}
use Rattle.scenario_text.specs.declared.choices.Subscriptions.TheVariants.{Delete, Keep}
use Rattle.scenario_text.specs.declared.requests.Acknowledgement.{Acknowledgement}
use Rattle.scenario_text.specs.declared.requests.Attribute.{Attribute}
use Rattle.scenario_text.specs.declared.requests.LinkChange.{LinkChange}
use Rattle.scenario_text.specs.declared.requests.LinkChange.TheVariants.{Add, Remove}
use Rattle.scenario_text.specs.declared.requests.ChangedItem.{ChangedItem}
use Rattle.scenario_text.specs.declared.requests.Monitoring.{Monitoring}
use Rattle.scenario_text.specs.declared.requests.NewItem.{NewItem}
use Rattle.scenario_text.specs.declared.requests.NewValue.{NewValue}
use Rattle.scenario_text.specs.declared.requests.RawValues.{RawValues}
use Rattle.scenario_text.specs.declared.requests.References.{References}

-- ---- nothing

abbrev pub no_octets : List ℕ
no_octets = replicate 8 0

abbrev pub no_duration : Duration
no_duration = record { 0 = no_octets }

abbrev pub no_time : Moment
no_time = record { 0 = pos 0 }

abbrev pub no_object : ExtensionObject
no_object = record { type_id = numeric_id 0 0; body = Absent }

abbrev pub no_name : QualifiedName
no_name = record { namespace = 0; name = None }

abbrev pub no_signature : SignatureData
no_signature = record { algorithm = None; signature = None }

abbrev pub no_application : ApplicationDescription
no_application = record {
  application_uri = None;
  product_uri = None;
  application_name = record { locale = None; text = None };
  application_type = record { 0 = pos 0 };
  gateway_server_uri = None;
  discovery_profile_uri = None;
  discovery_urls = None;
}

-- ---- something

-- the header of a request: the session's token, or null, and the handle
abbrev pub plain_request : NodeId → ℕ → RequestHeader
plain_request authentication_token request_handle = record {
  authentication_token = authentication_token;
  timestamp = no_time;
  request_handle = request_handle;
  return_diagnostics = 0;
  audit_entry_id = None;
  timeout_hint = 0;
  additional_header = no_object;
}

abbrev pub is_delete : Subscriptions → Bool
is_delete Delete = true
is_delete Keep = false

abbrev pub is_on : Publishing → Bool
is_on On = true
is_on Off = false

abbrev pub is_oldest : Discard → Bool
is_oldest Oldest = true
is_oldest Newest = false

abbrev pub request_type : ChannelRequest → SecurityTokenRequestType
request_type Issue = record { 0 = pos 0 }
request_type Renew = record { 0 = pos 1 }

-- within a range of indices, or the whole value where it is null
abbrev pub attribute_sent : Option (List ℕ) → Attribute → ReadValueId
attribute_sent range a = record { node_id = a.node_id; attribute_id = a.attribute_id; index_range = range; data_encoding = no_name }

-- a value for a range of indices of the attribute Value, 13, or for all of it where the range is null; its status is Good
abbrev pub value_sent : Option (List ℕ) → NewValue → WriteValue
value_sent range v = record {
  node_id = v.node_id;
  attribute_id = 13;
  index_range = range;
  value = record { value = Some v.value; status = record { 0 = 0 }; source_time = v.source_time; server_time = None };
}

abbrev pub description_sent : References → BrowseDescription
description_sent r = record {
  node_id = r.node_id;
  browse_direction = record { 0 = r.direction };
  reference_type_id = r.reference_type_id;
  include_subtypes = r.include_subtypes;
  node_class_mask = r.node_class_mask;
  result_mask = r.result_mask;
}

-- a continuation point: its serial, the lowest byte first
abbrev pub point_sent : ℕ → Option (List ℕ)
point_sent serial = Some (to_le_bytes w64 serial)

abbrev pub last_point_sent : Option ℕ → Option (List ℕ)
last_point_sent None = None
last_point_sent (Some serial) = point_sent serial

abbrev pub details_of : Moment → Moment → ℕ → ReadRawModifiedDetails
details_of start end count =
    record { is_read_modified = false; start_time = start; end_time = end; num_values_per_node = count; return_bounds = false }

abbrev pub details_sent : RawValues → ReadRawModifiedDetails
details_sent v = details_of v.start v.end v.count

abbrev pub history_node_sent : RawValues → HistoryReadValueId
history_node_sent v = record { node_id = v.node_id; index_range = None; data_encoding = no_name; continuation_point = last_point_sent v.point }

-- a filter of changes without a deadband
unfoldable pub filter_sent : ℤ → ExtensionObject
filter_sent trigger =
    object_around DATA_CHANGE_FILTER (data_change_filter_encoding (record { trigger = record { 0 = trigger }; deadband_type = 0; deadband_value = record { 0 = no_octets } }))

abbrev pub parameters_sent : Monitoring → MonitoringParameters
parameters_sent m = record {
  client_handle = m.client_handle;
  sampling_interval = no_duration;
  filter = filter_sent m.trigger;
  queue_size = m.queue_size;
  discard_oldest = is_oldest m.discard;
}

abbrev pub new_item_sent : NewItem → MonitoredItemCreateRequest
new_item_sent i = record {
  item_to_monitor = attribute_sent None i.attribute;
  monitoring_mode = record { 0 = i.mode };
  requested_parameters = parameters_sent i.monitoring;
}

abbrev pub changed_item_sent : ChangedItem → MonitoredItemModifyRequest
changed_item_sent i = record { monitored_item_id = i.item; requested_parameters = parameters_sent i.monitoring }

-- the items that are to be triggered from now on, and those that are to be no longer, each in the order of the line
pub record Links : Type 0 where
  pub added : List ℕ
  pub removed : List ℕ

abbrev pub with_link : Links → LinkChange → Links
with_link links (Add item) = record links { added = links.added ++ item ∷ [] }
with_link links (Remove item) = record links { removed = links.removed ++ item ∷ [] }

abbrev pub links_of : List LinkChange → Links
links_of changes = fold with_link (record { added = []; removed = [] }) changes

abbrev pub acknowledgement_sent : Acknowledgement → SubscriptionAcknowledgement
acknowledgement_sent a = record { subscription_id = a.subscription; sequence_number = a.sequence_number }
