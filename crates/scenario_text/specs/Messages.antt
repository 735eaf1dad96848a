-- What each statement asks, as the fields of a request behind its header: those that no word says are null or 0.
use Rattle.std.specs.Prelude.{ℕ, ℤ, pos, Bool, true, false, List, [], ◌∷◌, map, Option, Some, None}
use Rattle.ua_types.specs.NodeIds.{numeric_id}
use Rattle.ua_messages.specs.Bodies.{body_encoding}
use Rattle.ua_messages.specs.Structures.{object_around}
use Rattle.ua_messages.specs.declared.get_endpoints.GetEndpointsRequest.{GetEndpointsRequest}
use Rattle.ua_messages.specs.declared.secure_channels.CloseSecureChannelRequest.{CloseSecureChannelRequest}
use Rattle.ua_messages.specs.declared.secure_channels.OpenSecureChannelRequest.{OpenSecureChannelRequest}
use Rattle.ua_service_messages.specs.declared.browsing.BrowseNextRequest.{BrowseNextRequest}
use Rattle.ua_service_messages.specs.declared.browsing.BrowseRequest.{BrowseRequest}
use Rattle.ua_service_messages.specs.declared.history.HistoryReadRequest.{HistoryReadRequest}
use Rattle.ua_service_messages.specs.declared.reading.ReadRequest.{ReadRequest}
use Rattle.ua_service_messages.specs.declared.sessions.ActivateSessionRequest.{ActivateSessionRequest}
use Rattle.ua_service_messages.specs.declared.sessions.CloseSessionRequest.{CloseSessionRequest}
use Rattle.ua_service_messages.specs.declared.sessions.CreateSessionRequest.{CreateSessionRequest}
use Rattle.ua_service_messages.specs.declared.writing.WriteRequest.{WriteRequest}
use Rattle.ua_subscription_messages.specs.declared.monitored_items.CreateMonitoredItemsRequest.{CreateMonitoredItemsRequest}
use Rattle.ua_subscription_messages.specs.declared.monitored_items.DeleteMonitoredItemsRequest.{DeleteMonitoredItemsRequest}
use Rattle.ua_subscription_messages.specs.declared.monitored_items.ModifyMonitoredItemsRequest.{ModifyMonitoredItemsRequest}
use Rattle.ua_subscription_messages.specs.declared.monitored_items.SetMonitoringModeRequest.{SetMonitoringModeRequest}
use Rattle.ua_subscription_messages.specs.declared.publishing.PublishRequest.{PublishRequest}
use Rattle.ua_subscription_messages.specs.declared.publishing.RepublishRequest.{RepublishRequest}
use Rattle.ua_subscription_messages.specs.declared.subscriptions.CreateSubscriptionRequest.{CreateSubscriptionRequest}
use Rattle.ua_subscription_messages.specs.declared.subscriptions.DeleteSubscriptionsRequest.{DeleteSubscriptionsRequest}
use Rattle.ua_subscription_messages.specs.declared.subscriptions.ModifySubscriptionRequest.{ModifySubscriptionRequest}
use Rattle.ua_subscription_messages.specs.declared.subscriptions.SetPublishingModeRequest.{SetPublishingModeRequest}
use Rattle.ua_subscription_messages.specs.declared.triggering.SetTriggeringRequest.{SetTriggeringRequest}
use Rattle.ua_messages.specs.declared.headers.RequestHeader.{RequestHeader}
use Rattle.ua_messages.specs.declared.type_ids.TheConstants.{ACTIVATE_SESSION_REQUEST, BROWSE_NEXT_REQUEST, BROWSE_REQUEST, CLOSE_SECURE_CHANNEL_REQUEST, CLOSE_SESSION_REQUEST, CREATE_MONITORED_ITEMS_REQUEST, CREATE_SESSION_REQUEST, CREATE_SUBSCRIPTION_REQUEST, DELETE_MONITORED_ITEMS_REQUEST, DELETE_SUBSCRIPTIONS_REQUEST, GET_ENDPOINTS_REQUEST, HISTORY_READ_REQUEST, MODIFY_MONITORED_ITEMS_REQUEST, MODIFY_SUBSCRIPTION_REQUEST, OPEN_SECURE_CHANNEL_REQUEST, PUBLISH_REQUEST, READ_RAW_MODIFIED_DETAILS, READ_REQUEST, REPUBLISH_REQUEST, SET_MONITORING_MODE_REQUEST, SET_PUBLISHING_MODE_REQUEST, SET_TRIGGERING_REQUEST, WRITE_REQUEST}
use Rattle.ua_service_messages.specs.Browsing.{browse_next_request_encoding, browse_next_request_reading, browse_request_encoding, browse_request_reading}
use Rattle.ua_service_messages.specs.History.{history_read_request_encoding, history_read_request_reading, read_raw_modified_details_encoding}
use Rattle.ua_service_messages.specs.Reading.{read_request_encoding, read_request_reading}
use Rattle.ua_service_messages.specs.Sessions.{activate_session_request_encoding, activate_session_request_reading, close_session_request_encoding, close_session_request_reading, create_session_request_encoding, create_session_request_reading}
use Rattle.ua_service_messages.specs.Writing.{write_request_encoding, write_request_reading}
use Rattle.ua_subscription_messages.specs.MonitoredItems.{create_monitored_items_request_encoding, create_monitored_items_request_reading, delete_monitored_items_request_encoding, delete_monitored_items_request_reading, modify_monitored_items_request_encoding, modify_monitored_items_request_reading, set_monitoring_mode_request_encoding, set_monitoring_mode_request_reading}
use Rattle.ua_subscription_messages.specs.Publishing.{publish_request_encoding, publish_request_reading, republish_request_encoding, republish_request_reading}
use Rattle.ua_subscription_messages.specs.Triggering.{set_triggering_request_encoding, set_triggering_request_reading}
use Rattle.ua_subscription_messages.specs.Subscriptions.{create_subscription_request_encoding, create_subscription_request_reading, delete_subscriptions_request_encoding, delete_subscriptions_request_reading, modify_subscription_request_encoding, modify_subscription_request_reading, set_publishing_mode_request_encoding, set_publishing_mode_request_reading}
use Rattle.ua_messages.specs.GetEndpoints.{get_endpoints_request_encoding, get_endpoints_request_reading}
use Rattle.ua_messages.specs.SecureChannels.{close_secure_channel_request_encoding, close_secure_channel_request_reading, open_secure_channel_request_encoding, open_secure_channel_request_reading}
use Rattle.scenario_text.specs.declared.choices.ChannelRequest.{ChannelRequest}
use Rattle.scenario_text.specs.declared.choices.Publishing.{Publishing}
use Rattle.scenario_text.specs.declared.choices.Subscriptions.{Subscriptions}
use Rattle.scenario_text.specs.declared.requests.Acknowledgement.{Acknowledgement}
use Rattle.scenario_text.specs.declared.requests.Attribute.{Attribute}
use Rattle.scenario_text.specs.declared.requests.ChangedItem.{ChangedItem}
use Rattle.scenario_text.specs.declared.requests.Counts.{Counts}
use Rattle.scenario_text.specs.declared.requests.LinkChange.{LinkChange}
use Rattle.scenario_text.specs.declared.requests.NewItem.{NewItem}
use Rattle.scenario_text.specs.declared.requests.NewValue.{NewValue}
use Rattle.scenario_text.specs.declared.requests.RawValues.{RawValues}
use Rattle.scenario_text.specs.declared.requests.References.{References}
use Rattle.scenario_text.specs.declared.statement.SessionRequest.{SessionRequest}
use Rattle.scenario_text.specs.declared.statement.SessionRequest.TheVariants as requests
use Rattle.scenario_text.specs.Bodies.{IsWholeBody, IsWholeRequest, request_encoding}
use Rattle.scenario_text.specs.Structures.{no_duration, no_time, no_object, no_signature, no_application, is_delete, is_on, request_type, attribute_sent, value_sent, description_sent, point_sent, details_sent, history_node_sent, new_item_sent, changed_item_sent, acknowledgement_sent, Links, links_of}

-- ---- what sessions ask

abbrev pub read_fields : ℤ → List Attribute → Option (List ℕ) → ReadRequest
read_fields timestamps attributes range = record {
  max_age = no_duration;
  timestamps_to_return = record { 0 = timestamps };
  nodes_to_read = Some (map (attribute_sent range) attributes);
}

unfoldable pub read_body : RequestHeader → ℤ → List Attribute → Option (List ℕ) → List ℕ
read_body header timestamps attributes range = request_encoding read_request_encoding READ_REQUEST header (read_fields timestamps attributes range)

abbrev pub write_fields : List NewValue → Option (List ℕ) → WriteRequest
write_fields values range = record {
  nodes_to_write = Some (map (value_sent range) values);
}

unfoldable pub write_body : RequestHeader → List NewValue → Option (List ℕ) → List ℕ
write_body header values range = request_encoding write_request_encoding WRITE_REQUEST header (write_fields values range)

abbrev pub browse_fields : References → BrowseRequest
browse_fields references = record {
  view_id = numeric_id 0 0;
  view_timestamp = no_time;
  view_version = 0;
  requested_max_references_per_node = references.max_references;
  nodes_to_browse = Some (description_sent references ∷ []);
}

unfoldable pub browse_body : RequestHeader → References → List ℕ
browse_body header references = request_encoding browse_request_encoding BROWSE_REQUEST header (browse_fields references)

abbrev pub browse_next_fields : Bool → List ℕ → BrowseNextRequest
browse_next_fields is_release points = record {
  release_continuation_points = is_release;
  continuation_points = Some (map point_sent points);
}

unfoldable pub browse_next_body : RequestHeader → Bool → List ℕ → List ℕ
browse_next_body header is_release points = request_encoding browse_next_request_encoding BROWSE_NEXT_REQUEST header (browse_next_fields is_release points)

abbrev pub history_fields : RawValues → HistoryReadRequest
history_fields values = record {
  history_read_details = object_around READ_RAW_MODIFIED_DETAILS (read_raw_modified_details_encoding (details_sent values));
  timestamps_to_return = record { 0 = values.timestamps };
  release_continuation_points = false;
  nodes_to_read = Some (history_node_sent values ∷ []);
}

unfoldable pub history_body : RequestHeader → RawValues → List ℕ
history_body header values = request_encoding history_read_request_encoding HISTORY_READ_REQUEST header (history_fields values)

abbrev pub activate_session_fields : ActivateSessionRequest
activate_session_fields = record {
  client_signature = no_signature;
  client_software_certificates = None;
  locale_ids = None;
  user_identity_token = no_object;
  user_token_signature = no_signature;
}

unfoldable pub activate_session_body : RequestHeader → List ℕ
activate_session_body header = request_encoding activate_session_request_encoding ACTIVATE_SESSION_REQUEST header activate_session_fields

abbrev pub close_session_fields : Subscriptions → CloseSessionRequest
close_session_fields subscriptions = record {
  delete_subscriptions = is_delete subscriptions;
}

unfoldable pub close_session_body : RequestHeader → Subscriptions → List ℕ
close_session_body header subscriptions = request_encoding close_session_request_encoding CLOSE_SESSION_REQUEST header (close_session_fields subscriptions)

abbrev pub create_subscription_fields : Counts → Publishing → CreateSubscriptionRequest
create_subscription_fields counts publishing = record {
  requested_publishing_interval = no_duration;
  requested_lifetime_count = counts.lifetime;
  requested_max_keep_alive_count = counts.max_keep_alive;
  max_notifications_per_publish = counts.max_notifications;
  publishing_enabled = is_on publishing;
  priority = counts.priority;
}

unfoldable pub create_subscription_body : RequestHeader → Counts → Publishing → List ℕ
create_subscription_body header counts publishing = request_encoding create_subscription_request_encoding CREATE_SUBSCRIPTION_REQUEST header (create_subscription_fields counts publishing)

abbrev pub modify_subscription_fields : ℕ → Counts → ModifySubscriptionRequest
modify_subscription_fields subscription counts = record {
  subscription_id = subscription;
  requested_publishing_interval = no_duration;
  requested_lifetime_count = counts.lifetime;
  requested_max_keep_alive_count = counts.max_keep_alive;
  max_notifications_per_publish = counts.max_notifications;
  priority = counts.priority;
}

unfoldable pub modify_subscription_body : RequestHeader → ℕ → Counts → List ℕ
modify_subscription_body header subscription counts = request_encoding modify_subscription_request_encoding MODIFY_SUBSCRIPTION_REQUEST header (modify_subscription_fields subscription counts)

abbrev pub set_publishing_fields : Publishing → List ℕ → SetPublishingModeRequest
set_publishing_fields publishing subscriptions = record {
  publishing_enabled = is_on publishing;
  subscription_ids = Some subscriptions;
}

unfoldable pub set_publishing_body : RequestHeader → Publishing → List ℕ → List ℕ
set_publishing_body header publishing subscriptions = request_encoding set_publishing_mode_request_encoding SET_PUBLISHING_MODE_REQUEST header (set_publishing_fields publishing subscriptions)

abbrev pub create_item_fields : NewItem → CreateMonitoredItemsRequest
create_item_fields item = record {
  subscription_id = item.subscription;
  timestamps_to_return = record { 0 = item.timestamps };
  items_to_create = Some (new_item_sent item ∷ []);
}

unfoldable pub create_item_body : RequestHeader → NewItem → List ℕ
create_item_body header item = request_encoding create_monitored_items_request_encoding CREATE_MONITORED_ITEMS_REQUEST header (create_item_fields item)

abbrev pub modify_item_fields : ChangedItem → ModifyMonitoredItemsRequest
modify_item_fields item = record {
  subscription_id = item.subscription;
  timestamps_to_return = record { 0 = item.timestamps };
  items_to_modify = Some (changed_item_sent item ∷ []);
}

unfoldable pub modify_item_body : RequestHeader → ChangedItem → List ℕ
modify_item_body header item = request_encoding modify_monitored_items_request_encoding MODIFY_MONITORED_ITEMS_REQUEST header (modify_item_fields item)

abbrev pub set_item_mode_fields : ℕ → ℤ → List ℕ → SetMonitoringModeRequest
set_item_mode_fields subscription mode items = record {
  subscription_id = subscription;
  monitoring_mode = record { 0 = mode };
  monitored_item_ids = Some items;
}

unfoldable pub set_item_mode_body : RequestHeader → ℕ → ℤ → List ℕ → List ℕ
set_item_mode_body header subscription mode items = request_encoding set_monitoring_mode_request_encoding SET_MONITORING_MODE_REQUEST header (set_item_mode_fields subscription mode items)

abbrev pub set_triggering_fields : ℕ → ℕ → Links → SetTriggeringRequest
set_triggering_fields subscription triggering links = record {
  subscription_id = subscription;
  triggering_item_id = triggering;
  links_to_add = Some links.added;
  links_to_remove = Some links.removed;
}

unfoldable pub set_triggering_body : RequestHeader → ℕ → ℕ → List LinkChange → List ℕ
set_triggering_body header subscription triggering changes =
    request_encoding set_triggering_request_encoding SET_TRIGGERING_REQUEST header (set_triggering_fields subscription triggering (links_of changes))

abbrev pub delete_items_fields : ℕ → List ℕ → DeleteMonitoredItemsRequest
delete_items_fields subscription items = record {
  subscription_id = subscription;
  monitored_item_ids = Some items;
}

unfoldable pub delete_items_body : RequestHeader → ℕ → List ℕ → List ℕ
delete_items_body header subscription items = request_encoding delete_monitored_items_request_encoding DELETE_MONITORED_ITEMS_REQUEST header (delete_items_fields subscription items)

abbrev pub publish_fields : List Acknowledgement → PublishRequest
publish_fields acknowledgements = record {
  subscription_acknowledgements = Some (map acknowledgement_sent acknowledgements);
}

unfoldable pub publish_body : RequestHeader → List Acknowledgement → List ℕ
publish_body header acknowledgements = request_encoding publish_request_encoding PUBLISH_REQUEST header (publish_fields acknowledgements)

abbrev pub republish_fields : ℕ → ℕ → RepublishRequest
republish_fields subscription sequence_number = record {
  subscription_id = subscription;
  retransmit_sequence_number = sequence_number;
}

unfoldable pub republish_body : RequestHeader → ℕ → ℕ → List ℕ
republish_body header subscription sequence_number = request_encoding republish_request_encoding REPUBLISH_REQUEST header (republish_fields subscription sequence_number)

abbrev pub delete_subscriptions_fields : List ℕ → DeleteSubscriptionsRequest
delete_subscriptions_fields subscriptions = record {
  subscription_ids = Some subscriptions;
}

unfoldable pub delete_subscriptions_body : RequestHeader → List ℕ → List ℕ
delete_subscriptions_body header subscriptions = request_encoding delete_subscriptions_request_encoding DELETE_SUBSCRIPTIONS_REQUEST header (delete_subscriptions_fields subscriptions)

-- the body of what a session asks, with this header
unfoldable pub request_body : RequestHeader → SessionRequest → List ℕ
request_body header requests.ActivateSession = activate_session_body header
request_body header (requests.CloseSession subscriptions) = close_session_body header subscriptions
request_body header (requests.Read timestamps attributes range) = read_body header timestamps attributes range
request_body header (requests.Write values range) = write_body header values range
request_body header (requests.Browse references) = browse_body header references
request_body header (requests.BrowseNext points) = browse_next_body header false points
request_body header (requests.ReleasePoints points) = browse_next_body header true points
request_body header (requests.ReadHistory values) = history_body header values
request_body header (requests.CreateSubscription counts publishing) = create_subscription_body header counts publishing
request_body header (requests.ModifySubscription subscription counts) = modify_subscription_body header subscription counts
request_body header (requests.SetPublishing publishing subscriptions) = set_publishing_body header publishing subscriptions
request_body header (requests.CreateItem item) = create_item_body header item
request_body header (requests.ModifyItem item) = modify_item_body header item
request_body header (requests.SetItemMode subscription mode items) = set_item_mode_body header subscription mode items
request_body header (requests.SetTriggering subscription triggering changes) = set_triggering_body header subscription triggering changes
request_body header (requests.DeleteItems subscription items) = delete_items_body header subscription items
request_body header (requests.Publish acknowledgements) = publish_body header acknowledgements
request_body header (requests.Republish subscription sequence_number) = republish_body header subscription sequence_number
request_body header (requests.DeleteSubscriptions subscriptions) = delete_subscriptions_body header subscriptions

-- The body is the id of the request's type and its structure, is read again as that, and nothing is behind it.
abbrev pub IsServiceBody : RequestHeader → SessionRequest → List ℕ → Type 0
IsServiceBody header requests.ActivateSession body = IsWholeRequest activate_session_request_reading ACTIVATE_SESSION_REQUEST header activate_session_fields body
IsServiceBody header (requests.CloseSession subscriptions) body = IsWholeRequest close_session_request_reading CLOSE_SESSION_REQUEST header (close_session_fields subscriptions) body
IsServiceBody header (requests.Read timestamps attributes range) body = IsWholeRequest read_request_reading READ_REQUEST header (read_fields timestamps attributes range) body
IsServiceBody header (requests.Write values range) body = IsWholeRequest write_request_reading WRITE_REQUEST header (write_fields values range) body
IsServiceBody header (requests.Browse references) body = IsWholeRequest browse_request_reading BROWSE_REQUEST header (browse_fields references) body
IsServiceBody header (requests.BrowseNext points) body = IsWholeRequest browse_next_request_reading BROWSE_NEXT_REQUEST header (browse_next_fields false points) body
IsServiceBody header (requests.ReleasePoints points) body = IsWholeRequest browse_next_request_reading BROWSE_NEXT_REQUEST header (browse_next_fields true points) body
IsServiceBody header (requests.ReadHistory values) body = IsWholeRequest history_read_request_reading HISTORY_READ_REQUEST header (history_fields values) body
IsServiceBody header (requests.CreateSubscription counts publishing) body = IsWholeRequest create_subscription_request_reading CREATE_SUBSCRIPTION_REQUEST header (create_subscription_fields counts publishing) body
IsServiceBody header (requests.ModifySubscription subscription counts) body = IsWholeRequest modify_subscription_request_reading MODIFY_SUBSCRIPTION_REQUEST header (modify_subscription_fields subscription counts) body
IsServiceBody header (requests.SetPublishing publishing subscriptions) body = IsWholeRequest set_publishing_mode_request_reading SET_PUBLISHING_MODE_REQUEST header (set_publishing_fields publishing subscriptions) body
IsServiceBody header (requests.CreateItem item) body = IsWholeRequest create_monitored_items_request_reading CREATE_MONITORED_ITEMS_REQUEST header (create_item_fields item) body
IsServiceBody header (requests.ModifyItem item) body = IsWholeRequest modify_monitored_items_request_reading MODIFY_MONITORED_ITEMS_REQUEST header (modify_item_fields item) body
IsServiceBody header (requests.SetItemMode subscription mode items) body = IsWholeRequest set_monitoring_mode_request_reading SET_MONITORING_MODE_REQUEST header (set_item_mode_fields subscription mode items) body
IsServiceBody header (requests.SetTriggering subscription triggering changes) body = IsWholeRequest set_triggering_request_reading SET_TRIGGERING_REQUEST header (set_triggering_fields subscription triggering (links_of changes)) body
IsServiceBody header (requests.DeleteItems subscription items) body = IsWholeRequest delete_monitored_items_request_reading DELETE_MONITORED_ITEMS_REQUEST header (delete_items_fields subscription items) body
IsServiceBody header (requests.Publish acknowledgements) body = IsWholeRequest publish_request_reading PUBLISH_REQUEST header (publish_fields acknowledgements) body
IsServiceBody header (requests.Republish subscription sequence_number) body = IsWholeRequest republish_request_reading REPUBLISH_REQUEST header (republish_fields subscription sequence_number) body
IsServiceBody header (requests.DeleteSubscriptions subscriptions) body = IsWholeRequest delete_subscriptions_request_reading DELETE_SUBSCRIPTIONS_REQUEST header (delete_subscriptions_fields subscriptions) body

-- ---- what no session asks

abbrev pub endpoints_fields : GetEndpointsRequest
endpoints_fields = record {
  endpoint_url = None;
  locale_ids = None;
  profile_uris = None;
}

unfoldable pub endpoints_body : RequestHeader → List ℕ
endpoints_body header = request_encoding get_endpoints_request_encoding GET_ENDPOINTS_REQUEST header endpoints_fields

abbrev pub create_session_fields : CreateSessionRequest
create_session_fields = record {
  client_description = no_application;
  server_uri = None;
  endpoint_url = None;
  session_name = None;
  client_nonce = None;
  client_certificate = None;
  requested_session_timeout = no_duration;
  max_response_message_size = 0;
}

unfoldable pub create_session_body : RequestHeader → List ℕ
create_session_body header = request_encoding create_session_request_encoding CREATE_SESSION_REQUEST header create_session_fields

abbrev pub opening_message : RequestHeader → ChannelRequest → OpenSecureChannelRequest
opening_message header request = record {
  request_header = header;
  client_protocol_version = 0;
  request_type = request_type request;
  security_mode = record { 0 = pos 1 };
  client_nonce = None;
  requested_lifetime = 3600000;
}

unfoldable pub opening_body : RequestHeader → ChannelRequest → List ℕ
opening_body header request = body_encoding open_secure_channel_request_encoding OPEN_SECURE_CHANNEL_REQUEST (opening_message header request)

abbrev pub closing_message : RequestHeader → CloseSecureChannelRequest
closing_message header = record {
  request_header = header;
}

unfoldable pub closing_body : RequestHeader → List ℕ
closing_body header = body_encoding close_secure_channel_request_encoding CLOSE_SECURE_CHANNEL_REQUEST (closing_message header)

-- what these bodies are read as
abbrev pub IsEndpointsBody : RequestHeader → List ℕ → Type 0
IsEndpointsBody header body = IsWholeRequest get_endpoints_request_reading GET_ENDPOINTS_REQUEST header endpoints_fields body

abbrev pub IsSessionBody : RequestHeader → List ℕ → Type 0
IsSessionBody header body = IsWholeRequest create_session_request_reading CREATE_SESSION_REQUEST header create_session_fields body

abbrev pub IsOpeningBody : RequestHeader → ChannelRequest → List ℕ → Type 0
IsOpeningBody header request body = IsWholeBody open_secure_channel_request_reading OPEN_SECURE_CHANNEL_REQUEST (opening_message header request) body

abbrev pub IsClosingBody : RequestHeader → List ℕ → Type 0
IsClosingBody header body = IsWholeBody close_secure_channel_request_reading CLOSE_SECURE_CHANNEL_REQUEST (closing_message header) body
