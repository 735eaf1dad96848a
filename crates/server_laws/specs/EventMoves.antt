-- The calls of subscriptions and items that the server comes to: a case for each kind of request, tick, and connection that is no more.
use Rattle.std.specs.Prelude.{ℕ, if◌then◌else◌, Bool, false, List, [], ◌∷◌, ◌++◌, map, length, nat_lt, Option, Some, None, Result, Ok, Err}
use Rattle.std.specs.List.{flat_map}
use Rattle.ua_types.specs.Configuration.{Configuration}
use Rattle.ua_types.specs.declared.node_id.NodeId.{NodeId}
use Rattle.ua_types.specs.declared.status.Status.{Status}
use Rattle.ua_binary.specs.declared.fault.TakeFault.{TakeFault}
use Rattle.ua_messages.specs.Bodies.{message_id_of}
use Rattle.ua_messages.specs.Requests.{Headed, headed_of, fields_of}
use Rattle.server_messages.specs.declared.request.Request.{Request}
use Rattle.server_messages.specs.declared.setting.Setting.{Setting}
use Rattle.ua_service_messages.specs.Sessions.{close_session_request_reading}
use Rattle.ua_service_messages.specs.Writing.{write_request_reading}
use Rattle.ua_service_messages.specs.declared.sessions.CloseSessionRequest.{CloseSessionRequest}
use Rattle.ua_service_messages.specs.declared.writing.WriteRequest.{WriteRequest}
use Rattle.ua_service_messages.specs.declared.writing.WriteValue.{WriteValue}
use Rattle.ua_subscription_messages.specs.Triggering.{set_triggering_request_reading}
use Rattle.ua_subscription_messages.specs.MonitoredItems.{create_monitored_items_request_reading, modify_monitored_items_request_reading, set_monitoring_mode_request_reading, delete_monitored_items_request_reading}
use Rattle.ua_subscription_messages.specs.Publishing.{publish_request_reading, republish_request_reading}
use Rattle.ua_subscription_messages.specs.Subscriptions.{create_subscription_request_reading, modify_subscription_request_reading, set_publishing_mode_request_reading, delete_subscriptions_request_reading}
use Rattle.ua_subscription_messages.specs.declared.monitored_items.CreateMonitoredItemsRequest.{CreateMonitoredItemsRequest}
use Rattle.ua_subscription_messages.specs.declared.monitored_items.DeleteMonitoredItemsRequest.{DeleteMonitoredItemsRequest}
use Rattle.ua_subscription_messages.specs.declared.monitored_items.ModifyMonitoredItemsRequest.{ModifyMonitoredItemsRequest}
use Rattle.ua_subscription_messages.specs.declared.monitored_items.MonitoredItemCreateRequest.{MonitoredItemCreateRequest}
use Rattle.ua_subscription_messages.specs.declared.monitored_items.MonitoredItemModifyRequest.{MonitoredItemModifyRequest}
use Rattle.ua_subscription_messages.specs.declared.monitored_items.SetMonitoringModeRequest.{SetMonitoringModeRequest}
use Rattle.ua_subscription_messages.specs.declared.triggering.SetTriggeringRequest.{SetTriggeringRequest}
use Rattle.ua_subscription_messages.specs.declared.publishing.PublishRequest.{PublishRequest}
use Rattle.ua_subscription_messages.specs.declared.publishing.RepublishRequest.{RepublishRequest}
use Rattle.ua_subscription_messages.specs.declared.subscriptions.CreateSubscriptionRequest.{CreateSubscriptionRequest}
use Rattle.ua_subscription_messages.specs.declared.subscriptions.DeleteSubscriptionsRequest.{DeleteSubscriptionsRequest}
use Rattle.ua_subscription_messages.specs.declared.subscriptions.ModifySubscriptionRequest.{ModifySubscriptionRequest}
use Rattle.ua_subscription_messages.specs.declared.subscriptions.SetPublishingModeRequest.{SetPublishingModeRequest}
use Rattle.ua_state_table.specs.declared.vars.Vars.{Vars}
use Rattle.ua_space.specs.Nodes.{SpaceState}
use Rattle.ua_read_write.specs.Timestamps.{timestamps_of}
use Rattle.ua_read_write.specs.Writing.{write_of}
use Rattle.ua_read_write.specs.declared.timestamps.Timestamps.{Timestamps}
use Rattle.ua_monitored_items.specs.Kinds.{mode_numbered}
use Rattle.ua_monitored_items.specs.declared.kinds.Mode.{Mode}
use Rattle.ua_session.specs.Sessions.{SessionsState, find_of, close_of, ended_by}
use Rattle.subscription_laws.specs.Runs.{ItemsCall, Move}
use Rattle.ua_services.specs.CreateSubscription.{settings_asked}
use Rattle.ua_services.specs.ItemServing.{own_vars}
use Rattle.ua_services.specs.ModifySubscription.{settings_wanted}
use Rattle.ua_services.specs.SetTriggering.{links_asked}
use Rattle.ua_services.specs.Operations.{count_judged, operations_of}
use Rattle.ua_views.specs.Views.{or_none}
use Rattle.ua_services.specs.Publish.{publish_call}
use Rattle.ua_services.specs.Services.{call_of, Service, service_of}
use Rattle.ua_services.specs.SessionServing.{with_sessions}
use Rattle.ua_services.specs.declared.caller.Caller.{Caller}
use Rattle.ua_services.specs.declared.services.Services.{Services}
use Rattle.server_core.specs.declared.parts.Core.{Core}
use Rattle.server_core.specs.declared.world.World.{World}
use Rattle.server_core.specs.declared.event.Event.{Event}
use Rattle.server_laws.specs.Dealings.{Asked, Serves, Ticks, Forgets, Ends, Dealing, event_dealings, dealings_of}

-- ---- what every service begins with

-- a request whose fields can't be read comes to no call
abbrev pub if_read : {A : Type 0} → (A → List Move) → Result A TakeFault → List Move
if_read moves (Ok request) = moves request
if_read moves (Err fault) = []

-- nor does one whose session can't be used
abbrev pub if_found : (ℕ → Services → List Move) → Services → Result ℕ Status → SessionsState → List Move
if_found moves state (Ok number) sessions = moves number (with_sessions state sessions)
if_found moves state (Err code) sessions = []

abbrev pub in_session : {A : Type 0} → (ℕ → A → Services → List Move) → Caller → NodeId → Services → A → List Move
in_session moves caller token state request =
    let s = find_of state.sessions token caller.origin.conn in
    if_found (λ number. moves number request) state s.answer s.state

-- nor one whose list is refused
abbrev pub if_listed : {A : Type 0} → (List A → List Move) → Result (List A) Status → List Move
if_listed moves (Ok things) = moves things
if_listed moves (Err code) = []

-- ---- sessions, and writing

-- where a session is found, it ends
abbrev pub close_moves : Setting → Bool → Result ℕ Status → List Move
close_moves setting deleting (Ok number) = Move.EndSession setting.clock number deleting ∷ []
close_moves setting deleting (Err code) = []

abbrev pub close_session_moves : Setting → Caller → NodeId → Services → CloseSessionRequest → List Move
close_session_moves setting caller token state request =
    close_moves setting request.delete_subscriptions (close_of state.sessions token caller.origin.conn).answer

-- the items are shown every value that is accepted
abbrev pub write_moves : Setting → ℕ → WriteRequest → Services → List Move
write_moves setting session request state =
    if_listed (λ (values : List WriteValue). Move.Show (write_of setting.clock state.space.nodes values).changed ∷ []) (operations_of setting.config request.nodes_to_write)

-- ---- subscriptions

abbrev pub create_subscription_moves : Setting → ℕ → CreateSubscriptionRequest → Services → List Move
create_subscription_moves setting session request state = Move.Create setting.clock session (settings_asked request) request.publishing_enabled ∷ []

abbrev pub modify_subscription_moves : Setting → ℕ → ModifySubscriptionRequest → Services → List Move
modify_subscription_moves setting session request state = Move.Modify setting.clock session request.subscription_id (settings_wanted request) ∷ []

abbrev pub set_publishing_mode_moves : Setting → ℕ → SetPublishingModeRequest → Services → List Move
set_publishing_mode_moves setting session request state =
    if_listed (λ (numbers : List ℕ). Move.SetMode setting.clock session numbers request.publishing_enabled ∷ []) (operations_of setting.config request.subscription_ids)

abbrev pub delete_subscriptions_moves : Setting → ℕ → DeleteSubscriptionsRequest → Services → List Move
delete_subscriptions_moves setting session request state =
    if_listed (λ (numbers : List ℕ). Move.Delete setting.clock session numbers ∷ []) (operations_of setting.config request.subscription_ids)

-- too many acknowledgements are refused
abbrev pub publish_moves : Setting → Caller → ℕ → PublishRequest → Services → List Move
publish_moves setting caller session request state =
    let acks = or_none request.subscription_acknowledgements in
    if nat_lt setting.config.operations (length acks) then [] else Move.Publish setting.clock session (publish_call caller) acks ∷ []

abbrev pub republish_moves : Setting → ℕ → RepublishRequest → Services → List Move
republish_moves setting session request state = Move.Republish setting.clock session request.subscription_id request.retransmit_sequence_number ∷ []

-- ---- the items of a subscription

-- a request that is refused asks nothing of them
abbrev pub create_listed_asked : Setting → Services → Timestamps → Result (List MonitoredItemCreateRequest) Status → Option ItemsCall
create_listed_asked setting state times (Ok requests) = Some (ItemsCall.Create state.space.nodes setting.clock times requests)
create_listed_asked setting state times (Err code) = None

abbrev pub create_timed_asked : Setting → Services → Option (List MonitoredItemCreateRequest) → Option Timestamps → Option ItemsCall
create_timed_asked setting state requests None = None
create_timed_asked setting state requests (Some times) = create_listed_asked setting state times (operations_of setting.config requests)

abbrev pub create_asked : Setting → CreateMonitoredItemsRequest → Services → Option ItemsCall
create_asked setting request state = create_timed_asked setting state request.items_to_create (timestamps_of request.timestamps_to_return)

abbrev pub modify_listed_asked : Timestamps → Result (List MonitoredItemModifyRequest) Status → Option ItemsCall
modify_listed_asked times (Ok requests) = Some (ItemsCall.Modify times requests)
modify_listed_asked times (Err code) = None

abbrev pub modify_timed_asked : Setting → Option (List MonitoredItemModifyRequest) → Option Timestamps → Option ItemsCall
modify_timed_asked setting requests None = None
modify_timed_asked setting requests (Some times) = modify_listed_asked times (operations_of setting.config requests)

abbrev pub modify_asked : Setting → ModifyMonitoredItemsRequest → Services → Option ItemsCall
modify_asked setting request state = modify_timed_asked setting request.items_to_modify (timestamps_of request.timestamps_to_return)

abbrev pub mode_asked_by : Setting → Services → List ℕ → Option Mode → Option ItemsCall
mode_asked_by setting state numbers None = None
mode_asked_by setting state numbers (Some mode) = Some (ItemsCall.SetMode state.space.nodes setting.clock mode numbers)

abbrev pub mode_listed_asked : Setting → Services → Option Mode → Result (List ℕ) Status → Option ItemsCall
mode_listed_asked setting state mode (Ok numbers) = mode_asked_by setting state numbers mode
mode_listed_asked setting state mode (Err code) = None

abbrev pub mode_asked : Setting → SetMonitoringModeRequest → Services → Option ItemsCall
mode_asked setting request state = mode_listed_asked setting state (mode_numbered request.monitoring_mode) (operations_of setting.config request.monitored_item_ids)

abbrev pub link_counted_asked : SetTriggeringRequest → Result (Unit {0}) Status → Option ItemsCall
link_counted_asked request (Ok good) = Some (ItemsCall.Link request.triggering_item_id (or_none request.links_to_add) (or_none request.links_to_remove))
link_counted_asked request (Err code) = None

abbrev pub link_asked : Setting → SetTriggeringRequest → Services → Option ItemsCall
link_asked setting request state = link_counted_asked request (count_judged setting.config (links_asked request))

abbrev pub delete_listed_asked : Result (List ℕ) Status → Option ItemsCall
delete_listed_asked (Ok numbers) = Some (ItemsCall.Delete numbers)
delete_listed_asked (Err code) = None

abbrev pub delete_asked : Setting → DeleteMonitoredItemsRequest → Services → Option ItemsCall
delete_asked setting request state = delete_listed_asked (operations_of setting.config request.monitored_item_ids)

-- the subscription is looked up first of all: it is the session's own, or there is no call
abbrev pub items_moves_by : Setting → ℕ → Option ItemsCall → Option Vars → List Move
items_moves_by setting number asked None = []
items_moves_by setting number asked (Some before) = Move.Items setting.clock number asked ∷ []

abbrev pub items_moves : Setting → ℕ → ℕ → Option ItemsCall → Services → List Move
items_moves setting session number asked state = items_moves_by setting number asked (own_vars session number state)

-- ---- a request

-- by its service: discovery, sessions other than one that ends, and what only reads come to none
abbrev pub moves_as : Setting → Caller → NodeId → List ℕ → Services → Option Service → List Move
moves_as setting caller token fields state (Some Service.CloseSession) = if_read (close_session_moves setting caller token state) (fields_of close_session_request_reading fields)
moves_as setting caller token fields state (Some Service.Write) = if_read (in_session (write_moves setting) caller token state) (fields_of write_request_reading fields)
moves_as setting caller token fields state (Some Service.CreateMonitoredItems) = if_read (in_session (λ session request at. items_moves setting session request.subscription_id (create_asked setting request at) at) caller token state) (fields_of create_monitored_items_request_reading fields)
moves_as setting caller token fields state (Some Service.ModifyMonitoredItems) = if_read (in_session (λ session request at. items_moves setting session request.subscription_id (modify_asked setting request at) at) caller token state) (fields_of modify_monitored_items_request_reading fields)
moves_as setting caller token fields state (Some Service.SetMonitoringMode) = if_read (in_session (λ session request at. items_moves setting session request.subscription_id (mode_asked setting request at) at) caller token state) (fields_of set_monitoring_mode_request_reading fields)
moves_as setting caller token fields state (Some Service.SetTriggering) = if_read (in_session (λ session request at. items_moves setting session request.subscription_id (link_asked setting request at) at) caller token state) (fields_of set_triggering_request_reading fields)
moves_as setting caller token fields state (Some Service.DeleteMonitoredItems) = if_read (in_session (λ session request at. items_moves setting session request.subscription_id (delete_asked setting request at) at) caller token state) (fields_of delete_monitored_items_request_reading fields)
moves_as setting caller token fields state (Some Service.CreateSubscription) = if_read (in_session (create_subscription_moves setting) caller token state) (fields_of create_subscription_request_reading fields)
moves_as setting caller token fields state (Some Service.ModifySubscription) = if_read (in_session (modify_subscription_moves setting) caller token state) (fields_of modify_subscription_request_reading fields)
moves_as setting caller token fields state (Some Service.SetPublishingMode) = if_read (in_session (set_publishing_mode_moves setting) caller token state) (fields_of set_publishing_mode_request_reading fields)
moves_as setting caller token fields state (Some Service.DeleteSubscriptions) = if_read (in_session (delete_subscriptions_moves setting) caller token state) (fields_of delete_subscriptions_request_reading fields)
moves_as setting caller token fields state (Some Service.Publish) = if_read (in_session (publish_moves setting caller) caller token state) (fields_of publish_request_reading fields)
moves_as setting caller token fields state (Some Service.Republish) = if_read (in_session (republish_moves setting) caller token state) (fields_of republish_request_reading fields)
moves_as setting caller token fields state service = []

abbrev pub serving_moves_by : Setting → Request → Services → Result ℕ TakeFault → Result Headed TakeFault → List Move
serving_moves_by setting request state (Ok id) (Ok headed) = moves_as setting (call_of request headed.header.request_handle) headed.header.authentication_token headed.fields state (service_of id)
serving_moves_by setting request state id headed = []

-- the calls that a request comes to, served or refused
unfoldable pub serving_moves : Setting → Request → Services → List Move
serving_moves setting request state = serving_moves_by setting request state (message_id_of request.body) (headed_of request.body)

-- ---- a tick, and a connection that is no more

abbrev pub end_move : Setting → ℕ → Move
end_move setting number = Move.EndSession setting.clock number false

-- the sessions end that weren't used, by rising number; then the timers come
abbrev pub ticking_moves : Setting → Services → List Move
ticking_moves setting state = map (end_move setting) (ended_by state.sessions setting.clock) ++ Move.Timers setting.clock ∷ []

abbrev pub forgetting_moves : ℕ → List Move
forgetting_moves conn = Move.Gone conn ∷ []

-- ---- the server's end

-- it comes to one call, the first time
abbrev pub shutting_moves : Setting → List Move
shutting_moves setting = Move.Shutdown setting.clock ∷ []

-- ---- a run

-- what is asked of the services
abbrev pub moves_for : Core → Asked → List Move
moves_for core (Serves request) = serving_moves core.setting request core.services
moves_for core Ticks = ticking_moves core.setting core.services
moves_for core (Forgets conn) = forgetting_moves conn
moves_for core Ends = shutting_moves core.setting

abbrev pub moves_at : Dealing → List Move
moves_at d = moves_for d.core d.asked

-- of an event that isn't refused
abbrev pub event_moves : World → Event → List Move
event_moves world event = flat_map moves_at (event_dealings world event)

-- what a run of a server comes to: a function of its configuration, its nodes and the events
abbrev pub moves_of : Configuration → SpaceState → List Event → List Move
moves_of config space events = flat_map moves_at (dealings_of config space events)
