-- All services.
use Rattle.std.specs.Prelude.{ℕ, ◌==◌, ◌&&◌, Bool, not, List, Option, Some, None, Result, Ok, if◌then◌else◌}
use Rattle.std.specs.Option.{is_some}
use Rattle.ua_types.specs.declared.node_id.NodeId.{NodeId}
use Rattle.ua_types.specs.declared.status.TheConstants.Status as status
use Rattle.ua_binary.specs.declared.fault.TakeFault.{TakeFault}
use Rattle.ua_messages.specs.Bodies.{message_id_of}
use Rattle.ua_messages.specs.GetEndpoints.{get_endpoints_request_reading}
use Rattle.ua_messages.specs.Requests.{Headed, headed_of, fields_of}
use Rattle.ua_messages.specs.declared.type_ids.TheConstants.{GET_ENDPOINTS_REQUEST, CREATE_SESSION_REQUEST, ACTIVATE_SESSION_REQUEST, CLOSE_SESSION_REQUEST, READ_REQUEST, WRITE_REQUEST, BROWSE_REQUEST, BROWSE_NEXT_REQUEST, HISTORY_READ_REQUEST, CREATE_MONITORED_ITEMS_REQUEST, MODIFY_MONITORED_ITEMS_REQUEST, SET_MONITORING_MODE_REQUEST, SET_TRIGGERING_REQUEST, DELETE_MONITORED_ITEMS_REQUEST, CREATE_SUBSCRIPTION_REQUEST, MODIFY_SUBSCRIPTION_REQUEST, SET_PUBLISHING_MODE_REQUEST, DELETE_SUBSCRIPTIONS_REQUEST, PUBLISH_REQUEST, REPUBLISH_REQUEST}
use Rattle.server_messages.specs.declared.request.Request.{Request}
use Rattle.server_messages.specs.declared.setting.Setting.{Setting}
use Rattle.ua_service_messages.specs.Browsing.{browse_request_reading, browse_next_request_reading}
use Rattle.ua_service_messages.specs.History.{history_read_request_reading}
use Rattle.ua_service_messages.specs.Reading.{read_request_reading}
use Rattle.ua_service_messages.specs.Writing.{write_request_reading}
use Rattle.ua_service_messages.specs.Sessions.{create_session_request_reading, activate_session_request_reading, close_session_request_reading}
use Rattle.ua_subscription_messages.specs.MonitoredItems.{create_monitored_items_request_reading, modify_monitored_items_request_reading, set_monitoring_mode_request_reading, delete_monitored_items_request_reading}
use Rattle.ua_subscription_messages.specs.Publishing.{publish_request_reading, republish_request_reading}
use Rattle.ua_subscription_messages.specs.Triggering.{set_triggering_request_reading}
use Rattle.ua_subscription_messages.specs.Subscriptions.{create_subscription_request_reading, modify_subscription_request_reading, set_publishing_mode_request_reading, delete_subscriptions_request_reading}
use Rattle.ua_subscriptions.specs.Ending.{without_conn, shut_down}
use Rattle.ua_subscriptions.specs.Named.{is_none}
use Rattle.ua_subscriptions.specs.Ranks.{is_any_due}
use Rattle.ua_subscriptions.specs.SubscriptionCalls.{SubscriptionsState}
use Rattle.ua_session.specs.Sessions.{ticked, ended_by, all_ended}
use Rattle.ua_services.specs.ActivateSession.{activate_session_meaning}
use Rattle.ua_services.specs.Browse.{browse_meaning}
use Rattle.ua_services.specs.BrowseNext.{browse_next_meaning}
use Rattle.ua_services.specs.CloseSession.{close_session_meaning}
use Rattle.ua_services.specs.CreateMonitoredItems.{create_monitored_items_meaning}
use Rattle.ua_services.specs.CreateSession.{create_session_meaning}
use Rattle.ua_services.specs.CreateSubscription.{create_subscription_meaning}
use Rattle.ua_services.specs.DeleteMonitoredItems.{delete_monitored_items_meaning}
use Rattle.ua_services.specs.DeleteSubscriptions.{delete_subscriptions_meaning}
use Rattle.ua_services.specs.GetEndpoints.{get_endpoints_meaning}
use Rattle.ua_services.specs.HistoryRead.{history_read_meaning}
use Rattle.ua_services.specs.InSession.{served_in_session}
use Rattle.ua_services.specs.ModifyMonitoredItems.{modify_monitored_items_meaning}
use Rattle.ua_services.specs.ModifySubscription.{modify_subscription_meaning}
use Rattle.ua_services.specs.Publish.{publish_meaning}
use Rattle.ua_services.specs.Read.{read_meaning}
use Rattle.ua_services.specs.Republish.{republish_meaning}
use Rattle.ua_services.specs.SessionServing.{with_sessions}
use Rattle.ua_services.specs.SetMonitoringMode.{set_monitoring_mode_meaning}
use Rattle.ua_services.specs.SetPublishingMode.{set_publishing_mode_meaning}
use Rattle.ua_services.specs.SetTriggering.{set_triggering_meaning}
use Rattle.ua_services.specs.SubServing.{stage_at, called_alone, and_then, all_timed_out, timers_met}
use Rattle.ua_services.specs.Write.{write_meaning}
use Rattle.ua_services.specs.ServicesState.{Services}
use Rattle.ua_services.specs.Serving.{Serving, faulted, served_by}
use Rattle.ua_services.specs.declared.caller.Caller.{Caller}

abbrev pub call_of : Request → ℕ → Caller
call_of request handle = record { origin = record { conn = request.conn; id = request.id; handle = handle }; key = request.key }

pub data Service : Type 0 where
  GetEndpoints CreateSession ActivateSession CloseSession Read Write Browse BrowseNext HistoryRead : Service
  CreateMonitoredItems ModifyMonitoredItems SetMonitoringMode SetTriggering DeleteMonitoredItems : Service
  CreateSubscription ModifySubscription SetPublishingMode DeleteSubscriptions Publish Republish : Service

-- that of a type id: all that is served
abbrev pub service_of : ℕ → Option Service
service_of id =
    if id == GET_ENDPOINTS_REQUEST then Some Service.GetEndpoints
    else if id == CREATE_SESSION_REQUEST then Some Service.CreateSession
    else if id == ACTIVATE_SESSION_REQUEST then Some Service.ActivateSession
    else if id == CLOSE_SESSION_REQUEST then Some Service.CloseSession
    else if id == READ_REQUEST then Some Service.Read
    else if id == WRITE_REQUEST then Some Service.Write
    else if id == BROWSE_REQUEST then Some Service.Browse
    else if id == BROWSE_NEXT_REQUEST then Some Service.BrowseNext
    else if id == HISTORY_READ_REQUEST then Some Service.HistoryRead
    else if id == CREATE_MONITORED_ITEMS_REQUEST then Some Service.CreateMonitoredItems
    else if id == MODIFY_MONITORED_ITEMS_REQUEST then Some Service.ModifyMonitoredItems
    else if id == SET_MONITORING_MODE_REQUEST then Some Service.SetMonitoringMode
    else if id == SET_TRIGGERING_REQUEST then Some Service.SetTriggering
    else if id == DELETE_MONITORED_ITEMS_REQUEST then Some Service.DeleteMonitoredItems
    else if id == CREATE_SUBSCRIPTION_REQUEST then Some Service.CreateSubscription
    else if id == MODIFY_SUBSCRIPTION_REQUEST then Some Service.ModifySubscription
    else if id == SET_PUBLISHING_MODE_REQUEST then Some Service.SetPublishingMode
    else if id == DELETE_SUBSCRIPTIONS_REQUEST then Some Service.DeleteSubscriptions
    else if id == PUBLISH_REQUEST then Some Service.Publish
    else if id == REPUBLISH_REQUEST then Some Service.Republish
    else None

-- what it comes to, from the token in the request's header and the bytes behind that
abbrev pub served_as : Setting → Caller → NodeId → List ℕ → Services → Option Service → Serving
served_as setting caller token fields state (Some Service.GetEndpoints) = served_by get_endpoints_meaning setting caller token state (fields_of get_endpoints_request_reading fields)
served_as setting caller token fields state (Some Service.CreateSession) = served_by create_session_meaning setting caller token state (fields_of create_session_request_reading fields)
served_as setting caller token fields state (Some Service.ActivateSession) = served_by activate_session_meaning setting caller token state (fields_of activate_session_request_reading fields)
served_as setting caller token fields state (Some Service.CloseSession) = served_by close_session_meaning setting caller token state (fields_of close_session_request_reading fields)
served_as setting caller token fields state (Some Service.Read) = served_in_session read_meaning setting caller token state (fields_of read_request_reading fields)
served_as setting caller token fields state (Some Service.Write) = served_in_session write_meaning setting caller token state (fields_of write_request_reading fields)
served_as setting caller token fields state (Some Service.Browse) = served_in_session browse_meaning setting caller token state (fields_of browse_request_reading fields)
served_as setting caller token fields state (Some Service.BrowseNext) = served_in_session browse_next_meaning setting caller token state (fields_of browse_next_request_reading fields)
served_as setting caller token fields state (Some Service.HistoryRead) = served_in_session history_read_meaning setting caller token state (fields_of history_read_request_reading fields)
served_as setting caller token fields state (Some Service.CreateMonitoredItems) = served_in_session create_monitored_items_meaning setting caller token state (fields_of create_monitored_items_request_reading fields)
served_as setting caller token fields state (Some Service.ModifyMonitoredItems) = served_in_session modify_monitored_items_meaning setting caller token state (fields_of modify_monitored_items_request_reading fields)
served_as setting caller token fields state (Some Service.SetMonitoringMode) = served_in_session set_monitoring_mode_meaning setting caller token state (fields_of set_monitoring_mode_request_reading fields)
served_as setting caller token fields state (Some Service.SetTriggering) = served_in_session set_triggering_meaning setting caller token state (fields_of set_triggering_request_reading fields)
served_as setting caller token fields state (Some Service.DeleteMonitoredItems) = served_in_session delete_monitored_items_meaning setting caller token state (fields_of delete_monitored_items_request_reading fields)
served_as setting caller token fields state (Some Service.CreateSubscription) = served_in_session create_subscription_meaning setting caller token state (fields_of create_subscription_request_reading fields)
served_as setting caller token fields state (Some Service.ModifySubscription) = served_in_session modify_subscription_meaning setting caller token state (fields_of modify_subscription_request_reading fields)
served_as setting caller token fields state (Some Service.SetPublishingMode) = served_in_session set_publishing_mode_meaning setting caller token state (fields_of set_publishing_mode_request_reading fields)
served_as setting caller token fields state (Some Service.DeleteSubscriptions) = served_in_session delete_subscriptions_meaning setting caller token state (fields_of delete_subscriptions_request_reading fields)
served_as setting caller token fields state (Some Service.Publish) = served_in_session publish_meaning setting caller token state (fields_of publish_request_reading fields)
served_as setting caller token fields state (Some Service.Republish) = served_in_session republish_meaning setting caller token state (fields_of republish_request_reading fields)
served_as setting caller token fields state None = faulted state caller status.BAD_SERVICE_UNSUPPORTED setting.clock

abbrev pub picked : Setting → Caller → NodeId → List ℕ → Services → ℕ → Serving
picked setting caller token fields state id = served_as setting caller token fields state (service_of id)

abbrev pub serving_by : Setting → Request → Services → Result ℕ TakeFault → Result Headed TakeFault → Serving
serving_by setting request state (Ok id) (Ok headed) = picked setting (call_of request headed.header.request_handle) headed.header.authentication_token headed.fields state id
serving_by setting request state id headed = faulted state (call_of request 0) status.BAD_DECODING_ERROR setting.clock

-- The order in which a request is judged: its type id and header, whether the type is served, its fields, the service
unfoldable pub serving_of : Setting → Request → Services → Serving
serving_of setting request state =
    serving_by setting request state (message_id_of request.body) (headed_of request.body)

-- what is due as time passes: sessions end that weren't used, by rising number, and leave their subscriptions to their
-- lifetime; then the timers of subscriptions come, the best first
abbrev pub ticking_of : Setting → Services → Serving
ticking_of setting state =
    and_then (all_timed_out setting (with_sessions state (ticked state.sessions setting.clock)) (ended_by state.sessions setting.clock)) (timers_met setting)

-- whether nothing is due at a tick, and the subscriptions go on
abbrev pub is_idle : Setting → Services → Bool
is_idle setting state =
    is_none (ended_by state.sessions setting.clock) && not (is_any_due setting.clock state.subscriptions.table.subscriptions) && not (is_some state.subscriptions.halted)

-- the server ends: all subscriptions do, the Publish requests that wait are answered, and no session is left
unfoldable pub shutting_of : Setting → Services → Serving
shutting_of setting state =
    let s = called_alone state (shut_down (stage_at setting state)) in
    record s { state = with_sessions s.state (all_ended s.state.sessions) }

-- what is kept once a connection is closed or gone: the Publish requests that came by it wait no more
abbrev pub forgotten : Services → ℕ → Services
forgotten state conn = let subscriptions : SubscriptionsState = state.subscriptions in record state { subscriptions = record subscriptions { table = without_conn conn subscriptions.table } }
