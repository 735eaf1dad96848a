-- The services answer no connections but those that asked them.
use Rattle.std.proofs.Common.{◌≡◌, ◌≢◌, ℕ, Bool, true, false, not, cond, List, [], ◌∷◌, ◌++◌, length, fold, Option, Some, None, Result, Ok, Err, refl, ◌∙◌}
use Rattle.std.specs.Prelude.{nat_lt}
use Rattle.ua_binary.specs.declared.fault.TakeFault.{TakeFault}
use Rattle.ua_messages.specs.Bodies.{message_id_of}
use Rattle.ua_messages.specs.GetEndpoints.{get_endpoints_request_reading}
use Rattle.ua_messages.specs.Requests.{Headed, headed_of, fields_of}
use Rattle.ua_messages.specs.declared.get_endpoints.GetEndpointsRequest.{GetEndpointsRequest}
use Rattle.server_messages.specs.declared.request.Request.{Request}
use Rattle.server_messages.specs.declared.setting.Setting.{Setting}
use Rattle.ua_services.specs.ServicesState.{Services}
use Rattle.ua_messages.specs.declared.type_ids.TheConstants.{SET_PUBLISHING_MODE_RESPONSE, DELETE_SUBSCRIPTIONS_RESPONSE}
use Rattle.ua_services.specs.Serving.{Occurrence, Serving, reply_of, answered_at_once, served_by}
use Rattle.ua_services.specs.Services.{call_of, Service, service_of, served_as, serving_by, serving_of, ticking_of, shutting_of, forgotten}
use Rattle.ua_service_messages.specs.Sessions.{create_session_request_reading, activate_session_request_reading, close_session_request_reading}
use Rattle.ua_service_messages.specs.Browsing.{browse_request_reading, browse_next_request_reading}
use Rattle.ua_service_messages.specs.declared.browsing.BrowseDescription.{BrowseDescription}
use Rattle.ua_service_messages.specs.declared.browsing.BrowseNextRequest.{BrowseNextRequest}
use Rattle.ua_service_messages.specs.declared.browsing.BrowseRequest.{BrowseRequest}
use Rattle.ua_service_messages.specs.History.{history_read_request_reading}
use Rattle.ua_service_messages.specs.declared.history.HistoryReadRequest.{HistoryReadRequest}
use Rattle.ua_service_messages.specs.declared.history.HistoryReadValueId.{HistoryReadValueId}
use Rattle.ua_service_messages.specs.Reading.{read_request_reading}
use Rattle.ua_service_messages.specs.Writing.{write_request_reading}
use Rattle.ua_service_messages.specs.declared.reading.ReadRequest.{ReadRequest}
use Rattle.ua_service_messages.specs.declared.writing.WriteRequest.{WriteRequest}
use Rattle.ua_service_messages.specs.declared.writing.WriteValue.{WriteValue}
use Rattle.ua_messages.specs.declared.read_value_ids.ReadValueId.{ReadValueId}
use Rattle.ua_read_write.specs.Timestamps.{timestamps_of}
use Rattle.ua_read_write.specs.declared.timestamps.Timestamps.{Timestamps}
use Rattle.ua_views.specs.Views.{or_none}
use Rattle.ua_types.specs.declared.node_id.NodeId.{NodeId}
use Rattle.ua_types.specs.NodeIds.{is_null_id}
use Rattle.ua_services.specs.Browse.{browse_listed, browse_meaning}
use Rattle.ua_services.specs.BrowseNext.{browse_next_listed, browse_next_meaning}
use Rattle.ua_services.specs.HistoryRead.{some_times, details_judged, history_ranged, history_listed, history_timed, history_read_meaning}
use Rattle.ua_history.specs.declared.reading.RawRange.{RawRange}
use Rattle.ua_services.specs.InSession.{if_found, served_in_session}
use Rattle.ua_services.specs.Operations.{operations_of}
use Rattle.ua_services.specs.Read.{read_listed, read_timed, read_meaning}
use Rattle.ua_services.specs.Write.{write_listed, write_meaning}
use Rattle.ua_service_messages.specs.declared.sessions.ActivateSessionRequest.{ActivateSessionRequest}
use Rattle.ua_service_messages.specs.declared.sessions.CloseSessionRequest.{CloseSessionRequest}
use Rattle.ua_service_messages.specs.declared.sessions.CreateSessionRequest.{CreateSessionRequest}
use Rattle.ua_session.specs.Sessions.{SessionsState, create_of, activate_of, find_of, close_of}
use Rattle.ua_types.specs.declared.moment.Moment.{Moment}
use Rattle.ua_types.specs.declared.status.Status.{Status}
use Rattle.ua_services.specs.ActivateSession.{is_anonymous, activate_session_body, activate_session_meaning}
use Rattle.ua_services.specs.CloseSession.{close_session_body, close_session_meaning}
use Rattle.ua_services.specs.CreateSession.{create_session_body, create_session_meaning}
use Rattle.ua_services.specs.GetEndpoints.{get_endpoints_meaning}
use Rattle.ua_services.specs.SessionServing.{spent_by, taken, with_sessions}
use Rattle.server_messages.specs.declared.reply.Reply.{Reply}
use Rattle.ua_state_table.specs.declared.vars.Vars.{Vars}
use Rattle.ua_subscription_messages.specs.Triggering.{set_triggering_request_reading}
use Rattle.ua_subscription_messages.specs.MonitoredItems.{create_monitored_items_request_reading, modify_monitored_items_request_reading, set_monitoring_mode_request_reading, delete_monitored_items_request_reading}
use Rattle.ua_subscription_messages.specs.Publishing.{publish_request_reading, republish_request_reading}
use Rattle.ua_subscription_messages.specs.Subscriptions.{create_subscription_request_reading, modify_subscription_request_reading, set_publishing_mode_request_reading, delete_subscriptions_request_reading}
use Rattle.ua_subscription_messages.specs.declared.publishing.PublishRequest.{PublishRequest}
use Rattle.ua_subscription_messages.specs.declared.publishing.RepublishRequest.{RepublishRequest}
use Rattle.ua_subscription_messages.specs.declared.subscriptions.CreateSubscriptionRequest.{CreateSubscriptionRequest}
use Rattle.ua_subscription_messages.specs.declared.subscriptions.DeleteSubscriptionsRequest.{DeleteSubscriptionsRequest}
use Rattle.ua_subscription_messages.specs.declared.subscriptions.ModifySubscriptionRequest.{ModifySubscriptionRequest}
use Rattle.ua_subscription_messages.specs.declared.subscriptions.SetPublishingModeRequest.{SetPublishingModeRequest}
use Rattle.ua_subscriptions.specs.Owing.{RepliedTo, SaysOnly}
use Rattle.ua_monitored_items.specs.Items.{ItemsState}
use Rattle.ua_subscriptions.specs.Making.{modified, republished}
use Rattle.ua_subscriptions.specs.Named.{named_all, deleted}
use Rattle.ua_subscriptions.specs.declared.call.Call.TheVariants.{SetMode, Items}
use Rattle.ua_subscriptions.specs.SubscriptionCalls.{SubscriptionsState, Said, said, without_answer, stage_of, is_full, created, refused, created_one}
use Rattle.ua_subscriptions.specs.declared.settings.Settings.{Settings}
use Rattle.ua_subscriptions.specs.Tables.{Stage, met}
use Rattle.ua_subscriptions.specs.Ending.{shut_down}
use Rattle.ua_subscriptions.proofs.OwingSubs.{create_owes_only, modify_owes_only, set_mode_owes_only, delete_owes_only, republish_owes_only, items_owes_only, publish_owes_only, timers_owe_only, session_end_owes_only, shut_down_owes_only, shut_down_queued, without_conn_queued, queued_more}
use Rattle.ua_session.specs.Sessions.{ticked, ended_by}
use Rattle.ua_services.specs.CloseSession.{closed_by}
use Rattle.ua_services.specs.CreateMonitoredItems.{items_created, create_monitored_items_meaning}
use Rattle.ua_services.specs.CreateSubscription.{settings_asked, create_subscription_body, create_subscription_meaning}
use Rattle.ua_services.specs.DeleteMonitoredItems.{items_deleted, delete_monitored_items_meaning}
use Rattle.ua_services.specs.DeleteSubscriptions.{delete_subscriptions_listed, delete_subscriptions_meaning}
use Rattle.ua_services.specs.ItemServing.{with_items, Itemed, own_vars, items_called_by}
use Rattle.ua_services.specs.ModifyMonitoredItems.{items_modified, modify_monitored_items_meaning}
use Rattle.ua_services.specs.ModifySubscription.{settings_wanted, modify_subscription_body, modify_subscription_meaning}
use Rattle.ua_services.specs.Publish.{publish_call, publish_meaning}
use Rattle.ua_services.specs.Republish.{republish_answer, republish_meaning}
use Rattle.ua_services.specs.SetMonitoringMode.{items_moded, set_monitoring_mode_meaning}
use Rattle.ua_services.specs.SetTriggering.{items_linked, set_triggering_meaning}
use Rattle.ua_services.specs.SetPublishingMode.{set_publishing_listed, set_publishing_mode_meaning}
use Rattle.ua_services.specs.StatusResults.{statuses_body}
use Rattle.ua_services.specs.SubServing.{stage_at, called, no_reply, called_alone, nothing_done, and_then, session_over, timed_out, all_timed_out, timers_met}
use Rattle.ua_services.specs.Owing.{OwesOnly, ServesOnly}
use Rattle.ua_services.specs.declared.caller.Caller.{Caller}

-- making a subscription doesn't halt them
created_halts : (session : ℕ) (asked : Settings) (enabled : Bool) (subs : SubscriptionsState) (items : ItemsState) (clock : Moment) → (created session asked enabled subs items clock).state.halted ≡ subs.halted
unfolding created refused created_one
created_halts session asked enabled subs items clock = by (is_full subs session)
  where
    by : (full : Bool) → (cond full (refused session asked enabled subs (stage_of subs items clock)) (created_one session asked enabled subs (stage_of subs items clock))).state.halted ≡ subs.halted
    by true = refl
    by false = refl

module _ (Such : ℕ → Type 0) where
  either : (b : Bool) (x y : Serving) → ServesOnly Such x → ServesOnly Such y → ServesOnly Such (cond b x y)
  either true x y p q = p
  either false x y p q = q

  by_fields : {A : Type 0} (meaning : Setting → Caller → NodeId → A → Services → Serving) (setting : Setting) (caller : Caller) (token : NodeId) (state : Services) → OwesOnly Such state → Such caller.origin.conn →
      ((request : A) → ServesOnly Such (meaning setting caller token request state)) → (r : Result A TakeFault) → ServesOnly Such (served_by meaning setting caller token state r)
  by_fields meaning setting caller token state p q f (Ok request) = f request
  by_fields meaning setting caller token state p q f (Err fault) = record { state = p; replies = (q, tt) }

  get_endpoints_only : (setting : Setting) (caller : Caller) (token : NodeId) (state : Services) → OwesOnly Such state → Such caller.origin.conn → (request : GetEndpointsRequest) → ServesOnly Such (get_endpoints_meaning setting caller token request state)
  get_endpoints_only setting caller token state p q request = record { state = p; replies = (q, tt) }

  taken_only : {A : Type 0} (caller : Caller) (state : Services) (clock : Moment) (occurrences : List Occurrence) (body : A → List ℕ) → OwesOnly Such state → Such caller.origin.conn → (answer : Result A Status) (sessions : SessionsState) → ServesOnly Such (taken state caller clock occurrences body answer sessions)
  taken_only caller state clock occurrences body p q (Ok x) sessions = record { state = p; replies = (q, tt) }
  taken_only caller state clock occurrences body p q (Err code) sessions = record { state = p; replies = (q, tt) }

  create_session_only : (setting : Setting) (caller : Caller) (token : NodeId) (state : Services) → OwesOnly Such state → Such caller.origin.conn → (request : CreateSessionRequest) → ServesOnly Such (create_session_meaning setting caller token request state)
  create_session_only setting caller token state p q request =
      let s = create_of state.sessions caller.origin.conn caller.key in
      taken_only caller state setting.clock (spent_by state.sessions) (create_session_body setting caller) p q s.answer s.state

  activate_session_only : (setting : Setting) (caller : Caller) (token : NodeId) (state : Services) → OwesOnly Such state → Such caller.origin.conn → (request : ActivateSessionRequest) → ServesOnly Such (activate_session_meaning setting caller token request state)
  activate_session_only setting caller token state p q request =
      let s = activate_of state.sessions token caller.origin.conn caller.key (is_anonymous request.user_identity_token) in
      taken_only caller state setting.clock (spent_by state.sessions) (activate_session_body setting caller) p q s.answer s.state

  -- ---- calls of the subscriptions

  both_replied : (xs ys : List Reply) → RepliedTo Such xs → RepliedTo Such ys → RepliedTo Such (xs ++ ys)
  both_replied [] ys p q = q
  both_replied (x ∷ xs) ys p q = (p.0, both_replied xs ys p.1 q)

  called_only : {A : Type 0} (state : Services) (own : A → List Reply) (said : Said A) → ((x : A) → RepliedTo Such (own x)) → SaysOnly Such said → said.state.halted ≡ None → ServesOnly Such (called state own said)
  called_only state own said q p going = record { state = (p.queued, going); replies = both_replied (own said.outcome.answer) said.outcome.stage.round.replies (q said.outcome.answer) p.replies }

  first_only : {A : Type 0} (state : Services) (caller : Caller) (body : A → List ℕ) (said : Said A) → Such caller.origin.conn → SaysOnly Such said → said.state.halted ≡ None → ServesOnly Such (called state (λ answer. reply_of caller (body answer) ∷ []) said)
  first_only state caller body said q p going = record { state = (p.queued, going); replies = (q, p.replies) }

  told_only : (state : Services) (w : Stage) → SaysOnly Such (without_answer state.subscriptions w) → state.subscriptions.halted ≡ None → ServesOnly Such (called_alone state w)
  unfolding called_alone
  told_only state w p going = called_only state no_reply (without_answer state.subscriptions w) (λ x. tt) p going

  then_only : (s : Serving) (more : Services → Serving) → ServesOnly Such s → ((state : Services) → OwesOnly Such state → ServesOnly Such (more state)) → ServesOnly Such (and_then s more)
  then_only s more p f = let t = f s.state p.state in record { state = t.state; replies = both_replied s.replies (more s.state).replies p.replies t.replies }

  over_only : (setting : Setting) (deleting : Bool) (number : ℕ) (state : Services) → OwesOnly Such state → ServesOnly Such (session_over setting deleting number state)
  over_only setting deleting number state p = told_only state _ (session_end_owes_only Such state.subscriptions state.items setting.clock number deleting p.0) p.1

  all_timed_out_only : (setting : Setting) (numbers : List ℕ) (s : Serving) → ServesOnly Such s → ServesOnly Such (fold (timed_out setting) s numbers)
  unfolding timed_out
  all_timed_out_only setting [] s p = p
  all_timed_out_only setting (number ∷ numbers) s p = all_timed_out_only setting numbers (timed_out setting s number) (then_only s (session_over setting false number) p (over_only setting false number))

  -- ---- sessions

  closed_only : (setting : Setting) (caller : Caller) (deleting : Bool) (state : Services) → OwesOnly Such state → Such caller.origin.conn → (answer : Result ℕ Status) (sessions : SessionsState) → ServesOnly Such (closed_by setting caller deleting state answer sessions)
  closed_only setting caller deleting state p q (Ok number) sessions =
      then_only (session_over setting deleting number (with_sessions state sessions)) (λ (after : Services). answered_at_once after caller (close_session_body setting caller))
      (over_only setting deleting number (with_sessions state sessions) p) (λ after owes. record { state = owes; replies = (q, tt) })
  closed_only setting caller deleting state p q (Err code) sessions = record { state = p; replies = (q, tt) }

  close_session_only : (setting : Setting) (caller : Caller) (token : NodeId) (state : Services) → OwesOnly Such state → Such caller.origin.conn → (request : CloseSessionRequest) → ServesOnly Such (close_session_meaning setting caller token request state)
  close_session_only setting caller token state p q request =
      let s = close_of state.sessions token caller.origin.conn in
      closed_only setting caller request.delete_subscriptions state p q s.answer s.state

  if_found_only : (serve : ℕ → Services → Serving) (setting : Setting) (caller : Caller) (state : Services) → OwesOnly Such state → Such caller.origin.conn → ((number : ℕ) (after : Services) → OwesOnly Such after → ServesOnly Such (serve number after)) → (answer : Result ℕ Status) (sessions : SessionsState) →
      ServesOnly Such (if_found serve setting caller state answer sessions)
  if_found_only serve setting caller state p q f (Ok number) sessions = f number (with_sessions state sessions) p
  if_found_only serve setting caller state p q f (Err code) sessions = record { state = p; replies = (q, tt) }

  by_session : {A : Type 0} (meaning : Setting → Caller → ℕ → A → Services → Serving) (setting : Setting) (caller : Caller) (token : NodeId) (state : Services) → OwesOnly Such state → Such caller.origin.conn →
      ((number : ℕ) (request : A) (after : Services) → OwesOnly Such after → ServesOnly Such (meaning setting caller number request after)) → (r : Result A TakeFault) → ServesOnly Such (served_in_session meaning setting caller token state r)
  by_session meaning setting caller token state p q f (Ok request) =
      let s = find_of state.sessions token caller.origin.conn in
      if_found_only (λ number. meaning setting caller number request) setting caller state p q (λ number. f number request) s.answer s.state
  by_session meaning setting caller token state p q f (Err fault) = record { state = p; replies = (q, tt) }

  read_listed_only : (setting : Setting) (caller : Caller) (state : Services) (timestamps : Timestamps) → OwesOnly Such state → Such caller.origin.conn → (r : Result (List ReadValueId) Status) → ServesOnly Such (read_listed setting caller state timestamps r)
  read_listed_only setting caller state timestamps p q (Ok nodes) = record { state = p; replies = (q, tt) }
  read_listed_only setting caller state timestamps p q (Err code) = record { state = p; replies = (q, tt) }

  read_timed_only : (setting : Setting) (caller : Caller) (state : Services) (nodes : Option (List ReadValueId)) → OwesOnly Such state → Such caller.origin.conn → (choice : Option Timestamps) → ServesOnly Such (read_timed setting caller state nodes choice)
  read_timed_only setting caller state nodes p q None = record { state = p; replies = (q, tt) }
  read_timed_only setting caller state nodes p q (Some timestamps) = read_listed_only setting caller state timestamps p q (operations_of setting.config nodes)

  read_only : (setting : Setting) (caller : Caller) → Such caller.origin.conn → (session : ℕ) (request : ReadRequest) (state : Services) → OwesOnly Such state → ServesOnly Such (read_meaning setting caller session request state)
  read_only setting caller q session request state p = read_timed_only setting caller state request.nodes_to_read p q (timestamps_of request.timestamps_to_return)

  write_listed_only : (setting : Setting) (caller : Caller) (state : Services) → OwesOnly Such state → Such caller.origin.conn → (r : Result (List WriteValue) Status) → ServesOnly Such (write_listed setting caller state r)
  write_listed_only setting caller state p q (Ok values) = record { state = p; replies = (q, tt) }
  write_listed_only setting caller state p q (Err code) = record { state = p; replies = (q, tt) }

  write_only : (setting : Setting) (caller : Caller) → Such caller.origin.conn → (session : ℕ) (request : WriteRequest) (state : Services) → OwesOnly Such state → ServesOnly Such (write_meaning setting caller session request state)
  write_only setting caller q session request state p = write_listed_only setting caller state p q (operations_of setting.config request.nodes_to_write)

  browse_listed_only : (setting : Setting) (caller : Caller) (session requested : ℕ) (state : Services) → OwesOnly Such state → Such caller.origin.conn → (r : Result (List BrowseDescription) Status) → ServesOnly Such (browse_listed setting caller session requested state r)
  browse_listed_only setting caller session requested state p q (Ok descriptions) = record { state = p; replies = (q, tt) }
  browse_listed_only setting caller session requested state p q (Err code) = record { state = p; replies = (q, tt) }

  browse_only : (setting : Setting) (caller : Caller) → Such caller.origin.conn → (session : ℕ) (request : BrowseRequest) (state : Services) → OwesOnly Such state → ServesOnly Such (browse_meaning setting caller session request state)
  browse_only setting caller q session request state p =
      either (not (is_null_id request.view_id)) _ _ (record { state = p; replies = (q, tt) })
      (browse_listed_only setting caller session request.requested_max_references_per_node state p q (operations_of setting.config request.nodes_to_browse))

  browse_next_listed_only : (setting : Setting) (caller : Caller) (session : ℕ) (is_release : Bool) (state : Services) → OwesOnly Such state → Such caller.origin.conn → (r : Result (List (Option (List ℕ))) Status) →
      ServesOnly Such (browse_next_listed setting caller session is_release state r)
  browse_next_listed_only setting caller session is_release state p q (Ok points) = record { state = p; replies = (q, tt) }
  browse_next_listed_only setting caller session is_release state p q (Err code) = record { state = p; replies = (q, tt) }

  browse_next_only : (setting : Setting) (caller : Caller) → Such caller.origin.conn → (session : ℕ) (request : BrowseNextRequest) (state : Services) → OwesOnly Such state → ServesOnly Such (browse_next_meaning setting caller session request state)
  browse_next_only setting caller q session request state p =
      browse_next_listed_only setting caller session request.release_continuation_points state p q (operations_of setting.config request.continuation_points)

  history_ranged_only : (setting : Setting) (caller : Caller) (session : ℕ) (request : HistoryReadRequest) (state : Services) (times : Timestamps) (nodes : List HistoryReadValueId) → OwesOnly Such state → Such caller.origin.conn → (r : Result RawRange Status) →
      ServesOnly Such (history_ranged setting caller session request state times nodes r)
  history_ranged_only setting caller session request state times nodes p q (Ok range) = record { state = p; replies = (q, tt) }
  history_ranged_only setting caller session request state times nodes p q (Err code) = record { state = p; replies = (q, tt) }

  history_listed_only : (setting : Setting) (caller : Caller) (session : ℕ) (request : HistoryReadRequest) (state : Services) (times : Timestamps) → OwesOnly Such state → Such caller.origin.conn → (r : Result (List HistoryReadValueId) Status) →
      ServesOnly Such (history_listed setting caller session request state times r)
  history_listed_only setting caller session request state times p q (Ok nodes) = history_ranged_only setting caller session request state times nodes p q (details_judged setting.config request.history_read_details)
  history_listed_only setting caller session request state times p q (Err code) = record { state = p; replies = (q, tt) }

  history_timed_only : (setting : Setting) (caller : Caller) (session : ℕ) (request : HistoryReadRequest) (state : Services) → OwesOnly Such state → Such caller.origin.conn → (choice : Option Timestamps) → ServesOnly Such (history_timed setting caller session request state choice)
  history_timed_only setting caller session request state p q None = record { state = p; replies = (q, tt) }
  history_timed_only setting caller session request state p q (Some times) = history_listed_only setting caller session request state times p q (operations_of setting.config request.nodes_to_read)

  history_read_only : (setting : Setting) (caller : Caller) → Such caller.origin.conn → (session : ℕ) (request : HistoryReadRequest) (state : Services) → OwesOnly Such state → ServesOnly Such (history_read_meaning setting caller session request state)
  history_read_only setting caller q session request state p = history_timed_only setting caller session request state p q (some_times (timestamps_of request.timestamps_to_return))

  -- ---- subscriptions

  create_subscription_only : (setting : Setting) (caller : Caller) → Such caller.origin.conn → (session : ℕ) (request : CreateSubscriptionRequest) (state : Services) → OwesOnly Such state → ServesOnly Such (create_subscription_meaning setting caller session request state)
  create_subscription_only setting caller q session request state p =
      first_only state caller (create_subscription_body setting caller) (created session (settings_asked request) request.publishing_enabled state.subscriptions state.items setting.clock) q (create_owes_only Such state.subscriptions state.items setting.clock session (settings_asked request) request.publishing_enabled p.0) (created_halts session (settings_asked request) request.publishing_enabled state.subscriptions state.items setting.clock ∙ p.1)

  modify_subscription_only : (setting : Setting) (caller : Caller) → Such caller.origin.conn → (session : ℕ) (request : ModifySubscriptionRequest) (state : Services) → OwesOnly Such state → ServesOnly Such (modify_subscription_meaning setting caller session request state)
  modify_subscription_only setting caller q session request state p =
      first_only state caller (modify_subscription_body setting caller) (said state.subscriptions (modified session request.subscription_id (settings_wanted request) (stage_at setting state))) q (modify_owes_only Such state.subscriptions state.items setting.clock session request.subscription_id (settings_wanted request) p.0) p.1

  publishing_listed_only : (setting : Setting) (caller : Caller) (session : ℕ) (enabled : Bool) (state : Services) → OwesOnly Such state → Such caller.origin.conn → (r : Result (List ℕ) Status) → ServesOnly Such (set_publishing_listed setting caller session enabled state r)
  publishing_listed_only setting caller session enabled state p q (Ok numbers) =
      first_only state caller (statuses_body SET_PUBLISHING_MODE_RESPONSE setting caller) (said state.subscriptions (named_all session (SetMode enabled) (stage_at setting state) numbers)) q (set_mode_owes_only Such state.subscriptions state.items setting.clock session numbers enabled p.0) p.1
  publishing_listed_only setting caller session enabled state p q (Err code) = record { state = p; replies = (q, tt) }

  set_publishing_mode_only : (setting : Setting) (caller : Caller) → Such caller.origin.conn → (session : ℕ) (request : SetPublishingModeRequest) (state : Services) → OwesOnly Such state → ServesOnly Such (set_publishing_mode_meaning setting caller session request state)
  set_publishing_mode_only setting caller q session request state p = publishing_listed_only setting caller session request.publishing_enabled state p q (operations_of setting.config request.subscription_ids)

  subscriptions_deleted_only : (setting : Setting) (caller : Caller) (session : ℕ) (state : Services) → OwesOnly Such state → Such caller.origin.conn → (r : Result (List ℕ) Status) → ServesOnly Such (delete_subscriptions_listed setting caller session state r)
  subscriptions_deleted_only setting caller session state p q (Ok numbers) =
      first_only state caller (statuses_body DELETE_SUBSCRIPTIONS_RESPONSE setting caller) (said state.subscriptions (deleted session (stage_at setting state) numbers)) q (delete_owes_only Such state.subscriptions state.items setting.clock session numbers p.0) p.1
  subscriptions_deleted_only setting caller session state p q (Err code) = record { state = p; replies = (q, tt) }

  delete_subscriptions_only : (setting : Setting) (caller : Caller) → Such caller.origin.conn → (session : ℕ) (request : DeleteSubscriptionsRequest) (state : Services) → OwesOnly Such state → ServesOnly Such (delete_subscriptions_meaning setting caller session request state)
  delete_subscriptions_only setting caller q session request state p = subscriptions_deleted_only setting caller session state p q (operations_of setting.config request.subscription_ids)

  publish_only : (setting : Setting) (caller : Caller) → Such caller.origin.conn → (session : ℕ) (request : PublishRequest) (state : Services) → OwesOnly Such state → ServesOnly Such (publish_meaning setting caller session request state)
  publish_only setting caller q session request state p =
      let acks = or_none request.subscription_acknowledgements in
      either (nat_lt setting.config.operations (length acks)) _ _ (record { state = p; replies = (q, tt) })
      (told_only state _ (publish_owes_only Such state.subscriptions state.items setting.clock session (publish_call caller) acks q p.0) p.1)

  republish_only : (setting : Setting) (caller : Caller) → Such caller.origin.conn → (session : ℕ) (request : RepublishRequest) (state : Services) → OwesOnly Such state → ServesOnly Such (republish_meaning setting caller session request state)
  republish_only setting caller q session request state p =
      first_only state caller (republish_answer setting caller) (said state.subscriptions (republished session request.subscription_id request.retransmit_sequence_number (stage_at setting state))) q (republish_owes_only Such state.subscriptions state.items setting.clock session request.subscription_id request.retransmit_sequence_number p.0) p.1

  -- ---- monitored items

  items_called_only : (setting : Setting) (caller : Caller) (number : ℕ) (state : Services) (done : Itemed) → OwesOnly Such state → Such caller.origin.conn → (before : Option Vars) → ServesOnly Such (items_called_by setting caller number state done before)
  items_called_only setting caller number state done p q None = record { state = p; replies = (q, tt) }
  items_called_only setting caller number state done p q (Some before) =
      first_only (with_items state done.items) caller (λ (x : Unit {0}). done.body) (without_answer state.subscriptions (met (stage_at setting (with_items state done.items)) number (Items before))) q (items_owes_only Such state.subscriptions done.items setting.clock number before p.0) p.1

  picked_only : (setting : Setting) (caller : Caller) (token : NodeId) (fields : List ℕ) (state : Services) (service : Option Service) → OwesOnly Such state → Such caller.origin.conn → ServesOnly Such (served_as setting caller token fields state service)
  picked_only setting caller token fields state (Some Service.GetEndpoints) p q = by_fields get_endpoints_meaning setting caller token state p q (get_endpoints_only setting caller token state p q) (fields_of get_endpoints_request_reading fields)
  picked_only setting caller token fields state (Some Service.CreateSession) p q = by_fields create_session_meaning setting caller token state p q (create_session_only setting caller token state p q) (fields_of create_session_request_reading fields)
  picked_only setting caller token fields state (Some Service.ActivateSession) p q = by_fields activate_session_meaning setting caller token state p q (activate_session_only setting caller token state p q) (fields_of activate_session_request_reading fields)
  picked_only setting caller token fields state (Some Service.CloseSession) p q = by_fields close_session_meaning setting caller token state p q (close_session_only setting caller token state p q) (fields_of close_session_request_reading fields)
  picked_only setting caller token fields state (Some Service.Read) p q = by_session read_meaning setting caller token state p q (read_only setting caller q) (fields_of read_request_reading fields)
  picked_only setting caller token fields state (Some Service.Write) p q = by_session write_meaning setting caller token state p q (write_only setting caller q) (fields_of write_request_reading fields)
  picked_only setting caller token fields state (Some Service.Browse) p q = by_session browse_meaning setting caller token state p q (browse_only setting caller q) (fields_of browse_request_reading fields)
  picked_only setting caller token fields state (Some Service.BrowseNext) p q = by_session browse_next_meaning setting caller token state p q (browse_next_only setting caller q) (fields_of browse_next_request_reading fields)
  picked_only setting caller token fields state (Some Service.HistoryRead) p q = by_session history_read_meaning setting caller token state p q (history_read_only setting caller q) (fields_of history_read_request_reading fields)
  picked_only setting caller token fields state (Some Service.CreateMonitoredItems) p q = by_session create_monitored_items_meaning setting caller token state p q (λ session request after owes. items_called_only setting caller request.subscription_id after (items_created setting caller request after) owes q (own_vars session request.subscription_id after)) (fields_of create_monitored_items_request_reading fields)
  picked_only setting caller token fields state (Some Service.ModifyMonitoredItems) p q = by_session modify_monitored_items_meaning setting caller token state p q (λ session request after owes. items_called_only setting caller request.subscription_id after (items_modified setting caller request after) owes q (own_vars session request.subscription_id after)) (fields_of modify_monitored_items_request_reading fields)
  picked_only setting caller token fields state (Some Service.SetMonitoringMode) p q = by_session set_monitoring_mode_meaning setting caller token state p q (λ session request after owes. items_called_only setting caller request.subscription_id after (items_moded setting caller request after) owes q (own_vars session request.subscription_id after)) (fields_of set_monitoring_mode_request_reading fields)
  picked_only setting caller token fields state (Some Service.SetTriggering) p q = by_session set_triggering_meaning setting caller token state p q (λ session request after owes. items_called_only setting caller request.subscription_id after (items_linked setting caller request after) owes q (own_vars session request.subscription_id after)) (fields_of set_triggering_request_reading fields)
  picked_only setting caller token fields state (Some Service.DeleteMonitoredItems) p q = by_session delete_monitored_items_meaning setting caller token state p q (λ session request after owes. items_called_only setting caller request.subscription_id after (items_deleted setting caller request after) owes q (own_vars session request.subscription_id after)) (fields_of delete_monitored_items_request_reading fields)
  picked_only setting caller token fields state (Some Service.CreateSubscription) p q = by_session create_subscription_meaning setting caller token state p q (create_subscription_only setting caller q) (fields_of create_subscription_request_reading fields)
  picked_only setting caller token fields state (Some Service.ModifySubscription) p q = by_session modify_subscription_meaning setting caller token state p q (modify_subscription_only setting caller q) (fields_of modify_subscription_request_reading fields)
  picked_only setting caller token fields state (Some Service.SetPublishingMode) p q = by_session set_publishing_mode_meaning setting caller token state p q (set_publishing_mode_only setting caller q) (fields_of set_publishing_mode_request_reading fields)
  picked_only setting caller token fields state (Some Service.DeleteSubscriptions) p q = by_session delete_subscriptions_meaning setting caller token state p q (delete_subscriptions_only setting caller q) (fields_of delete_subscriptions_request_reading fields)
  picked_only setting caller token fields state (Some Service.Publish) p q = by_session publish_meaning setting caller token state p q (publish_only setting caller q) (fields_of publish_request_reading fields)
  picked_only setting caller token fields state (Some Service.Republish) p q = by_session republish_meaning setting caller token state p q (republish_only setting caller q) (fields_of republish_request_reading fields)
  picked_only setting caller token fields state None p q = record { state = p; replies = (q, tt) }

  by_header : (setting : Setting) (request : Request) (state : Services) (id : Result ℕ TakeFault) (headed : Result Headed TakeFault) → OwesOnly Such state → Such request.conn →
      ServesOnly Such (serving_by setting request state id headed)
  by_header setting request state (Ok id) (Ok headed) p q = picked_only setting (call_of request headed.header.request_handle) headed.header.authentication_token headed.fields state (service_of id) p q
  by_header setting request state (Ok id) (Err fault) p q = record { state = p; replies = (q, tt) }
  by_header setting request state (Err fault) headed p q = record { state = p; replies = (q, tt) }

  pub serving_only : (setting : Setting) (request : Request) (state : Services) → OwesOnly Such state → Such request.conn → ServesOnly Such (serving_of setting request state)
  unfolding serving_of
  serving_only setting request state p q = by_header setting request state (message_id_of request.body) (headed_of request.body) p q

  pub ticking_only : (setting : Setting) (state : Services) → OwesOnly Such state → ServesOnly Such (ticking_of setting state)
  ticking_only setting state p =
      let after = with_sessions state (ticked state.sessions setting.clock) in
      let ended = ended_by state.sessions setting.clock in
      then_only (all_timed_out setting after ended) (timers_met setting) (all_timed_out_only setting ended (nothing_done after) (record { state = p; replies = tt }))
      (λ mid owes. told_only mid _ (timers_owe_only Such mid.subscriptions mid.items setting.clock owes.0) owes.1)

  -- what the server's end answers, and nobody waits then
  pub shutting_only : (setting : Setting) (state : Services) → OwesOnly Such state → ServesOnly Such (shutting_of setting state)
  unfolding shutting_of
  shutting_only setting state p =
      let s = told_only state (shut_down (stage_at setting state)) (shut_down_owes_only Such state.subscriptions state.items setting.clock p.0) p.1 in
      record { state = s.state; replies = s.replies }

  -- a connection that is forgotten waits for nothing
  pub forgotten_only : (state : Services) (conn : ℕ) → OwesOnly Such state → OwesOnly (λ (other : ℕ). Such other × (other ≢ conn)) (forgotten state conn)
  forgotten_only state conn p = (without_conn_queued Such conn state.subscriptions.table p.0, p.1)

-- whoever asked, nothing waits once the server has ended
pub shutting_owes_none : (Asked Such : ℕ → Type 0) (setting : Setting) (state : Services) → OwesOnly Asked (shutting_of setting state).state → OwesOnly Such (shutting_of setting state).state
unfolding shutting_of called_alone
shutting_owes_none Asked Such setting state p = (shut_down_queued Such state.subscriptions state.items setting.clock, p.1)

-- what is true of more connections
module _ (Such More : ℕ → Type 0) (f : (conn : ℕ) → Such conn → More conn) where
  pub owes_more : (state : Services) → OwesOnly Such state → OwesOnly More state
  owes_more state p = (queued_more Such More f state.subscriptions.table.sessions p.0, p.1)
