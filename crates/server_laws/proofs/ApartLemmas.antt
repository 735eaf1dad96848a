-- Each request leaves what is of other sessions as it was: the walk through all services, of which each is no call or one call
-- of its own session.
use Rattle.std.proofs.Common.{◌≡◌, ℕ, arith, Bool, true, false, not, cond, List, [], ◌∷◌, length, fold, Option, Some, None, Result, Ok, Err, refl, sym, subst}
use Rattle.std.proofs.lemmas.Bool.{false≢true}
use Rattle.std.specs.Prelude.{nat_lt, IfOk, IfSome}
use Rattle.std.specs.FinMap.{get-empty}
use Rattle.std.specs.Ordering.{nat_cmp}
use Rattle.ua_types.specs.Configuration.{Configuration}
use Rattle.ua_types.specs.declared.moment.Moment.{Moment}
use Rattle.ua_types.specs.declared.node_id.NodeId.{NodeId}
use Rattle.ua_types.specs.NodeIds.{is_null_id}
use Rattle.ua_types.specs.declared.status.Status.{Status}
use Rattle.ua_binary.specs.declared.fault.TakeFault.{TakeFault}
use Rattle.ua_messages.specs.Bodies.{message_id_of}
use Rattle.ua_messages.specs.GetEndpoints.{get_endpoints_request_reading}
use Rattle.ua_messages.specs.Requests.{Headed, headed_of, fields_of}
use Rattle.ua_messages.specs.declared.headers.RequestHeader.{RequestHeader}
use Rattle.ua_messages.specs.declared.read_value_ids.ReadValueId.{ReadValueId}
use Rattle.ua_messages.specs.declared.type_ids.TheConstants.{BROWSE_RESPONSE, BROWSE_NEXT_RESPONSE, HISTORY_READ_RESPONSE, SET_PUBLISHING_MODE_RESPONSE, DELETE_SUBSCRIPTIONS_RESPONSE}
use Rattle.server_messages.specs.declared.fired.Fired.{Fired}
use Rattle.server_messages.specs.declared.reply.Reply.{Reply}
use Rattle.server_messages.specs.declared.request.Request.{Request}
use Rattle.server_messages.specs.declared.setting.Setting.{Setting}
use Rattle.ua_service_messages.specs.Browsing.{browse_result_encoding, browse_request_reading, browse_next_request_reading}
use Rattle.ua_service_messages.specs.History.{history_read_result_encoding, history_read_request_reading}
use Rattle.ua_service_messages.specs.Reading.{read_request_reading}
use Rattle.ua_service_messages.specs.Sessions.{create_session_request_reading, activate_session_request_reading, close_session_request_reading}
use Rattle.ua_service_messages.specs.Writing.{write_request_reading}
use Rattle.ua_service_messages.specs.declared.browsing.BrowseDescription.{BrowseDescription}
use Rattle.ua_service_messages.specs.declared.browsing.BrowseNextRequest.{BrowseNextRequest}
use Rattle.ua_service_messages.specs.declared.browsing.BrowseRequest.{BrowseRequest}
use Rattle.ua_service_messages.specs.declared.history.HistoryReadRequest.{HistoryReadRequest}
use Rattle.ua_service_messages.specs.declared.history.HistoryReadValueId.{HistoryReadValueId}
use Rattle.ua_service_messages.specs.declared.reading.ReadRequest.{ReadRequest}
use Rattle.ua_service_messages.specs.declared.sessions.ActivateSessionRequest.{ActivateSessionRequest}
use Rattle.ua_service_messages.specs.declared.sessions.CloseSessionRequest.{CloseSessionRequest}
use Rattle.ua_service_messages.specs.declared.sessions.CreateSessionRequest.{CreateSessionRequest}
use Rattle.ua_service_messages.specs.declared.writing.WriteRequest.{WriteRequest}
use Rattle.ua_service_messages.specs.declared.writing.WriteValue.{WriteValue}
use Rattle.ua_subscription_messages.specs.Triggering.{set_triggering_request_reading}
use Rattle.ua_subscription_messages.specs.MonitoredItems.{create_monitored_items_request_reading, modify_monitored_items_request_reading, set_monitoring_mode_request_reading, delete_monitored_items_request_reading}
use Rattle.ua_subscription_messages.specs.Publishing.{publish_request_reading, republish_request_reading}
use Rattle.ua_subscription_messages.specs.Subscriptions.{create_subscription_request_reading, modify_subscription_request_reading, set_publishing_mode_request_reading, delete_subscriptions_request_reading}
use Rattle.ua_subscription_messages.specs.declared.publishing.PublishRequest.{PublishRequest}
use Rattle.ua_subscription_messages.specs.declared.publishing.RepublishRequest.{RepublishRequest}
use Rattle.ua_subscription_messages.specs.declared.subscriptions.CreateSubscriptionRequest.{CreateSubscriptionRequest}
use Rattle.ua_subscription_messages.specs.declared.subscriptions.DeleteSubscriptionsRequest.{DeleteSubscriptionsRequest}
use Rattle.ua_subscription_messages.specs.declared.subscriptions.ModifySubscriptionRequest.{ModifySubscriptionRequest}
use Rattle.ua_subscription_messages.specs.declared.subscriptions.SetPublishingModeRequest.{SetPublishingModeRequest}
use Rattle.ua_state_table.specs.declared.vars.Vars.{Vars}
use Rattle.ua_read_write.specs.Timestamps.{timestamps_of}
use Rattle.ua_read_write.specs.declared.writing.Change.{Change}
use Rattle.ua_read_write.specs.declared.timestamps.Timestamps.{Timestamps}
use Rattle.ua_history.specs.declared.reading.RawRange.{RawRange}
use Rattle.ua_monitored_items.specs.Items.{ItemsState}
use Rattle.ua_subscriptions.specs.Ending.{session_ended}
use Rattle.ua_subscriptions.specs.Making.{modified, republished}
use Rattle.ua_subscriptions.specs.Named.{is_own, named_all, deleted}
use Rattle.ua_subscriptions.specs.Publishing.{published}
use Rattle.ua_subscriptions.specs.SubscriptionCalls.{SubscriptionsState, Said, said, without_answer, created}
use Rattle.subscription_laws.specs.Apartness.{IsRequestOf, OthersStay}
use Rattle.subscription_laws.specs.Runs.{ItemsCall, Move, Ran, ran_by, moved, start}
use Rattle.subscription_laws.proofs.Others.{none_changes, requests_stay_apart}
use Rattle.ua_subscriptions.specs.Tables.{Stage, vars_found}
use Rattle.ua_subscriptions.specs.declared.call.Call.TheVariants as sub_call
use Rattle.ua_browse.specs.Browsing.{page_size, browse_of}
use Rattle.ua_session.specs.Sessions.{SessionsState, Named, named, points_of, with_points, create_of, activate_of, find_of, close_of, ticked, ended_by}
use Rattle.ua_services.specs.ActivateSession.{is_anonymous, activate_session_body, activate_session_meaning}
use Rattle.server_laws.specs.Apart.{NamesOnly, accepted_listed, accepted_found, accepted_read, accepted_by, accepted, is_write_id, is_write, KeepsApart, is_write_service}
use Rattle.ua_services.specs.Browse.{browse_listed, browse_meaning}
use Rattle.ua_services.specs.BrowseNext.{go_on_of, browse_next_listed, browse_next_meaning}
use Rattle.ua_services.specs.BrowseResults.{browse_told}
use Rattle.ua_services.specs.CloseSession.{closed_by, close_session_meaning}
use Rattle.ua_services.specs.CreateMonitoredItems.{items_created, create_monitored_items_meaning}
use Rattle.ua_services.specs.CreateSession.{create_session_body, create_session_meaning}
use Rattle.ua_services.specs.CreateSubscription.{settings_asked, create_subscription_body, create_subscription_meaning}
use Rattle.ua_services.specs.SetTriggering.{items_linked, set_triggering_meaning}
use Rattle.ua_services.specs.DeleteMonitoredItems.{items_deleted, delete_monitored_items_meaning}
use Rattle.ua_services.specs.DeleteSubscriptions.{delete_subscriptions_listed, delete_subscriptions_meaning}
use Rattle.ua_services.specs.GetEndpoints.{get_endpoints_meaning}
use Rattle.ua_services.specs.HistoryRead.{some_times, details_judged, node_read, history_ranged, history_listed, history_timed, history_read_meaning}
use Rattle.ua_services.specs.InSession.{if_found, served_in_session}
use Rattle.ua_services.specs.ItemServing.{Itemed, own_vars, items_called_by}
use Rattle.ua_services.specs.ModifyMonitoredItems.{items_modified, modify_monitored_items_meaning}
use Rattle.ua_services.specs.ModifySubscription.{settings_wanted, modify_subscription_body, modify_subscription_meaning}
use Rattle.server_laws.specs.EventMoves.{create_asked, modify_asked, mode_asked, link_asked, delete_asked}
use Rattle.server_laws.specs.Moving.{Went, ran_at}
use Rattle.ua_services.specs.Operations.{operations_of}
use Rattle.ua_services.specs.Paging.{AllDone, all_done, paged}
use Rattle.ua_views.specs.Views.{or_none}
use Rattle.ua_services.specs.Publish.{publish_call, publish_meaning}
use Rattle.ua_services.specs.Read.{read_listed, read_timed, read_meaning}
use Rattle.ua_services.specs.Republish.{republish_answer, republish_meaning}
use Rattle.ua_services.specs.Services.{call_of, Service, service_of, served_as, serving_by, serving_of, ticking_of, shutting_of}
use Rattle.ua_services.specs.declared.services.Services.{Services}
use Rattle.ua_services.specs.Serving.{Occurrence, Serving, reply_of, served_by}
use Rattle.ua_services.specs.SessionServing.{spent_by, taken, with_sessions}
use Rattle.ua_services.specs.SetMonitoringMode.{items_moded, set_monitoring_mode_meaning}
use Rattle.ua_services.specs.SetPublishingMode.{set_publishing_listed, set_publishing_mode_meaning}
use Rattle.ua_services.specs.StatusResults.{statuses_body}
use Rattle.ua_services.specs.SubServing.{stage_at, called, no_reply, called_alone, nothing_done, session_over, timed_out}
use Rattle.ua_services.specs.Write.{sampled, write_listed, write_meaning}
use Rattle.ua_services.specs.declared.caller.Caller.{Caller}
use Rattle.ua_services.specs.declared.history_read.Wanted.{Wanted}
use Rattle.server_laws.proofs.WalkingServices.{Asks, created_asks, modified_asks, moded_asks, linked_asks, deleted_asks, row_after, asked_ran}
use Rattle.server_laws.proofs.OtherSessions.{IsFresh, Keeps, unchanged, sessions_stay, named_given, fresh_after, ticked_fresh, find_leaves, activate_leaves, close_leaves, create_stays, points_stay, stay_behind}

-- ---- what is left as it was

-- by each service but Write
record KeepsRest (session : ℕ) (before after : Services) : Type 0 where
  sessions : Keeps session before.sessions after.sessions
  rest : OthersStay session before.subscriptions.table before.items after.subscriptions.table after.items

-- by a Write, whose accepted values are these
record KeepsShown (session : ℕ) (changed : List Change) (before after : Services) : Type 0 where
  sessions : Keeps session before.sessions after.sessions
  subscriptions : after.subscriptions ≡ before.subscriptions
  items : after.items ≡ sampled before.items changed

none_shown : (session : ℕ) (state : Services) (sessions : SessionsState) → Keeps session state.sessions sessions → KeepsShown session [] state (with_sessions state sessions)
none_shown session state sessions p = record { sessions = p; subscriptions = refl; items = refl }

not_shown : (session : ℕ) (state : Services) → KeepsShown session [] state state
not_shown session state = none_shown session state state.sessions (unchanged session state.sessions)

-- ---- one call of a session

-- these subscriptions and items are where some calls lead from none on
pub record CameBy (subs : SubscriptionsState) (items : ItemsState) : Type 0 where
  pub config : Configuration
  pub rows : List Fired
  pub moves : List Move
  pub came : Went (start config) moves subs items rows

nothing_stays : (session : ℕ) (state : Services) (sessions : SessionsState) → Keeps session state.sessions sessions → KeepsRest session state (with_sessions state sessions)
nothing_stays session state sessions p = record {
  sessions = p;
  rest = none_changes session state.subscriptions.table state.items;
}

none_stays : (session : ℕ) (state : Services) → KeepsRest session state state
none_stays session state = nothing_stays session state state.sessions (unchanged session state.sessions)

-- behind a step of the sessions
later_stays : (session : ℕ) (state : Services) (sessions : SessionsState) (after : Services) → sessions.made ≡ state.sessions.made → Keeps session state.sessions sessions →
    KeepsRest session (with_sessions state sessions) after → KeepsRest session state after
later_stays session state sessions after made p q = record { sessions = stay_behind session state.sessions sessions after.sessions made p q.sessions; rest = q.rest }

abbrev StaysIn : ℕ → Services → Ran → Type 0
StaysIn session state r = OthersStay session state.subscriptions.table state.items r.subscriptions.table r.items

call_stays : (session : ℕ) (state : Services) (from : CameBy state.subscriptions state.items) (move : Move) → IsRequestOf session state.subscriptions.table move →
    StaysIn session state (moved (ran_at state from.rows from.came.replied) move)
call_stays session state from move is =
    subst (λ (r : Ran). IsRequestOf session r.subscriptions.table move → OthersStay session r.subscriptions.table r.items (moved r move).subscriptions.table (moved r move).items) from.came.left
    (requests_stay_apart from.config from.moves move session) is

one_stays : {A : Type 0} (session : ℕ) (state : Services) (from : CameBy state.subscriptions state.items) (own : A → List Reply) (s : Said A) (move : Move) →
    ((so_far : List Fired) (replies : List Reply) → moved (ran_at state so_far replies) move ≡ ran_by (ran_at state so_far replies) s) → IsRequestOf session state.subscriptions.table move → KeepsRest session state (called state own s).state
one_stays session state from own s move f is = record {
  sessions = unchanged session state.sessions;
  rest = subst (StaysIn session state) (f from.rows from.came.replied) (call_stays session state from move is);
}

told_stays : (session : ℕ) (state : Services) (from : CameBy state.subscriptions state.items) (w : Stage) (move : Move) →
    ((so_far : List Fired) (replies : List Reply) → moved (ran_at state so_far replies) move ≡ ran_by (ran_at state so_far replies) (without_answer state.subscriptions w)) → IsRequestOf session state.subscriptions.table move →
    KeepsRest session state (called_alone state w).state
unfolding called_alone
told_stays session state from w move f is = one_stays session state from no_reply (without_answer state.subscriptions w) move f is

-- the same, where the serving is seen to be one of two
record Apart (session : ℕ) (state : Services) (s : Serving) : Type 0 where
  stays : KeepsRest session state s.state

either : (session : ℕ) (state : Services) (b : Bool) (x y : Serving) → Apart session state x → Apart session state y → Apart session state (cond b x y)
either session state true x y p q = p
either session state false x y p q = q

by_fields : {A : Type 0} (session : ℕ) (meaning : Setting → Caller → NodeId → A → Services → Serving) (setting : Setting) (caller : Caller) (token : NodeId) (state : Services) → ((request : A) → KeepsRest session state (meaning setting caller token request state).state) →
    (r : Result A TakeFault) → Apart session state (served_by meaning setting caller token state r)
by_fields session meaning setting caller token state f (Ok request) = record { stays = f request }
by_fields session meaning setting caller token state f (Err fault) = record { stays = none_stays session state }

-- ---- sessions

abbrev NamesIn : ℕ → Services → NodeId → Type 0
NamesIn session state token = IfSome (named state.sessions token) (λ (n : Named). n.number ≡ session)

taken_stays : {A : Type 0} (session : ℕ) (caller : Caller) (state : Services) (clock : Moment) (occurrences : List Occurrence) (body : A → List ℕ) (answer : Result A Status) (sessions : SessionsState) →
    Keeps session state.sessions sessions → KeepsRest session state (taken state caller clock occurrences body answer sessions).state
taken_stays session caller state clock occurrences body (Ok x) sessions p = nothing_stays session state sessions p
taken_stays session caller state clock occurrences body (Err code) sessions p = nothing_stays session state sessions p

create_session_stays : (session : ℕ) (setting : Setting) (caller : Caller) (token : NodeId) (state : Services) (request : CreateSessionRequest) → KeepsRest session state (create_session_meaning setting caller token request state).state
create_session_stays session setting caller token state request =
    let s = create_of state.sessions caller.origin.conn caller.key in
    taken_stays session caller state setting.clock (spent_by state.sessions) (create_session_body setting caller) s.answer s.state (create_stays session state.sessions caller.origin.conn caller.key)

activate_session_stays : (session : ℕ) (setting : Setting) (caller : Caller) (token : NodeId) (state : Services) (request : ActivateSessionRequest) → NamesIn session state token →
    KeepsRest session state (activate_session_meaning setting caller token request state).state
activate_session_stays session setting caller token state request only =
    let is_free = is_anonymous request.user_identity_token in
    let s = activate_of state.sessions token caller.origin.conn caller.key is_free in
    taken_stays session caller state setting.clock (spent_by state.sessions) (activate_session_body setting caller) s.answer s.state
    (activate_leaves session state.sessions token caller.origin.conn caller.key is_free only).stay

closed_stays : (session : ℕ) (setting : Setting) (caller : Caller) (deleting : Bool) (state : Services) (from : CameBy state.subscriptions state.items) (answer : Result ℕ Status) (sessions : SessionsState) →
    sessions.made ≡ state.sessions.made → Keeps session state.sessions sessions → IfOk answer (λ number. number ≡ session) → KeepsRest session state (closed_by setting caller deleting state answer sessions).state
closed_stays session setting caller deleting state from (Ok number) sessions made p is =
    let open_state = with_sessions state sessions in
    later_stays session state sessions (session_over setting deleting number open_state).state made p
    (told_stays session open_state from (session_ended number deleting (stage_at setting open_state)) (Move.EndSession setting.clock number deleting) (λ so_far replies. refl) is)
closed_stays session setting caller deleting state from (Err code) sessions made p is = nothing_stays session state sessions p

close_session_stays : (session : ℕ) (setting : Setting) (caller : Caller) (token : NodeId) (state : Services) (from : CameBy state.subscriptions state.items) (request : CloseSessionRequest) → NamesIn session state token →
    KeepsRest session state (close_session_meaning setting caller token request state).state
close_session_stays session setting caller token state from request only =
    let s = close_of state.sessions token caller.origin.conn in
    let h = close_leaves session state.sessions token caller.origin.conn only in
    closed_stays session setting caller request.delete_subscriptions state from s.answer s.state h.made h.stay h.answer

-- ---- every service of a session

if_found_stays : (session : ℕ) (serve : ℕ → Services → Serving) (setting : Setting) (caller : Caller) (state : Services) (answer : Result ℕ Status) (sessions : SessionsState) →
    sessions.made ≡ state.sessions.made → Keeps session state.sessions sessions → IfOk answer (λ number. number ≡ session) →
    KeepsRest session (with_sessions state sessions) (serve session (with_sessions state sessions)).state → KeepsRest session state (if_found serve setting caller state answer sessions).state
if_found_stays session serve setting caller state (Ok number) sessions made p is q =
    subst (λ (n : ℕ). KeepsRest session state (serve n (with_sessions state sessions)).state) (sym is) (later_stays session state sessions (serve session (with_sessions state sessions)).state made p q)
if_found_stays session serve setting caller state (Err code) sessions made p is q = nothing_stays session state sessions p

by_session : {A : Type 0} (session : ℕ) (meaning : Setting → Caller → ℕ → A → Services → Serving) (setting : Setting) (caller : Caller) (token : NodeId) (state : Services) (from : CameBy state.subscriptions state.items) → NamesIn session state token →
    ((request : A) (after : Services) → CameBy after.subscriptions after.items → KeepsRest session after (meaning setting caller session request after).state) → (r : Result A TakeFault) → Apart session state (served_in_session meaning setting caller token state r)
by_session session meaning setting caller token state from only f (Ok request) =
    let s = find_of state.sessions token caller.origin.conn in
    let h = find_leaves session state.sessions token caller.origin.conn only in
    record { stays = if_found_stays session (λ number. meaning setting caller number request) setting caller state s.answer s.state h.made h.stay h.answer (f request (with_sessions state s.state) from) }
by_session session meaning setting caller token state from only f (Err fault) = record { stays = none_stays session state }

-- ---- nodes

read_listed_stays : (session : ℕ) (setting : Setting) (caller : Caller) (state : Services) (timestamps : Timestamps) (r : Result (List ReadValueId) Status) → KeepsRest session state (read_listed setting caller state timestamps r).state
read_listed_stays session setting caller state timestamps (Ok nodes) = none_stays session state
read_listed_stays session setting caller state timestamps (Err code) = none_stays session state

read_timed_stays : (session : ℕ) (setting : Setting) (caller : Caller) (state : Services) (nodes : Option (List ReadValueId)) (choice : Option Timestamps) → KeepsRest session state (read_timed setting caller state nodes choice).state
read_timed_stays session setting caller state nodes None = none_stays session state
read_timed_stays session setting caller state nodes (Some timestamps) = read_listed_stays session setting caller state timestamps (operations_of setting.config nodes)

read_stays : (session : ℕ) (setting : Setting) (caller : Caller) (request : ReadRequest) (state : Services) → KeepsRest session state (read_meaning setting caller session request state).state
read_stays session setting caller request state = read_timed_stays session setting caller state request.nodes_to_read (timestamps_of request.timestamps_to_return)

paged_stays : {R : Type 0} (session : ℕ) (encoding : R → List ℕ) (setting : Setting) (caller : Caller) (type_id : ℕ) (state : Services) (all : AllDone R) → KeepsRest session state (paged encoding setting caller session type_id state all).state
paged_stays session encoding setting caller type_id state all = nothing_stays session state (with_points state.sessions session all.points) (points_stay session state.sessions all.points)

browse_listed_stays : (session : ℕ) (setting : Setting) (caller : Caller) (requested : ℕ) (state : Services) (r : Result (List BrowseDescription) Status) → KeepsRest session state (browse_listed setting caller session requested state r).state
browse_listed_stays session setting caller requested state (Ok descriptions) =
    paged_stays session browse_result_encoding setting caller BROWSE_RESPONSE state
    (all_done (λ points d. browse_told (browse_of state.space points (page_size setting.config.references requested) d)) (points_of state.sessions session) descriptions)
browse_listed_stays session setting caller requested state (Err code) = none_stays session state

browse_stays : (session : ℕ) (setting : Setting) (caller : Caller) (request : BrowseRequest) (state : Services) → KeepsRest session state (browse_meaning setting caller session request state).state
browse_stays session setting caller request state =
    let listed : Apart session state (browse_listed setting caller session request.requested_max_references_per_node state (operations_of setting.config request.nodes_to_browse)) =
    record { stays = browse_listed_stays session setting caller request.requested_max_references_per_node state (operations_of setting.config request.nodes_to_browse) } in
    let one : Apart session state (browse_meaning setting caller session request state) = either session state (not (is_null_id request.view_id)) _ _ (record { stays = none_stays session state }) listed in
    one.stays

browse_next_listed_stays : (session : ℕ) (setting : Setting) (caller : Caller) (is_release : Bool) (state : Services) (r : Result (List (Option (List ℕ))) Status) → KeepsRest session state (browse_next_listed setting caller session is_release state r).state
browse_next_listed_stays session setting caller is_release state (Ok named) =
    paged_stays session browse_result_encoding setting caller BROWSE_NEXT_RESPONSE state
    (all_done (λ points bytes. browse_told (go_on_of state.space is_release points bytes)) (points_of state.sessions session) named)
browse_next_listed_stays session setting caller is_release state (Err code) = none_stays session state

browse_next_stays : (session : ℕ) (setting : Setting) (caller : Caller) (request : BrowseNextRequest) (state : Services) → KeepsRest session state (browse_next_meaning setting caller session request state).state
browse_next_stays session setting caller request state =
    browse_next_listed_stays session setting caller request.release_continuation_points state (operations_of setting.config request.continuation_points)

history_ranged_stays : (session : ℕ) (setting : Setting) (caller : Caller) (request : HistoryReadRequest) (state : Services) (times : Timestamps) (nodes : List HistoryReadValueId) (r : Result RawRange Status) →
    KeepsRest session state (history_ranged setting caller session request state times nodes r).state
history_ranged_stays session setting caller request state times nodes (Ok range) =
    let wanted : Wanted = record { timestamps = times; is_release = request.release_continuation_points; range = range } in
    paged_stays session history_read_result_encoding setting caller HISTORY_READ_RESPONSE state
    (all_done (λ points asked. node_read state.history state.space.nodes wanted points asked) (points_of state.sessions session) nodes)
history_ranged_stays session setting caller request state times nodes (Err code) = none_stays session state

history_listed_stays : (session : ℕ) (setting : Setting) (caller : Caller) (request : HistoryReadRequest) (state : Services) (times : Timestamps) (r : Result (List HistoryReadValueId) Status) →
    KeepsRest session state (history_listed setting caller session request state times r).state
history_listed_stays session setting caller request state times (Ok nodes) = history_ranged_stays session setting caller request state times nodes (details_judged setting.config request.history_read_details)
history_listed_stays session setting caller request state times (Err code) = none_stays session state

history_timed_stays : (session : ℕ) (setting : Setting) (caller : Caller) (request : HistoryReadRequest) (state : Services) (choice : Option Timestamps) → KeepsRest session state (history_timed setting caller session request state choice).state
history_timed_stays session setting caller request state None = none_stays session state
history_timed_stays session setting caller request state (Some times) = history_listed_stays session setting caller request state times (operations_of setting.config request.nodes_to_read)

history_read_stays : (session : ℕ) (setting : Setting) (caller : Caller) (request : HistoryReadRequest) (state : Services) → KeepsRest session state (history_read_meaning setting caller session request state).state
history_read_stays session setting caller request state = history_timed_stays session setting caller request state (some_times (timestamps_of request.timestamps_to_return))

-- ---- subscriptions

create_subscription_stays : (session : ℕ) (setting : Setting) (caller : Caller) (request : CreateSubscriptionRequest) (state : Services) → CameBy state.subscriptions state.items → KeepsRest session state (create_subscription_meaning setting caller session request state).state
create_subscription_stays session setting caller request state from =
    one_stays session state from (λ answer. reply_of caller (create_subscription_body setting caller answer) ∷ []) (created session (settings_asked request) request.publishing_enabled state.subscriptions state.items setting.clock)
    (Move.Create setting.clock session (settings_asked request) request.publishing_enabled) (λ so_far replies. refl) refl

modify_subscription_stays : (session : ℕ) (setting : Setting) (caller : Caller) (request : ModifySubscriptionRequest) (state : Services) → CameBy state.subscriptions state.items → KeepsRest session state (modify_subscription_meaning setting caller session request state).state
modify_subscription_stays session setting caller request state from =
    one_stays session state from (λ answer. reply_of caller (modify_subscription_body setting caller answer) ∷ []) (said state.subscriptions (modified session request.subscription_id (settings_wanted request) (stage_at setting state)))
    (Move.Modify setting.clock session request.subscription_id (settings_wanted request)) (λ so_far replies. refl) refl

publishing_listed_stays : (session : ℕ) (setting : Setting) (caller : Caller) (enabled : Bool) (state : Services) (from : CameBy state.subscriptions state.items) (r : Result (List ℕ) Status) → KeepsRest session state (set_publishing_listed setting caller session enabled state r).state
publishing_listed_stays session setting caller enabled state from (Ok numbers) =
    one_stays session state from (λ statuses. reply_of caller (statuses_body SET_PUBLISHING_MODE_RESPONSE setting caller statuses) ∷ []) (said state.subscriptions (named_all session (sub_call.SetMode enabled) (stage_at setting state) numbers))
    (Move.SetMode setting.clock session numbers enabled) (λ so_far replies. refl) refl
publishing_listed_stays session setting caller enabled state from (Err code) = none_stays session state

set_publishing_mode_stays : (session : ℕ) (setting : Setting) (caller : Caller) (request : SetPublishingModeRequest) (state : Services) → CameBy state.subscriptions state.items → KeepsRest session state (set_publishing_mode_meaning setting caller session request state).state
set_publishing_mode_stays session setting caller request state from = publishing_listed_stays session setting caller request.publishing_enabled state from (operations_of setting.config request.subscription_ids)

subscriptions_deleted_stay : (session : ℕ) (setting : Setting) (caller : Caller) (state : Services) (from : CameBy state.subscriptions state.items) (r : Result (List ℕ) Status) → KeepsRest session state (delete_subscriptions_listed setting caller session state r).state
subscriptions_deleted_stay session setting caller state from (Ok numbers) =
    one_stays session state from (λ statuses. reply_of caller (statuses_body DELETE_SUBSCRIPTIONS_RESPONSE setting caller statuses) ∷ []) (said state.subscriptions (deleted session (stage_at setting state) numbers))
    (Move.Delete setting.clock session numbers) (λ so_far replies. refl) refl
subscriptions_deleted_stay session setting caller state from (Err code) = none_stays session state

delete_subscriptions_stays : (session : ℕ) (setting : Setting) (caller : Caller) (request : DeleteSubscriptionsRequest) (state : Services) → CameBy state.subscriptions state.items → KeepsRest session state (delete_subscriptions_meaning setting caller session request state).state
delete_subscriptions_stays session setting caller request state from = subscriptions_deleted_stay session setting caller state from (operations_of setting.config request.subscription_ids)

publish_stays : (session : ℕ) (setting : Setting) (caller : Caller) (request : PublishRequest) (state : Services) → CameBy state.subscriptions state.items → KeepsRest session state (publish_meaning setting caller session request state).state
publish_stays session setting caller request state from =
    let acks = or_none request.subscription_acknowledgements in
    let w = published session (publish_call caller) acks (stage_at setting state) in
    let told_so : Apart session state (called_alone state w) = record { stays = told_stays session state from w (Move.Publish setting.clock session (publish_call caller) acks) (λ so_far replies. refl) refl } in
    let one : Apart session state (publish_meaning setting caller session request state) = either session state (nat_lt setting.config.operations (length acks)) _ _ (record { stays = none_stays session state }) told_so in
    one.stays

republish_stays : (session : ℕ) (setting : Setting) (caller : Caller) (request : RepublishRequest) (state : Services) → CameBy state.subscriptions state.items → KeepsRest session state (republish_meaning setting caller session request state).state
republish_stays session setting caller request state from =
    one_stays session state from (λ answer. reply_of caller (republish_answer setting caller answer) ∷ []) (said state.subscriptions (republished session request.subscription_id request.retransmit_sequence_number (stage_at setting state)))
    (Move.Republish setting.clock session request.subscription_id request.retransmit_sequence_number) (λ so_far replies. refl) refl

-- ---- monitored items

module _ (session : ℕ) (setting : Setting) (caller : Caller) (number : ℕ) (state : Services) (from : CameBy state.subscriptions state.items) (items_done : Itemed) (asked : Option ItemsCall) (asks : Asks number state.items items_done.items asked) where
  found_stays : (found : Option Vars) → vars_found number state.items state.subscriptions.table ≡ found → is_own state.subscriptions.table session number ≡ true → KeepsRest session state (items_called_by setting caller number state items_done found).state
  found_stays None e own = none_stays session state
  found_stays (Some before) e own =
      one_stays session state from (λ (x : Unit {0}). reply_of caller items_done.body ∷ []) (row_after setting number state items_done.items before) (Move.Items setting.clock number asked)
      (asked_ran setting number state items_done.items asked asks before e) own

  own_stays : (own : Bool) → is_own state.subscriptions.table session number ≡ own → KeepsRest session state (items_called_by setting caller number state items_done (cond own (vars_found number state.items state.subscriptions.table) None)).state
  own_stays true e = found_stays (vars_found number state.items state.subscriptions.table) refl e
  own_stays false e = none_stays session state

  items_stay : KeepsRest session state (items_called_by setting caller number state items_done (own_vars session number state)).state
  items_stay = own_stays (is_own state.subscriptions.table session number) refl

-- ---- all services but Write

module _ (session : ℕ) (setting : Setting) (caller : Caller) (token : NodeId) (fields : List ℕ) (state : Services) (from : CameBy state.subscriptions state.items) (only : NamesIn session state token) where
  -- where the service isn't Write
  abbrev Stays : Option Service → Type 0
  Stays service = Apart session state (served_as setting caller token fields state service)

  picked_stays : (service : Option Service) → is_write_service service ≡ false → Stays service
  picked_stays (Some Service.GetEndpoints) other = by_fields session get_endpoints_meaning setting caller token state (λ request. none_stays session state) (fields_of get_endpoints_request_reading fields)
  picked_stays (Some Service.CreateSession) other = by_fields session create_session_meaning setting caller token state (create_session_stays session setting caller token state) (fields_of create_session_request_reading fields)
  picked_stays (Some Service.ActivateSession) other = by_fields session activate_session_meaning setting caller token state (λ request. activate_session_stays session setting caller token state request only) (fields_of activate_session_request_reading fields)
  picked_stays (Some Service.CloseSession) other = by_fields session close_session_meaning setting caller token state (λ request. close_session_stays session setting caller token state from request only) (fields_of close_session_request_reading fields)
  picked_stays (Some Service.Read) other = by_session session read_meaning setting caller token state from only (λ request after came. read_stays session setting caller request after) (fields_of read_request_reading fields)
  picked_stays (Some Service.Write) other = absurd (cc)
  picked_stays (Some Service.Browse) other = by_session session browse_meaning setting caller token state from only (λ request after came. browse_stays session setting caller request after) (fields_of browse_request_reading fields)
  picked_stays (Some Service.BrowseNext) other = by_session session browse_next_meaning setting caller token state from only (λ request after came. browse_next_stays session setting caller request after) (fields_of browse_next_request_reading fields)
  picked_stays (Some Service.HistoryRead) other = by_session session history_read_meaning setting caller token state from only (λ request after came. history_read_stays session setting caller request after) (fields_of history_read_request_reading fields)
  picked_stays (Some Service.CreateMonitoredItems) other = by_session session create_monitored_items_meaning setting caller token state from only (λ request after came. items_stay session setting caller request.subscription_id after came (items_created setting caller request after) (create_asked setting request after) (created_asks setting caller request after)) (fields_of create_monitored_items_request_reading fields)
  picked_stays (Some Service.ModifyMonitoredItems) other = by_session session modify_monitored_items_meaning setting caller token state from only (λ request after came. items_stay session setting caller request.subscription_id after came (items_modified setting caller request after) (modify_asked setting request after) (modified_asks setting caller request after)) (fields_of modify_monitored_items_request_reading fields)
  picked_stays (Some Service.SetMonitoringMode) other = by_session session set_monitoring_mode_meaning setting caller token state from only (λ request after came. items_stay session setting caller request.subscription_id after came (items_moded setting caller request after) (mode_asked setting request after) (moded_asks setting caller request after)) (fields_of set_monitoring_mode_request_reading fields)
  picked_stays (Some Service.SetTriggering) other = by_session session set_triggering_meaning setting caller token state from only (λ request after came. items_stay session setting caller request.subscription_id after came (items_linked setting caller request after) (link_asked setting request after) (linked_asks setting caller request after)) (fields_of set_triggering_request_reading fields)
  picked_stays (Some Service.DeleteMonitoredItems) other = by_session session delete_monitored_items_meaning setting caller token state from only (λ request after came. items_stay session setting caller request.subscription_id after came (items_deleted setting caller request after) (delete_asked setting request after) (deleted_asks setting caller request after)) (fields_of delete_monitored_items_request_reading fields)
  picked_stays (Some Service.CreateSubscription) other = by_session session create_subscription_meaning setting caller token state from only (create_subscription_stays session setting caller) (fields_of create_subscription_request_reading fields)
  picked_stays (Some Service.ModifySubscription) other = by_session session modify_subscription_meaning setting caller token state from only (modify_subscription_stays session setting caller) (fields_of modify_subscription_request_reading fields)
  picked_stays (Some Service.SetPublishingMode) other = by_session session set_publishing_mode_meaning setting caller token state from only (set_publishing_mode_stays session setting caller) (fields_of set_publishing_mode_request_reading fields)
  picked_stays (Some Service.DeleteSubscriptions) other = by_session session delete_subscriptions_meaning setting caller token state from only (delete_subscriptions_stays session setting caller) (fields_of delete_subscriptions_request_reading fields)
  picked_stays (Some Service.Publish) other = by_session session publish_meaning setting caller token state from only (publish_stays session setting caller) (fields_of publish_request_reading fields)
  picked_stays (Some Service.Republish) other = by_session session republish_meaning setting caller token state from only (republish_stays session setting caller) (fields_of republish_request_reading fields)
  picked_stays None other = record { stays = none_stays session state }

-- ---- Write

write_shown : (session : ℕ) (setting : Setting) (caller : Caller) (state : Services) (sessions : SessionsState) → Keeps session state.sessions sessions → (r : Result (List WriteValue) Status) →
    KeepsShown session (accepted_listed setting state r) state (write_listed setting caller (with_sessions state sessions) r).state
write_shown session setting caller state sessions p (Ok values) = record { sessions = p; subscriptions = refl; items = refl }
write_shown session setting caller state sessions p (Err code) = none_shown session state sessions p

write_found : (session : ℕ) (setting : Setting) (caller : Caller) (state : Services) (write : WriteRequest) (answer : Result ℕ Status) (sessions : SessionsState) → Keeps session state.sessions sessions →
    KeepsShown session (accepted_found setting state write answer) state (if_found (λ number. write_meaning setting caller number write) setting caller state answer sessions).state
write_found session setting caller state write (Ok number) sessions p = write_shown session setting caller state sessions p (operations_of setting.config write.nodes_to_write)
write_found session setting caller state write (Err code) sessions p = none_shown session state sessions p

-- ---- all services

module _ (setting : Setting) (request : Request) (state : Services) (from : CameBy state.subscriptions state.items) where
  abbrev Only : ℕ → Result Headed TakeFault → Type 0
  Only session headed = IfOk headed (λ (h : Headed). NamesIn session state h.header.authentication_token)

  others_by : (session : ℕ) (id : Result ℕ TakeFault) (headed : Result Headed TakeFault) → Only session headed → is_write_id id ≡ false →
      KeepsRest session state (serving_by setting request state id headed).state
  others_by session (Ok id) (Ok headed) only other =
      (picked_stays session setting (call_of request headed.header.request_handle) headed.header.authentication_token headed.fields state from only (service_of id) other).stays
  others_by session (Ok id) (Err fault) only other = none_stays session state
  others_by session (Err fault) headed only other = none_stays session state

  write_served : (session : ℕ) (header : RequestHeader) → NamesIn session state header.authentication_token → (r : Result WriteRequest TakeFault) →
      KeepsShown session (accepted_read setting request state header r) state
      (served_in_session write_meaning setting (call_of request header.request_handle) header.authentication_token state r).state
  write_served session header only (Ok write) =
      let s = find_of state.sessions header.authentication_token request.conn in
      write_found session setting (call_of request header.request_handle) state write s.answer s.state (find_leaves session state.sessions header.authentication_token request.conn only).stay
  write_served session header only (Err fault) = not_shown session state

  picked_written : (session : ℕ) (headed : Headed) → NamesIn session state headed.header.authentication_token → (service : Option Service) → is_write_service service ≡ true →
      KeepsShown session (accepted_by setting request state (Ok headed)) state
      (served_as setting (call_of request headed.header.request_handle) headed.header.authentication_token headed.fields state service).state
  picked_written session headed only (Some Service.Write) is = write_served session headed.header only (fields_of write_request_reading headed.fields)
  picked_written session headed only service is = absurd (cc)

  written_by : (session : ℕ) (id : Result ℕ TakeFault) (headed : Result Headed TakeFault) → Only session headed → is_write_id id ≡ true →
      KeepsShown session (accepted_by setting request state headed) state (serving_by setting request state id headed).state
  written_by session (Ok id) (Ok headed) only is = picked_written session headed only (service_of id) is
  written_by session (Ok id) (Err fault) only is = not_shown session state
  written_by session (Err fault) headed only is = absurd (false≢true is)

  others : (session : ℕ) → NamesOnly session state request → is_write request ≡ false → KeepsRest session state (serving_of setting request state).state
  unfolding serving_of
  others session only other = others_by session (message_id_of request.body) (headed_of request.body) only other

  written : (session : ℕ) → NamesOnly session state request → is_write request ≡ true → KeepsShown session (accepted setting request state) state (serving_of setting request state).state
  unfolding serving_of
  written session only is = written_by session (message_id_of request.body) (headed_of request.body) only is

  pub keeps_apart : IsFresh state.sessions → KeepsApart setting request state
  keeps_apart fresh = record {
    others = λ session only other.
        let k = others session only other in
        record { sessions = sessions_stay session state.sessions (serving_of setting request state).state.sessions fresh k.sessions; rest = k.rest };
    written = λ session only is.
        let k = written session only is in
        record { sessions = sessions_stay session state.sessions (serving_of setting request state).state.sessions fresh k.sessions; subscriptions = k.subscriptions; items = k.items };
  }

  -- numbers of sessions are given one after the other
  session_kept : (session : ℕ) → NamesOnly session state request → Keeps session state.sessions (serving_of setting request state).state.sessions
  session_kept session only = by (is_write request) refl
    where
      by : (b : Bool) → is_write request ≡ b → Keeps session state.sessions (serving_of setting request state).state.sessions
      by true is = (written session only is).sessions
      by false is = (others session only is).sessions

  fresh_by : IsFresh state.sessions → (headed : Result Headed TakeFault) → ((session : ℕ) → Only session headed → Keeps session state.sessions (serving_of setting request state).state.sessions) → IsFresh (serving_of setting request state).state.sessions
  fresh_by fresh (Err fault) keeps = fresh_after 0 state.sessions (serving_of setting request state).state.sessions (omega arith) fresh (keeps 0 tt)
  fresh_by fresh (Ok headed) keeps = by (named state.sessions headed.header.authentication_token) refl (λ session only. keeps session only)
    where
      by : (o : Option Named) → named state.sessions headed.header.authentication_token ≡ o → ((session : ℕ) → IfSome o (λ (n : Named). n.number ≡ session) → Keeps session state.sessions (serving_of setting request state).state.sessions) →
          IsFresh (serving_of setting request state).state.sessions
      by None e k = fresh_after 0 state.sessions (serving_of setting request state).state.sessions (omega arith) fresh (k 0 tt)
      by (Some n) e k = fresh_after n.number state.sessions (serving_of setting request state).state.sessions (named_given state.sessions headed.header.authentication_token n fresh e) fresh (k n.number refl)

  pub stays_fresh : IsFresh state.sessions → IsFresh (serving_of setting request state).state.sessions
  stays_fresh fresh = fresh_by fresh (headed_of request.body) session_kept

-- a tick ends sessions, and makes none
timed_out_sessions : (setting : Setting) (numbers : List ℕ) (s : Serving) → (fold (timed_out setting) s numbers).state.sessions ≡ s.state.sessions
unfolding timed_out called_alone
timed_out_sessions setting [] s = refl
timed_out_sessions setting (number ∷ numbers) s = timed_out_sessions setting numbers (timed_out setting s number)

pub tick_fresh : (setting : Setting) (state : Services) → IsFresh state.sessions → IsFresh (ticking_of setting state).state.sessions
unfolding called_alone
tick_fresh setting state fresh =
    let after = with_sessions state (ticked state.sessions setting.clock) in
    subst IsFresh (sym (timed_out_sessions setting (ended_by state.sessions setting.clock) (nothing_done after))) (ticked_fresh state.sessions setting.clock fresh)

-- nor does the server's end make any
pub end_fresh : (setting : Setting) (state : Services) → IsFresh (shutting_of setting state).state.sessions
unfolding shutting_of called_alone
end_fresh setting state = λ number above. get-empty nat_cmp number
