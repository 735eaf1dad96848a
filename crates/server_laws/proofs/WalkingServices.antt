-- What holds of all that is served, by what it does: a relation between the services before, the calls of the subscriptions and their items that a request,
-- a tick or the server's end comes to, and what is served.
use Rattle.std.proofs.Common.{◌≡◌, ℕ, Bool, true, false, not, cond, List, [], ◌∷◌, ◌++◌, map, fold, Option, Some, None, Result, Ok, Err, refl, sym, ap, subst, ◌∙◌, append-nil, append_assoc}
use Rattle.ua_types.specs.declared.node_id.NodeId.{NodeId}
use Rattle.ua_types.specs.NodeIds.{is_null_id}
use Rattle.ua_types.specs.declared.status.Status.{Status}
use Rattle.ua_binary.specs.declared.fault.TakeFault.{TakeFault}
use Rattle.ua_messages.specs.Bodies.{message_id_of}
use Rattle.ua_messages.specs.GetEndpoints.{get_endpoints_request_reading}
use Rattle.ua_messages.specs.Requests.{Headed, headed_of, fields_of}
use Rattle.ua_messages.specs.declared.read_value_ids.ReadValueId.{ReadValueId}
use Rattle.ua_messages.specs.declared.type_ids.TheConstants.{SET_PUBLISHING_MODE_RESPONSE, DELETE_SUBSCRIPTIONS_RESPONSE}
use Rattle.server_messages.specs.declared.fired.Fired.{Fired}
use Rattle.server_messages.specs.declared.reply.Reply.{Reply}
use Rattle.server_messages.specs.declared.request.Request.{Request}
use Rattle.server_messages.specs.declared.setting.Setting.{Setting}
use Rattle.ua_service_messages.specs.Browsing.{browse_request_reading, browse_next_request_reading}
use Rattle.ua_service_messages.specs.History.{history_read_request_reading}
use Rattle.ua_service_messages.specs.Reading.{read_request_reading}
use Rattle.ua_service_messages.specs.Sessions.{create_session_request_reading, activate_session_request_reading, close_session_request_reading}
use Rattle.ua_service_messages.specs.Writing.{write_request_reading}
use Rattle.ua_service_messages.specs.declared.browsing.BrowseDescription.{BrowseDescription}
use Rattle.ua_service_messages.specs.declared.browsing.BrowseRequest.{BrowseRequest}
use Rattle.ua_service_messages.specs.declared.history.HistoryReadRequest.{HistoryReadRequest}
use Rattle.ua_service_messages.specs.declared.history.HistoryReadValueId.{HistoryReadValueId}
use Rattle.ua_service_messages.specs.declared.writing.WriteValue.{WriteValue}
use Rattle.ua_subscription_messages.specs.Triggering.{set_triggering_request_reading}
use Rattle.ua_subscription_messages.specs.MonitoredItems.{create_monitored_items_request_reading, modify_monitored_items_request_reading, set_monitoring_mode_request_reading, delete_monitored_items_request_reading}
use Rattle.ua_subscription_messages.specs.Publishing.{publish_request_reading, republish_request_reading}
use Rattle.ua_subscription_messages.specs.Subscriptions.{create_subscription_request_reading, modify_subscription_request_reading, set_publishing_mode_request_reading, delete_subscriptions_request_reading}
use Rattle.ua_subscription_messages.specs.declared.monitored_items.CreateMonitoredItemsRequest.{CreateMonitoredItemsRequest}
use Rattle.ua_subscription_messages.specs.declared.monitored_items.DeleteMonitoredItemsRequest.{DeleteMonitoredItemsRequest}
use Rattle.ua_subscription_messages.specs.declared.monitored_items.ModifyMonitoredItemsRequest.{ModifyMonitoredItemsRequest}
use Rattle.ua_subscription_messages.specs.declared.monitored_items.MonitoredItemCreateRequest.{MonitoredItemCreateRequest}
use Rattle.ua_subscription_messages.specs.declared.monitored_items.MonitoredItemModifyRequest.{MonitoredItemModifyRequest}
use Rattle.ua_subscription_messages.specs.declared.monitored_items.SetMonitoringModeRequest.{SetMonitoringModeRequest}
use Rattle.ua_subscription_messages.specs.declared.triggering.SetTriggeringRequest.{SetTriggeringRequest}
use Rattle.ua_subscription_messages.specs.declared.publishing.PublishRequest.{PublishRequest}
use Rattle.ua_state_table.specs.declared.vars.Vars.{Vars}
use Rattle.ua_read_write.specs.Timestamps.{timestamps_of}
use Rattle.ua_read_write.specs.Writing.{write_of}
use Rattle.ua_read_write.specs.declared.timestamps.Timestamps.{Timestamps}
use Rattle.ua_history.specs.declared.reading.RawRange.{RawRange}
use Rattle.ua_monitored_items.specs.Items.{ItemsState}
use Rattle.ua_monitored_items.specs.Links.{Linkage, link, after_link}
use Rattle.ua_monitored_items.specs.Kinds.{mode_numbered}
use Rattle.ua_monitored_items.specs.declared.kinds.Mode.{Mode}
use Rattle.ua_subscriptions.specs.Ending.{session_ended, shut_down}
use Rattle.ua_subscriptions.specs.Making.{modified, republished, timed}
use Rattle.ua_subscriptions.specs.Named.{is_own, named_all, deleted}
use Rattle.ua_subscriptions.specs.Publishing.{published}
use Rattle.subscription_laws.specs.Runs.{ItemsCall, items_asked, Move, ran_by, items_ran, moved}
use Rattle.ua_subscriptions.specs.SubscriptionCalls.{Said, said, without_answer, stage_of, created}
use Rattle.ua_subscriptions.specs.Tables.{Stage, met, vars_found}
use Rattle.ua_subscriptions.specs.declared.call.Call.TheVariants as sub_call
use Rattle.ua_browse.specs.Browsing.{page_size, browse_of}
use Rattle.ua_session.specs.Sessions.{SessionsState, is_spent, points_of, with_points, create_of, activate_of, find_of, close_of, ticked, ended_by, all_ended}
use Rattle.ua_services.specs.ActivateSession.{is_anonymous, activate_session_body, activate_session_meaning}
use Rattle.ua_services.specs.Browse.{browse_listed, browse_meaning}
use Rattle.ua_services.specs.BrowseNext.{go_on_of, browse_next_listed, browse_next_meaning}
use Rattle.ua_services.specs.BrowseResults.{browse_told}
use Rattle.ua_services.specs.CloseSession.{close_session_body, closed_by, close_session_meaning}
use Rattle.ua_services.specs.CreateMonitoredItems.{create_listed, create_timed, items_created}
use Rattle.ua_services.specs.CreateSession.{create_session_body, create_session_meaning}
use Rattle.ua_services.specs.CreateSubscription.{settings_asked, create_subscription_body, create_subscription_meaning}
use Rattle.ua_services.specs.DeleteMonitoredItems.{deleted_listed, items_deleted}
use Rattle.ua_services.specs.DeleteSubscriptions.{delete_subscriptions_listed, delete_subscriptions_meaning}
use Rattle.ua_services.specs.GetEndpoints.{get_endpoints_meaning}
use Rattle.ua_services.specs.HistoryRead.{some_times, details_judged, node_read, history_ranged, history_listed, history_timed, history_read_meaning}
use Rattle.ua_services.specs.InSession.{if_found, served_in_session}
use Rattle.ua_services.specs.ItemServing.{Itemed, own_vars, items_called_by, items_called}
use Rattle.ua_services.specs.ModifyMonitoredItems.{modify_listed, modify_timed, items_modified}
use Rattle.ua_services.specs.ModifySubscription.{settings_wanted, modify_subscription_body, modify_subscription_meaning}
use Rattle.server_laws.specs.Moving.{ran_at}
use Rattle.server_laws.specs.EventMoves as of_events
use Rattle.server_laws.specs.EventMoves.{if_read, in_session, if_listed, close_moves, close_session_moves, write_moves, create_subscription_moves, modify_subscription_moves, set_publishing_mode_moves, delete_subscriptions_moves, publish_moves, republish_moves, create_listed_asked, create_timed_asked, create_asked, modify_listed_asked, modify_timed_asked, modify_asked, mode_asked_by, mode_listed_asked, mode_asked, link_counted_asked, link_asked, delete_listed_asked, delete_asked, items_moves_by, items_moves, moves_as, serving_moves_by, serving_moves, end_move, ticking_moves, shutting_moves}
use Rattle.ua_services.specs.Operations.{count_judged, operations_of}
use Rattle.ua_services.specs.Paging.{all_done}
use Rattle.ua_views.specs.Views.{or_none}
use Rattle.ua_services.specs.Publish.{publish_call, publish_meaning}
use Rattle.ua_services.specs.Read.{read_listed, read_timed, read_meaning}
use Rattle.ua_services.specs.Republish.{republish_answer, republish_meaning}
use Rattle.ua_services.specs.Services.{call_of, Service, service_of, served_as, serving_by, serving_of, ticking_of, shutting_of}
use Rattle.ua_services.specs.declared.services.Services.{Services}
use Rattle.ua_services.specs.Serving.{Serving, reply_of, answered_at_once, served_by}
use Rattle.ua_services.specs.SessionServing.{taken, with_sessions}
use Rattle.ua_services.specs.SetTriggering.{links_asked, linked_by, linked_counted, items_linked}
use Rattle.ua_services.specs.SetMonitoringMode.{moded_all, moded_listed, items_moded}
use Rattle.ua_services.specs.SetPublishingMode.{set_publishing_listed, set_publishing_mode_meaning}
use Rattle.ua_services.specs.StatusResults.{statuses_body}
use Rattle.ua_services.specs.SubServing.{stage_at, called, no_reply, called_alone, nothing_done, and_then, session_over, timed_out, all_timed_out, timers_met}
use Rattle.ua_services.specs.Write.{write_listed, write_meaning}
use Rattle.ua_services.specs.declared.caller.Caller.{Caller}
use Rattle.ua_services.specs.declared.history_read.Wanted.{Wanted}
use Rattle.ua_services.specs.Serving.Occurrence.{Spent}

-- ---- a step of the sessions

-- what a request has the sessions do: one is made, found, activated or closed, or has other continuation points
pub data SessionStep : Type 0 where
  Create : (conn : ℕ) → (key : List ℕ) → SessionStep
  Find : NodeId → (conn : ℕ) → SessionStep
  Activate : NodeId → (conn : ℕ) → (key : List ℕ) → (is_anonymous : Bool) → SessionStep
  Close : NodeId → (conn : ℕ) → SessionStep
  Browse : (size session : ℕ) → List BrowseDescription → SessionStep
  GoOn : (is_release : Bool) → (session : ℕ) → List (Option (List ℕ)) → SessionStep
  ReadHistory : Wanted → (session : ℕ) → List HistoryReadValueId → SessionStep

abbrev pub sessions_after : Services → SessionStep → SessionsState
sessions_after state (SessionStep.Create conn key) = (create_of state.sessions conn key).state
sessions_after state (SessionStep.Find token conn) = (find_of state.sessions token conn).state
sessions_after state (SessionStep.Activate token conn key is_unnamed) = (activate_of state.sessions token conn key is_unnamed).state
sessions_after state (SessionStep.Close token conn) = (close_of state.sessions token conn).state
sessions_after state (SessionStep.Browse size session descriptions) =
    with_points state.sessions session (all_done (λ points d. browse_told (browse_of state.space points size d)) (points_of state.sessions session) descriptions).points
sessions_after state (SessionStep.GoOn is_release session named) =
    with_points state.sessions session (all_done (λ points bytes. browse_told (go_on_of state.space is_release points bytes)) (points_of state.sessions session) named).points
sessions_after state (SessionStep.ReadHistory wanted session asked) =
    with_points state.sessions session (all_done (λ points x. node_read state.history state.space.nodes wanted points x) (points_of state.sessions session) asked).points

abbrev pub stepped : Services → SessionStep → Services
stepped state step = with_sessions state (sessions_after state step)

-- ---- what a relation has to have

-- so that it holds of ticks, of the server's end, and of all requests but a Write
pub record FollowsServices (setting : Setting) (R : Services → List Move → Serving → Type 0) : Type 1 where
  -- nothing changes, whatever is replied, and whether the last serial is spent
  pub still : (state : Services) (replies : List Reply) (spends is_refused : Bool) → R state [] (record { state = state; replies = replies; occurrences = cond spends (Spent ∷ []) []; is_refused = is_refused })
  -- the sessions take a step before
  pub steps : (state : Services) (step : SessionStep) (moves : List Move) (s : Serving) → R (stepped state step) moves s → R state moves s
  -- one call of the subscriptions
  pub calls : (A : Type 0) (state : Services) (own : A → List Reply) (s : Said A) (move : Move) →
      ((so_far : List Fired) (replies : List Reply) → moved (ran_at state so_far replies) move ≡ ran_by (ran_at state so_far replies) s) → R state (move ∷ []) (called state own s)
  -- one behind the other
  pub next : (state : Services) (moves later : List Move) (s : Serving) (more : Services → Serving) → R state moves s → R s.state later (more s.state) → R state (moves ++ later) (and_then s more)
  -- no session is left
  pub ends : (state : Services) (moves : List Move) (s : Serving) → R state moves s → R state moves (record s { state = with_sessions s.state (all_ended s.state.sessions) })

-- ---- what is asked of the items of a subscription

-- what is asked of them leaves them so, and a request that is refused asks nothing
pub record Asks (number : ℕ) (before after : ItemsState) (asked : Option ItemsCall) : Type 0 where
  pub same : items_asked before number asked ≡ after

create_listed_asks : (setting : Setting) (caller : Caller) (number : ℕ) (state : Services) (times : Timestamps) (r : Result (List MonitoredItemCreateRequest) Status) → Asks number state.items (create_listed setting caller number state times r).items (create_listed_asked setting state times r)
create_listed_asks setting caller number state times (Ok requests) = record { same = refl }
create_listed_asks setting caller number state times (Err code) = record { same = refl }

create_timed_asks : (setting : Setting) (caller : Caller) (number : ℕ) (state : Services) (requests : Option (List MonitoredItemCreateRequest)) (choice : Option Timestamps) →
    Asks number state.items (create_timed setting caller number state requests choice).items (create_timed_asked setting state requests choice)
create_timed_asks setting caller number state requests None = record { same = refl }
create_timed_asks setting caller number state requests (Some times) = create_listed_asks setting caller number state times (operations_of setting.config requests)

pub created_asks : (setting : Setting) (caller : Caller) (request : CreateMonitoredItemsRequest) (state : Services) → Asks request.subscription_id state.items (items_created setting caller request state).items (create_asked setting request state)
unfolding items_created
created_asks setting caller request state = create_timed_asks setting caller request.subscription_id state request.items_to_create (timestamps_of request.timestamps_to_return)

modify_listed_asks : (setting : Setting) (caller : Caller) (number : ℕ) (state : Services) (times : Timestamps) (r : Result (List MonitoredItemModifyRequest) Status) → Asks number state.items (modify_listed setting caller number state times r).items (modify_listed_asked times r)
modify_listed_asks setting caller number state times (Ok requests) = record { same = refl }
modify_listed_asks setting caller number state times (Err code) = record { same = refl }

modify_timed_asks : (setting : Setting) (caller : Caller) (number : ℕ) (state : Services) (requests : Option (List MonitoredItemModifyRequest)) (choice : Option Timestamps) →
    Asks number state.items (modify_timed setting caller number state requests choice).items (modify_timed_asked setting requests choice)
modify_timed_asks setting caller number state requests None = record { same = refl }
modify_timed_asks setting caller number state requests (Some times) = modify_listed_asks setting caller number state times (operations_of setting.config requests)

pub modified_asks : (setting : Setting) (caller : Caller) (request : ModifyMonitoredItemsRequest) (state : Services) → Asks request.subscription_id state.items (items_modified setting caller request state).items (modify_asked setting request state)
unfolding items_modified
modified_asks setting caller request state = modify_timed_asks setting caller request.subscription_id state request.items_to_modify (timestamps_of request.timestamps_to_return)

moded_all_asks : (setting : Setting) (caller : Caller) (number : ℕ) (state : Services) (numbers : List ℕ) (choice : Option Mode) → Asks number state.items (moded_all setting caller number state numbers choice).items (mode_asked_by setting state numbers choice)
moded_all_asks setting caller number state numbers None = record { same = refl }
moded_all_asks setting caller number state numbers (Some mode) = record { same = refl }

moded_listed_asks : (setting : Setting) (caller : Caller) (number : ℕ) (state : Services) (choice : Option Mode) (r : Result (List ℕ) Status) → Asks number state.items (moded_listed setting caller number state choice r).items (mode_listed_asked setting state choice r)
moded_listed_asks setting caller number state choice (Ok numbers) = moded_all_asks setting caller number state numbers choice
moded_listed_asks setting caller number state choice (Err code) = record { same = refl }

pub moded_asks : (setting : Setting) (caller : Caller) (request : SetMonitoringModeRequest) (state : Services) → Asks request.subscription_id state.items (items_moded setting caller request state).items (mode_asked setting request state)
unfolding items_moded
moded_asks setting caller request state = moded_listed_asks setting caller request.subscription_id state (mode_numbered request.monitoring_mode) (operations_of setting.config request.monitored_item_ids)

linked_same : (setting : Setting) (caller : Caller) (state : Services) (r : Result Linkage Status) → after_link state.items r ≡ (linked_by setting caller state r).items
linked_same setting caller state (Ok done) = refl
linked_same setting caller state (Err code) = refl

link_counted_asks : (setting : Setting) (caller : Caller) (request : SetTriggeringRequest) (state : Services) (r : Result (Unit {0}) Status) → Asks request.subscription_id state.items (linked_counted setting caller request state r).items (link_counted_asked request r)
link_counted_asks setting caller request state (Ok good) =
    record { same = linked_same setting caller state (link state.items request.subscription_id request.triggering_item_id (or_none request.links_to_add) (or_none request.links_to_remove)) }
link_counted_asks setting caller request state (Err code) = record { same = refl }

pub linked_asks : (setting : Setting) (caller : Caller) (request : SetTriggeringRequest) (state : Services) → Asks request.subscription_id state.items (items_linked setting caller request state).items (link_asked setting request state)
unfolding items_linked
linked_asks setting caller request state = link_counted_asks setting caller request state (count_judged setting.config (links_asked request))

deleted_listed_asks : (setting : Setting) (caller : Caller) (number : ℕ) (state : Services) (r : Result (List ℕ) Status) → Asks number state.items (deleted_listed setting caller number state r).items (delete_listed_asked r)
deleted_listed_asks setting caller number state (Ok numbers) = record { same = refl }
deleted_listed_asks setting caller number state (Err code) = record { same = refl }

pub deleted_asks : (setting : Setting) (caller : Caller) (request : DeleteMonitoredItemsRequest) (state : Services) → Asks request.subscription_id state.items (items_deleted setting caller request state).items (delete_asked setting request state)
unfolding items_deleted
deleted_asks setting caller request state = deleted_listed_asks setting caller request.subscription_id state (operations_of setting.config request.monitored_item_ids)

-- its subscription fires a row then
abbrev pub row_after : Setting → ℕ → Services → ItemsState → Vars → Said (Unit {0})
row_after setting number state items before = without_answer state.subscriptions (met (stage_of state.subscriptions items setting.clock) number (sub_call.Items before))

pub asked_ran : (setting : Setting) (number : ℕ) (state : Services) (items : ItemsState) (asked : Option ItemsCall) → Asks number state.items items asked → (before : Vars) → vars_found number state.items state.subscriptions.table ≡ Some before →
    (so_far : List Fired) (replies : List Reply) → moved (ran_at state so_far replies) (Move.Items setting.clock number asked) ≡ ran_by (ran_at state so_far replies) (row_after setting number state items before)
asked_ran setting number state items asked asks before e so_far replies =
    let from = ran_at state so_far replies in
    ap (items_ran setting.clock number asked from) e ∙ ap (λ (after : ItemsState). ran_by from (row_after setting number state after before)) asks.same

module _ (setting : Setting) (R : Services → List Move → Serving → Type 0) (f : FollowsServices setting R) where
  -- ---- forms of what is served

  either : {state : Services} (b : Bool) (x y : Serving) (xs ys : List Move) → R state xs x → R state ys y → R state (cond b xs ys) (cond b x y)
  either true x y xs ys p q = p
  either false x y xs ys p q = q

  refused : (state : Services) (replies : List Reply) → R state [] (record { state = state; replies = replies; occurrences = []; is_refused = true })
  refused state replies = f.still state replies false true

  -- a step of the sessions and nothing else
  step_taken : (state : Services) (step : SessionStep) (replies : List Reply) (spends is_refused : Bool) →
      R state [] (record { state = stepped state step; replies = replies; occurrences = cond spends (Spent ∷ []) []; is_refused = is_refused })
  step_taken state step replies spends is_refused = f.steps state step _ _ (f.still (stepped state step) replies spends is_refused)

  -- a call that answers Publish requests alone
  one_told : (state : Services) (w : Stage) (move : Move) → ((so_far : List Fired) (replies : List Reply) → moved (ran_at state so_far replies) move ≡ ran_by (ran_at state so_far replies) (without_answer state.subscriptions w)) →
      R state (move ∷ []) (called_alone state w)
  unfolding called_alone
  one_told state w move e = f.calls _ state no_reply (without_answer state.subscriptions w) move e

  -- ---- ticks, and the server's end

  over : (deleting : Bool) (number : ℕ) (state : Services) → R state (Move.EndSession setting.clock number deleting ∷ []) (session_over setting deleting number state)
  over deleting number state = one_told state (session_ended number deleting (stage_at setting state)) (Move.EndSession setting.clock number deleting) (λ so_far replies. refl)

  all_over : (state : Services) (numbers : List ℕ) (moves : List Move) (s : Serving) → R state moves s → R state (moves ++ map (end_move setting) numbers) (fold (timed_out setting) s numbers)
  unfolding timed_out
  all_over state [] moves s p = subst (λ (ms : List Move). R state ms s) (sym (append-nil moves)) p
  all_over state (number ∷ numbers) moves s p =
      subst (λ (ms : List Move). R state ms (fold (timed_out setting) (timed_out setting s number) numbers)) (append_assoc moves (end_move setting number ∷ []) (map (end_move setting) numbers))
      (all_over state numbers (moves ++ end_move setting number ∷ []) (timed_out setting s number)
      (f.next state moves (end_move setting number ∷ []) s (session_over setting false number) p (over false number s.state)))

  -- once the sessions were told the time
  pub ticking : (state : Services) → R (with_sessions state (ticked state.sessions setting.clock)) (ticking_moves setting state) (ticking_of setting state)
  ticking state =
      let at = with_sessions state (ticked state.sessions setting.clock) in
      let ended = ended_by state.sessions setting.clock in
      let all : Serving = all_timed_out setting at ended in
      f.next at (map (end_move setting) ended) (Move.Timers setting.clock ∷ []) all (timers_met setting) (all_over at ended [] (nothing_done at) (f.still at [] false false))
      (one_told all.state (timed (stage_at setting all.state)) (Move.Timers setting.clock) (λ so_far replies. refl))

  pub shutting : (state : Services) → R state (shutting_moves setting) (shutting_of setting state)
  unfolding shutting_of
  shutting state =
      let w = shut_down (stage_at setting state) in
      f.ends state (shutting_moves setting) (called_alone state w) (one_told state w (Move.Shutdown setting.clock) (λ so_far replies. refl))

  -- what it has to have of a Write besides
  abbrev pub OfWrites : Type 0
  OfWrites = (caller : Caller) (state : Services) (values : List WriteValue) → R state (Move.Show (write_of setting.clock state.space.nodes values).changed ∷ []) (write_listed setting caller state (Ok values))

  -- ---- services of a session

  module _ (caller : Caller) where
    read_listed_so : (state : Services) (timestamps : Timestamps) (r : Result (List ReadValueId) Status) → R state [] (read_listed setting caller state timestamps r)
    read_listed_so state timestamps (Ok nodes) = f.still state _ false false
    read_listed_so state timestamps (Err code) = refused state _

    read_timed_so : (state : Services) (nodes : Option (List ReadValueId)) (choice : Option Timestamps) → R state [] (read_timed setting caller state nodes choice)
    read_timed_so state nodes None = refused state _
    read_timed_so state nodes (Some timestamps) = read_listed_so state timestamps (operations_of setting.config nodes)

    write_listed_so : OfWrites → (state : Services) (r : Result (List WriteValue) Status) → R state (if_listed (λ (values : List WriteValue). Move.Show (write_of setting.clock state.space.nodes values).changed ∷ []) r) (write_listed setting caller state r)
    write_listed_so writes state (Ok values) = writes caller state values
    write_listed_so writes state (Err code) = refused state _

    browse_listed_so : (session requested : ℕ) (state : Services) (r : Result (List BrowseDescription) Status) → R state [] (browse_listed setting caller session requested state r)
    browse_listed_so session requested state (Ok descriptions) = step_taken state (SessionStep.Browse (page_size setting.config.references requested) session descriptions) _ _ false
    browse_listed_so session requested state (Err code) = refused state _

    browse_so : (session : ℕ) (request : BrowseRequest) (state : Services) → R state [] (browse_meaning setting caller session request state)
    browse_so session request state =
        by (not (is_null_id request.view_id)) _ _ (refused state _) (browse_listed_so session request.requested_max_references_per_node state (operations_of setting.config request.nodes_to_browse))
      where
        by : (b : Bool) (x y : Serving) → R state [] x → R state [] y → R state [] (cond b x y)
        by true x y p q = p
        by false x y p q = q

    browse_next_so : (session : ℕ) (is_release : Bool) (state : Services) (r : Result (List (Option (List ℕ))) Status) → R state [] (browse_next_listed setting caller session is_release state r)
    browse_next_so session is_release state (Ok named) = step_taken state (SessionStep.GoOn is_release session named) _ _ false
    browse_next_so session is_release state (Err code) = refused state _

    history_ranged_so : (session : ℕ) (request : HistoryReadRequest) (state : Services) (times : Timestamps) (nodes : List HistoryReadValueId) (r : Result RawRange Status) → R state [] (history_ranged setting caller session request state times nodes r)
    history_ranged_so session request state times nodes (Ok range) =
        step_taken state (SessionStep.ReadHistory (record { timestamps = times; is_release = request.release_continuation_points; range = range }) session nodes) _ _ false
    history_ranged_so session request state times nodes (Err code) = refused state _

    history_listed_so : (session : ℕ) (request : HistoryReadRequest) (state : Services) (times : Timestamps) (r : Result (List HistoryReadValueId) Status) → R state [] (history_listed setting caller session request state times r)
    history_listed_so session request state times (Ok nodes) = history_ranged_so session request state times nodes (details_judged setting.config request.history_read_details)
    history_listed_so session request state times (Err code) = refused state _

    history_timed_so : (session : ℕ) (request : HistoryReadRequest) (state : Services) (choice : Option Timestamps) → R state [] (history_timed setting caller session request state choice)
    history_timed_so session request state None = refused state _
    history_timed_so session request state (Some times) = history_listed_so session request state times (operations_of setting.config request.nodes_to_read)

    publishing_listed_so : (session : ℕ) (enabled : Bool) (state : Services) (r : Result (List ℕ) Status) →
        R state (if_listed (λ (numbers : List ℕ). Move.SetMode setting.clock session numbers enabled ∷ []) r) (set_publishing_listed setting caller session enabled state r)
    publishing_listed_so session enabled state (Ok numbers) =
        f.calls _ state (λ statuses. reply_of caller (statuses_body SET_PUBLISHING_MODE_RESPONSE setting caller statuses) ∷ []) (said state.subscriptions (named_all session (sub_call.SetMode enabled) (stage_at setting state) numbers)) _ (λ so_far replies. refl)
    publishing_listed_so session enabled state (Err code) = refused state _

    deleted_so : (session : ℕ) (state : Services) (r : Result (List ℕ) Status) → R state (if_listed (λ (numbers : List ℕ). Move.Delete setting.clock session numbers ∷ []) r) (delete_subscriptions_listed setting caller session state r)
    deleted_so session state (Ok numbers) =
        f.calls _ state (λ statuses. reply_of caller (statuses_body DELETE_SUBSCRIPTIONS_RESPONSE setting caller statuses) ∷ []) (said state.subscriptions (deleted session (stage_at setting state) numbers)) _ (λ so_far replies. refl)
    deleted_so session state (Err code) = refused state _

    publish_so : (session : ℕ) (request : PublishRequest) (state : Services) → R state (publish_moves setting caller session request state) (publish_meaning setting caller session request state)
    publish_so session request state =
        let acks = or_none request.subscription_acknowledgements in
        either _ _ _ _ _ (refused state _) (one_told state (published session (publish_call caller) acks (stage_at setting state)) (Move.Publish setting.clock session (publish_call caller) acks) (λ so_far replies. refl))

    module _ (number : ℕ) (state : Services) (done : Itemed) (asked : Option ItemsCall) (asks : Asks number state.items done.items asked) where
      vars_so : (found : Option Vars) → vars_found number state.items state.subscriptions.table ≡ found → R state (items_moves_by setting number asked found) (items_called_by setting caller number state done found)
      vars_so None e = refused state _
      vars_so (Some before) e =
          f.calls _ state (λ (x : Unit {0}). reply_of caller done.body ∷ []) (row_after setting number state done.items before) (Move.Items setting.clock number asked) (asked_ran setting number state done.items asked asks before e)

      own_so : (own : Bool) → R state (items_moves_by setting number asked (cond own (vars_found number state.items state.subscriptions.table) None)) (items_called_by setting caller number state done (cond own (vars_found number state.items state.subscriptions.table) None))
      own_so true = vars_so (vars_found number state.items state.subscriptions.table) refl
      own_so false = refused state _

      items_so : (session : ℕ) → R state (items_moves setting session number asked state) (items_called_by setting caller number state done (own_vars session number state))
      items_so session = own_so (is_own state.subscriptions.table session number)

  -- ---- all services

  module _ (caller : Caller) (token : NodeId) (state : Services) where
    by_fields : {A : Type 0} (meaning : Setting → Caller → NodeId → A → Services → Serving) (moves : A → List Move) → ((request : A) → R state (moves request) (meaning setting caller token request state)) →
        (r : Result A TakeFault) → R state (if_read moves r) (served_by meaning setting caller token state r)
    by_fields meaning moves g (Ok request) = g request
    by_fields meaning moves g (Err fault) = refused state _

    none_by_fields : {A : Type 0} (meaning : Setting → Caller → NodeId → A → Services → Serving) → ((request : A) → R state [] (meaning setting caller token request state)) →
        (r : Result A TakeFault) → R state [] (served_by meaning setting caller token state r)
    none_by_fields meaning g (Ok request) = g request
    none_by_fields meaning g (Err fault) = refused state _

    taken_so : {A : Type 0} (step : SessionStep) (spends : Bool) (body : A → List ℕ) (answer : Result A Status) → R state [] (taken state caller setting.clock (cond spends (Spent ∷ []) []) body answer (sessions_after state step))
    taken_so step spends body (Ok x) = step_taken state step _ spends false
    taken_so step spends body (Err code) = step_taken state step _ false true

    closed_so : (deleting : Bool) (answer : Result ℕ Status) → R state (close_moves setting deleting answer) (closed_by setting caller deleting state answer (close_of state.sessions token caller.origin.conn).state)
    closed_so deleting (Ok number) =
        let step = SessionStep.Close token caller.origin.conn in
        let at = stepped state step in
        let gone : Serving = session_over setting deleting number at in
        f.steps state step _ _ (f.next at (Move.EndSession setting.clock number deleting ∷ []) [] gone (λ (after : Services). answered_at_once after caller (close_session_body setting caller)) (over deleting number at) (f.still gone.state _ false false))
    closed_so deleting (Err code) = step_taken state (SessionStep.Close token caller.origin.conn) _ false true

    found_so : (serve : ℕ → Services → Serving) (moves : ℕ → Services → List Move) → ((number : ℕ) (after : Services) → R after (moves number after) (serve number after)) → (answer : Result ℕ Status) →
        (let sessions = (find_of state.sessions token caller.origin.conn).state in R state (of_events.if_found moves state answer sessions) (if_found serve setting caller state answer sessions))
    found_so serve moves g (Ok number) = let step = SessionStep.Find token caller.origin.conn in f.steps state step _ _ (g number (stepped state step))
    found_so serve moves g (Err code) = step_taken state (SessionStep.Find token caller.origin.conn) _ false true

    by_session : {A : Type 0} (meaning : Setting → Caller → ℕ → A → Services → Serving) (moves : ℕ → A → Services → List Move) →
        ((number : ℕ) (request : A) (after : Services) → R after (moves number request after) (meaning setting caller number request after)) → (r : Result A TakeFault) →
        R state (if_read (in_session moves caller token state) r) (served_in_session meaning setting caller token state r)
    by_session meaning moves g (Ok request) =
        found_so (λ number. meaning setting caller number request) (λ number. moves number request) (λ number. g number request) (find_of state.sessions token caller.origin.conn).answer
    by_session meaning moves g (Err fault) = refused state _

    none_found : (serve : ℕ → Services → Serving) → ((number : ℕ) (after : Services) → R after [] (serve number after)) → (answer : Result ℕ Status) → R state [] (if_found serve setting caller state answer (find_of state.sessions token caller.origin.conn).state)
    none_found serve g (Ok number) = let step = SessionStep.Find token caller.origin.conn in f.steps state step _ _ (g number (stepped state step))
    none_found serve g (Err code) = step_taken state (SessionStep.Find token caller.origin.conn) _ false true

    none_by_session : {A : Type 0} (meaning : Setting → Caller → ℕ → A → Services → Serving) → ((number : ℕ) (request : A) (after : Services) → R after [] (meaning setting caller number request after)) →
        (r : Result A TakeFault) → R state [] (served_in_session meaning setting caller token state r)
    none_by_session meaning g (Ok request) = none_found (λ number. meaning setting caller number request) (λ number. g number request) (find_of state.sessions token caller.origin.conn).answer
    none_by_session meaning g (Err fault) = refused state _

    by_items : {A : Type 0} (number : A → ℕ) (done : Setting → Caller → A → Services → Itemed) (asked : Setting → A → Services → Option ItemsCall) →
        ((request : A) (after : Services) → Asks (number request) after.items (done setting caller request after).items (asked setting request after)) → (r : Result A TakeFault) →
        R state (if_read (in_session (λ session request at. items_moves setting session (number request) (asked setting request at) at) caller token state) r)
        (served_in_session (λ (set : Setting) (c : Caller) session request at. items_called set c session (number request) at (done set c request at)) setting caller token state r)
    by_items number done asked asks =
        by_session (λ (set : Setting) (c : Caller) session request at. items_called set c session (number request) at (done set c request at)) (λ session request at. items_moves setting session (number request) (asked setting request at) at)
        (λ session request after. items_so caller (number request) after (done setting caller request after) (asked setting request after) (asks request after) session)

    picked_so : OfWrites → (fields : List ℕ) (service : Option Service) → R state (moves_as setting caller token fields state service) (served_as setting caller token fields state service)
    picked_so writes fields (Some Service.GetEndpoints) = none_by_fields get_endpoints_meaning (λ request. f.still state _ false false) (fields_of get_endpoints_request_reading fields)
    picked_so writes fields (Some Service.CreateSession) = none_by_fields create_session_meaning (λ request. taken_so (SessionStep.Create caller.origin.conn caller.key) (is_spent state.sessions) (create_session_body setting caller) (create_of state.sessions caller.origin.conn caller.key).answer) (fields_of create_session_request_reading fields)
    picked_so writes fields (Some Service.ActivateSession) = none_by_fields activate_session_meaning (λ request. let is_free = is_anonymous request.user_identity_token in taken_so (SessionStep.Activate token caller.origin.conn caller.key is_free) (is_spent state.sessions) (activate_session_body setting caller) (activate_of state.sessions token caller.origin.conn caller.key is_free).answer) (fields_of activate_session_request_reading fields)
    picked_so writes fields (Some Service.CloseSession) = by_fields close_session_meaning (close_session_moves setting caller token state) (λ request. closed_so request.delete_subscriptions (close_of state.sessions token caller.origin.conn).answer) (fields_of close_session_request_reading fields)
    picked_so writes fields (Some Service.Read) = none_by_session read_meaning (λ session request after. read_timed_so caller after request.nodes_to_read (timestamps_of request.timestamps_to_return)) (fields_of read_request_reading fields)
    picked_so writes fields (Some Service.Write) = by_session write_meaning (write_moves setting) (λ session request after. write_listed_so caller writes after (operations_of setting.config request.nodes_to_write)) (fields_of write_request_reading fields)
    picked_so writes fields (Some Service.Browse) = none_by_session browse_meaning (browse_so caller) (fields_of browse_request_reading fields)
    picked_so writes fields (Some Service.BrowseNext) = none_by_session browse_next_meaning (λ session request after. browse_next_so caller session request.release_continuation_points after (operations_of setting.config request.continuation_points)) (fields_of browse_next_request_reading fields)
    picked_so writes fields (Some Service.HistoryRead) = none_by_session history_read_meaning (λ session request after. history_timed_so caller session request after (some_times (timestamps_of request.timestamps_to_return))) (fields_of history_read_request_reading fields)
    picked_so writes fields (Some Service.CreateMonitoredItems) = by_items (λ (r : CreateMonitoredItemsRequest). r.subscription_id) items_created create_asked (created_asks setting caller) (fields_of create_monitored_items_request_reading fields)
    picked_so writes fields (Some Service.ModifyMonitoredItems) = by_items (λ (r : ModifyMonitoredItemsRequest). r.subscription_id) items_modified modify_asked (modified_asks setting caller) (fields_of modify_monitored_items_request_reading fields)
    picked_so writes fields (Some Service.SetMonitoringMode) = by_items (λ (r : SetMonitoringModeRequest). r.subscription_id) items_moded mode_asked (moded_asks setting caller) (fields_of set_monitoring_mode_request_reading fields)
    picked_so writes fields (Some Service.SetTriggering) = by_items (λ (r : SetTriggeringRequest). r.subscription_id) items_linked link_asked (linked_asks setting caller) (fields_of set_triggering_request_reading fields)
    picked_so writes fields (Some Service.DeleteMonitoredItems) = by_items (λ (r : DeleteMonitoredItemsRequest). r.subscription_id) items_deleted delete_asked (deleted_asks setting caller) (fields_of delete_monitored_items_request_reading fields)
    picked_so writes fields (Some Service.CreateSubscription) = by_session create_subscription_meaning (create_subscription_moves setting) (λ session request after. f.calls _ after (λ answer. reply_of caller (create_subscription_body setting caller answer) ∷ []) (created session (settings_asked request) request.publishing_enabled after.subscriptions after.items setting.clock) _ (λ so_far replies. refl)) (fields_of create_subscription_request_reading fields)
    picked_so writes fields (Some Service.ModifySubscription) = by_session modify_subscription_meaning (modify_subscription_moves setting) (λ session request after. f.calls _ after (λ answer. reply_of caller (modify_subscription_body setting caller answer) ∷ []) (said after.subscriptions (modified session request.subscription_id (settings_wanted request) (stage_at setting after))) _ (λ so_far replies. refl)) (fields_of modify_subscription_request_reading fields)
    picked_so writes fields (Some Service.SetPublishingMode) = by_session set_publishing_mode_meaning (set_publishing_mode_moves setting) (λ session request after. publishing_listed_so caller session request.publishing_enabled after (operations_of setting.config request.subscription_ids)) (fields_of set_publishing_mode_request_reading fields)
    picked_so writes fields (Some Service.DeleteSubscriptions) = by_session delete_subscriptions_meaning (delete_subscriptions_moves setting) (λ session request after. deleted_so caller session after (operations_of setting.config request.subscription_ids)) (fields_of delete_subscriptions_request_reading fields)
    picked_so writes fields (Some Service.Publish) = by_session publish_meaning (publish_moves setting caller) (publish_so caller) (fields_of publish_request_reading fields)
    picked_so writes fields (Some Service.Republish) = by_session republish_meaning (republish_moves setting) (λ session request after. f.calls _ after (λ answer. reply_of caller (republish_answer setting caller answer) ∷ []) (said after.subscriptions (republished session request.subscription_id request.retransmit_sequence_number (stage_at setting after))) _ (λ so_far replies. refl)) (fields_of republish_request_reading fields)
    picked_so writes fields None = refused state _

  by_header : OfWrites → (request : Request) (state : Services) (id : Result ℕ TakeFault) (headed : Result Headed TakeFault) → R state (serving_moves_by setting request state id headed) (serving_by setting request state id headed)
  by_header writes request state (Ok id) (Ok headed) = picked_so (call_of request headed.header.request_handle) headed.header.authentication_token state writes headed.fields (service_of id)
  by_header writes request state (Ok id) (Err fault) = refused state _
  by_header writes request state (Err fault) headed = refused state _

  pub served : OfWrites → (request : Request) (state : Services) → R state (serving_moves setting request state) (serving_of setting request state)
  unfolding serving_of serving_moves
  served writes request state = by_header writes request state (message_id_of request.body) (headed_of request.body)
