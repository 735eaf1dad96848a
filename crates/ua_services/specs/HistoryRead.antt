-- The service HistoryRead.
use Rattle.std.specs.Prelude.{ℕ, pos, ◌==◌, Bool, not, ◌&&◌, ◌||◌, List, Option, Some, None, Result, Ok, Err, if◌then◌else◌}
use Rattle.std.specs.Ordering.{int_eq}
use Rattle.ua_types.specs.Configuration.{Configuration}
use Rattle.ua_types.specs.declared.extension_object.ExtensionObject.{ExtensionObject}
use Rattle.ua_types.specs.declared.moment.Moment.{Moment}
use Rattle.ua_types.specs.declared.status.Status.{Status}
use Rattle.ua_types.specs.declared.status.TheConstants.Status as status
use Rattle.ua_messages.specs.Structures.{structure_of}
use Rattle.ua_messages.specs.declared.structures.StructureFault.{StructureFault}
use Rattle.ua_messages.specs.declared.structures.StructureFault.TheVariants.{OtherType}
use Rattle.ua_messages.specs.declared.type_ids.TheConstants.{HISTORY_READ_RESPONSE, READ_RAW_MODIFIED_DETAILS}
use Rattle.ua_service_messages.specs.History.{history_read_result_encoding, read_raw_modified_details_reading}
use Rattle.ua_service_messages.specs.declared.history.HistoryReadRequest.{HistoryReadRequest}
use Rattle.ua_service_messages.specs.declared.history.HistoryReadResult.{HistoryReadResult}
use Rattle.ua_service_messages.specs.declared.history.HistoryReadValueId.{HistoryReadValueId}
use Rattle.ua_service_messages.specs.declared.history.ReadRawModifiedDetails.{ReadRawModifiedDetails}
use Rattle.ua_browse.specs.Browsing.{page_size}
use Rattle.ua_session.specs.Points.{PointsState}
use Rattle.ua_session.specs.Sessions.{points_of}
use Rattle.ua_read_write.specs.Timestamps.{timestamps_of}
use Rattle.ua_read_write.specs.declared.timestamps.Timestamps.{Timestamps}
use Rattle.ua_read_write.specs.declared.timestamps.Timestamps.TheVariants as timestamps
use Rattle.ua_history.specs.Histories.{HistoryState}
use Rattle.ua_history.specs.Reading.{read_raw_of, release_of}
use Rattle.ua_history.specs.declared.reading.RawRange.{RawRange}
use Rattle.ua_space.specs.Nodes.{Nodes}
use Rattle.server_messages.specs.declared.setting.Setting.{Setting}
use Rattle.ua_services.specs.HistoryResults.{history_result_of, release_result_of}
use Rattle.ua_services.specs.Operations.{operations_of}
use Rattle.ua_services.specs.Paging.{Done, told_as, all_done, paged}
use Rattle.ua_services.specs.ServicesState.{Services}
use Rattle.ua_services.specs.Serving.{Serving, faulted}
use Rattle.ua_services.specs.declared.caller.Caller.{Caller}
use Rattle.ua_services.specs.declared.history_read.Wanted.{Wanted}

-- ---- the request

-- a choice of times, of which there is at least one
abbrev pub some_times : Option Timestamps → Option Timestamps
some_times None = None
some_times (Some timestamps.Source) = Some timestamps.Source
some_times (Some timestamps.Server) = Some timestamps.Server
some_times (Some timestamps.Both) = Some timestamps.Both
some_times (Some timestamps.Neither) = None

abbrev pub is_time_given : Moment → Bool
is_time_given time = not (int_eq time.0 (pos 0))

abbrev pub is_count_given : ℕ → Bool
is_count_given count = not (count == 0)

-- at least two of start, end and count are given, each of which isn't where it is 0
abbrev pub is_bounded : ReadRawModifiedDetails → Bool
is_bounded d =
    (is_time_given d.start_time && is_time_given d.end_time)
    || (is_time_given d.start_time && is_count_given d.num_values_per_node)
    || (is_time_given d.end_time && is_count_given d.num_values_per_node)

-- what is asked for, or why it isn't served
abbrev pub range_of : Configuration → ReadRawModifiedDetails → Result RawRange Status
range_of config d =
    if d.is_read_modified || d.return_bounds then Err status.BAD_HISTORY_OPERATION_UNSUPPORTED
    else if not (is_bounded d) then Err status.BAD_HISTORY_OPERATION_INVALID
    else Ok (record { start = d.start_time; end = d.end_time; size = page_size config.history_page d.num_values_per_node })

abbrev pub range_in : Configuration → Result ReadRawModifiedDetails StructureFault → Result RawRange Status
range_in config (Ok details) = range_of config details
range_in config (Err OtherType) = Err status.BAD_HISTORY_OPERATION_UNSUPPORTED
range_in config (Err fault) = Err status.BAD_HISTORY_OPERATION_INVALID

-- the details are those of a reading of raw values, then they can be read, then they ask for what is served
abbrev pub details_judged : Configuration → ExtensionObject → Result RawRange Status
details_judged config object = range_in config (structure_of read_raw_modified_details_reading READ_RAW_MODIFIED_DETAILS object)

-- ---- one node

-- a page of its history, or nothing but that its point is given up
abbrev pub node_read : HistoryState → Nodes → Wanted → PointsState → HistoryReadValueId → Done HistoryReadResult
node_read history nodes wanted points asked =
    if wanted.is_release then told_as release_result_of (release_of points asked.continuation_point)
    else told_as (history_result_of wanted.timestamps) (read_raw_of history nodes wanted.range points asked)

-- ---- the service

-- all nodes, one after the other
abbrev pub history_read_of : Setting → Caller → ℕ → Services → Wanted → List HistoryReadValueId → Serving
history_read_of setting caller session state wanted nodes =
    paged history_read_result_encoding setting caller session HISTORY_READ_RESPONSE state
    (all_done (λ points asked. node_read state.history state.space.nodes wanted points asked) (points_of state.sessions session) nodes)

abbrev pub history_ranged : Setting → Caller → ℕ → HistoryReadRequest → Services → Timestamps → List HistoryReadValueId → Result RawRange Status → Serving
history_ranged setting caller session request state times nodes (Ok range) =
    history_read_of setting caller session state (record { timestamps = times; is_release = request.release_continuation_points; range = range }) nodes
history_ranged setting caller session request state times nodes (Err code) = faulted state caller code setting.clock

abbrev pub history_listed : Setting → Caller → ℕ → HistoryReadRequest → Services → Timestamps → Result (List HistoryReadValueId) Status → Serving
history_listed setting caller session request state times (Ok nodes) =
    history_ranged setting caller session request state times nodes (details_judged setting.config request.history_read_details)
history_listed setting caller session request state times (Err code) = faulted state caller code setting.clock

abbrev pub history_timed : Setting → Caller → ℕ → HistoryReadRequest → Services → Option Timestamps → Serving
history_timed setting caller session request state None = faulted state caller status.BAD_TIMESTAMPS_TO_RETURN_INVALID setting.clock
history_timed setting caller session request state (Some times) =
    history_listed setting caller session request state times (operations_of setting.config request.nodes_to_read)

-- the times that are wanted are judged first, then the list, then the details, then each node
abbrev pub history_read_meaning : Setting → Caller → ℕ → HistoryReadRequest → Services → Serving
history_read_meaning setting caller session request state =
    history_timed setting caller session request state (some_times (timestamps_of request.timestamps_to_return))
