use Rattle.std.proofs.Common.{◌≡◌, ◌||◌}
use Rattle.std.specs.Slice.Iter.{iter_rest}
use Rattle.mio.specs.Events.{items}
use Rattle.socket_server.specs.Serving.{reported_events, is_listener_among}
use Rattle.socket_server.proofs.serve.report_all.Given as goal

-- those that are left are to be reported still, and the listening socket was among those before, or is among them
abbrev pub invariant-loop-event : goal.invariant-loop-event
invariant-loop-event l =
    (reported_events l.peers (iter_rest l.event-iterator) ≡ reported_events l.fn.peers (items l.fn.events))
    × ((l.connected || is_listener_among (iter_rest l.event-iterator)) ≡ is_listener_among (items l.fn.events))
