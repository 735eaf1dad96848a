-- The end of sessions (IEC 62541-4, "CloseSession"), of connections, and of the server.
use Rattle.std.specs.Prelude.{ℕ, ◌==◌, Bool, not, List, [], ◌∷◌, ◌++◌, map, filter}
use Rattle.std.specs.BTreeMap.{is_at}
use Rattle.std.specs.Map.{keys_of, values_of, remove_entry}
use Rattle.std.specs.Ordering.{nat_cmp}
use Rattle.ua_types.specs.declared.status.Status.{Status}
use Rattle.ua_types.specs.declared.status.TheConstants.Status as status
use Rattle.ua_subscriptions.specs.declared.call.Call.TheVariants.{SessionEnd, Shutdown}
use Rattle.ua_subscriptions.specs.declared.publish_call.PublishCall.{PublishCall}
use Rattle.ua_subscriptions.specs.declared.session_part.SessionSubscriptions.{SessionSubscriptions}
use Rattle.ua_subscriptions.specs.Answers.{refused_of}
use Rattle.ua_subscriptions.specs.Named.{all_refused, with_replies}
use Rattle.ua_subscriptions.specs.Tables.{TableState, Stage, all_met, part_at}

abbrev pub without_session : ℕ → Stage → Stage
without_session session w =
    let table : TableState = w.table in
    record w { table = record table { sessions = remove_entry (is_at (nat_cmp session)) table.sessions } }

-- its subscriptions see the end, by rising number; then its requests that wait are answered, and nothing of it is left
unfoldable pub session_ended : ℕ → Bool → Stage → Stage
session_ended session deleting w =
    without_session session (all_refused session status.BAD_SESSION_CLOSED (all_met (SessionEnd deleting) w (part_at session w.table.sessions).numbers))

-- ---- a connection that is closed or gone

abbrev pub came_by_other : ℕ → PublishCall → Bool
came_by_other conn call = not (call.origin.conn == conn)

-- the requests that came by a connection wait no more
abbrev pub part_without_conn : ℕ → SessionSubscriptions → SessionSubscriptions
part_without_conn conn part = record part { requests = filter (came_by_other conn) part.requests }

abbrev pub entry_without_conn : ℕ → ℕ × SessionSubscriptions → ℕ × SessionSubscriptions
entry_without_conn conn e = (e.0, part_without_conn conn e.1)

abbrev pub without_conn : ℕ → TableState → TableState
without_conn conn table = record table { sessions = map (entry_without_conn conn) table.sessions }

-- ---- the server shuts down

-- the requests of sessions that wait, those of each in turn, the oldest first
abbrev pub all_requests : List SessionSubscriptions → List PublishCall
all_requests [] = []
all_requests (part ∷ parts) = part.requests ++ all_requests parts

-- all requests that wait are answered with a fault, by the rising number of their sessions; and nothing is left of any session
abbrev pub all_left : Status → Stage → Stage
all_left code w =
    let table : TableState = w.table in
    record w {
      round = with_replies w.round (map (refused_of w.round.clock code) (all_requests (values_of table.sessions)));
      table = record table { sessions = [] };
    }

-- every live subscription sees the shutdown, by rising number, be it of a session or of none; then the requests that wait
-- are answered, and nothing of the sessions is left
unfoldable pub shut_down : Stage → Stage
shut_down w = all_left status.BAD_SHUTDOWN (all_met Shutdown w (keys_of w.table.subscriptions))
