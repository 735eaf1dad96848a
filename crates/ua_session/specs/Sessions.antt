-- The sessions of a server: making them, judging who may use them, and their end.
use Rattle.std.specs.Prelude.{◌≡◌, ◌+ℤ◌, ℕ, ◌+◌, ◌==◌, ◌-◌, ◌<◌, ◌^◌, pos, Bool, true, false, not, ◌&&◌, ◌||◌, nat_le, List, [], ◌∷◌, Option, Some, None, unwrap_or, Result, Ok, Err, IsOk, if◌then◌else◌}
use Rattle.std.specs.FinMap.{FinMap, entries, get, insert, remove, empty, len}
use Rattle.std.specs.Int.{w64, saturate_signed}
use Rattle.std.specs.Ordering.{nat_cmp}
use Rattle.std.specs.Str.{bytes_eq}
use Rattle.ua_types.specs.Answers.{Step, step}
use Rattle.ua_types.specs.Configuration.{Configuration}
use Rattle.ua_types.specs.Moments.{later}
use Rattle.ua_types.specs.declared.moment.Moment.{Moment}
use Rattle.ua_types.specs.declared.node_id.NodeId.{NodeId}
use Rattle.ua_types.specs.declared.refusal.Refusal.{Refusal}
use Rattle.ua_types.specs.declared.refusal.Refusal.TheVariants.{Service, Memory, Exhausted}
use Rattle.ua_types.specs.declared.status.Status.{Status}
use Rattle.ua_types.specs.declared.status.TheConstants.Status as status
use Rattle.ua_session.specs.Nonces.{nonce_of}
use Rattle.ua_session.specs.Points.{PointsState, no_points}
use Rattle.ua_session.specs.SessionTables.{due_in, IsNoneDueBefore}
use Rattle.ua_session.specs.Tokens.{parts_of, secret_of, token_of}
use Rattle.ua_session.specs.declared.session.Session.{Session}
use Rattle.ua_session.specs.declared.sessions.Created.{Created}

-- the most sessions that are held at once, how long one lasts without a request, the clock, the sessions by their numbers,
-- the number of the last one, how many nonces were given, the most continuation points of a session, and the points of
-- those sessions that have had some
pub record SessionsState : Type 0 where
  pub most : ℕ
  pub time : ℕ
  pub clock : Moment
  pub sessions : FinMap nat_cmp Session
  pub made : ℕ
  pub nonces : ℕ
  pub most_points : ℕ
  pub points : FinMap nat_cmp PointsState

abbrev pub no_sessions : Configuration → SessionsState
no_sessions config = record {
  most = config.sessions;
  time = config.session_time;
  clock = config.start;
  sessions = empty;
  made = 0;
  nonces = 0;
  most_points = config.points;
  points = empty;
}

abbrev pub with_session : SessionsState → ℕ → Session → SessionsState
with_session s number session = record s { sessions = insert s.sessions number session }

-- one more session, under the next number, without points
abbrev pub with_new_session : SessionsState → Session → SessionsState
with_new_session s session = record s { sessions = insert s.sessions (s.made + 1) session; made = s.made + 1; points = remove s.points (s.made + 1) }

-- the moment at which a session ends that is used now
abbrev pub deadline_of : SessionsState → Moment
deadline_of s = record { 0 = saturate_signed w64 (s.clock.0 +ℤ pos s.time) }

-- what the fields of `Sessions` keep: no session is due before that moment, and none has a number above the last one's
pub record AreHeld (earliest : Moment) (made : ℕ) (sessions : FinMap nat_cmp Session) : Type 0 where
  pub due : IsNoneDueBefore earliest sessions
  pub fresh : (number : ℕ) → made < number → get sessions number ≡ None

-- ---- which session a token names

-- a session, and its number
pub record Named : Type 0 where
  pub number : ℕ
  pub session : Session

abbrev pub if_secret : List ℕ → ℕ → Option Session → Option Named
if_secret secret number None = None
if_secret secret number (Some session) = if bytes_eq secret session.secret then Some (record { number = number; session = session }) else None

abbrev pub named_by : SessionsState → Option (List ℕ × ℕ) → Option Named
named_by s None = None
named_by s (Some parts) = if_secret parts.0 parts.1 (get s.sessions parts.1)

-- the session whose token this is
abbrev pub named : SessionsState → NodeId → Option Named
named s token = named_by s (parts_of token)

-- ---- nonces

-- whether no serial is left for another nonce
abbrev pub is_spent : SessionsState → Bool
is_spent s = nat_le (2 ^ 64 - 1) s.nonces

abbrev pub with_nonce : SessionsState → SessionsState
with_nonce s = record s { nonces = s.nonces + 1 }

-- the next nonce, for a client on a connection with this key
abbrev pub next_nonce : SessionsState → List ℕ → List ℕ
next_nonce s key = nonce_of key (s.nonces + 1)

-- A call takes the step that is said of it, and gives no nonce past the last one; unless memory ran out, or the nonces did where one
-- is to be given: then the state is the old one. Neither takes the place of a refusal, nor want of memory that of the nonces' end
abbrev pub TakesNonce : {A : Type 0} → Result A Refusal → SessionsState → SessionsState → Step A Status SessionsState → Type 0
TakesNonce (Ok x) old new said = (said ≡ step (Ok x) new) × (is_spent old ≡ false)
TakesNonce (Err (Service status)) old new said = said ≡ step (Err status) new
TakesNonce (Err Memory) old new said = (is_spent old ≡ false) × IsOk said.answer × (new ≡ old)
TakesNonce (Err Exhausted) old new said = (is_spent old ≡ true) × IsOk said.answer × (new ≡ old)

abbrev pub refused : {A : Type 0} → SessionsState → Status → Step A Status SessionsState
refused s code = step (Err code) s

-- ---- CreateSession

abbrev pub is_full : SessionsState → Bool
is_full s = nat_le s.most (len s.sessions) || nat_le (2 ^ 32 - 1) s.made

abbrev pub new_session : SessionsState → ℕ → List ℕ → Session
new_session s conn key = record { secret = secret_of key; conn = conn; is_activated = false; deadline = deadline_of s }

abbrev pub created : SessionsState → ℕ → List ℕ → Created
created s conn key = record { number = s.made + 1; token = token_of (secret_of key) (s.made + 1); nonce = next_nonce s key }

-- a session for a client on this connection, with this key
unfoldable pub create_of : SessionsState → ℕ → List ℕ → Step Created Status SessionsState
create_of s conn key =
    if is_full s then refused s status.BAD_TOO_MANY_SESSIONS
    else step (Ok (created s conn key)) (with_nonce (with_new_session s (new_session s conn key)))

-- ---- any request but that

abbrev pub used : SessionsState → Named → SessionsState
used s n = with_session s n.number (record n.session { deadline = deadline_of s })

-- its connection must be the session's, and the session activated
abbrev pub found : SessionsState → ℕ → Option Named → Step ℕ Status SessionsState
found s conn None = refused s status.BAD_SESSION_ID_INVALID
found s conn (Some n) =
    if not (n.session.conn == conn) then refused s status.BAD_SECURE_CHANNEL_ID_INVALID
    else if not n.session.is_activated then refused s status.BAD_SESSION_NOT_ACTIVATED
    else step (Ok n.number) (used s n)

unfoldable pub find_of : SessionsState → NodeId → ℕ → Step ℕ Status SessionsState
find_of s token conn = found s conn (named s token)

-- ---- ActivateSession

abbrev pub moved : SessionsState → Named → ℕ → SessionsState
moved s n conn = with_session s n.number (record n.session { conn = conn; is_activated = true; deadline = deadline_of s })

-- a session that was activated before may come by another connection; then the user's identity is judged
abbrev pub activated : SessionsState → ℕ → List ℕ → Bool → Option Named → Step (List ℕ) Status SessionsState
activated s conn key is_anonymous None = refused s status.BAD_SESSION_ID_INVALID
activated s conn key is_anonymous (Some n) =
    if not (n.session.conn == conn) && not n.session.is_activated then refused s status.BAD_SECURE_CHANNEL_ID_INVALID
    else if not is_anonymous then refused s status.BAD_IDENTITY_TOKEN_REJECTED
    else step (Ok (next_nonce s key)) (with_nonce (moved s n conn))

unfoldable pub activate_of : SessionsState → NodeId → ℕ → List ℕ → Bool → Step (List ℕ) Status SessionsState
activate_of s token conn key is_anonymous = activated s conn key is_anonymous (named s token)

-- ---- CloseSession

abbrev pub closed : SessionsState → ℕ → Option Named → Step ℕ Status SessionsState
closed s conn None = refused s status.BAD_SESSION_ID_INVALID
closed s conn (Some n) =
    if not (n.session.conn == conn) then refused s status.BAD_SECURE_CHANNEL_ID_INVALID
    else step (Ok n.number) (record s { sessions = remove s.sessions n.number; points = remove s.points n.number })

unfoldable pub close_of : SessionsState → NodeId → ℕ → Step ℕ Status SessionsState
close_of s token conn = closed s conn (named s token)

-- ---- time

-- the numbers of the sessions that end once the clock shows this, rising
abbrev pub ended_at : SessionsState → Moment → List ℕ
ended_at s clock = due_in clock (entries s.sessions)

abbrev pub without : {V : Type 0} → FinMap nat_cmp V → List ℕ → FinMap nat_cmp V
without m [] = m
without m (number ∷ numbers) = without (remove m number) numbers

abbrev pub at_clock : SessionsState → Moment → SessionsState
at_clock s clock = record s { clock = clock; sessions = without s.sessions (ended_at s clock); points = without s.points (ended_at s clock) }

-- what is left once a tick has brought this moment
abbrev pub ticked : SessionsState → Moment → SessionsState
ticked s now = at_clock s (later s.clock now)

-- the sessions that it ends
abbrev pub ended_by : SessionsState → Moment → List ℕ
ended_by s now = ended_at s (later s.clock now)

-- ---- the end of all

-- no session is left, nor a point of one
abbrev pub all_ended : SessionsState → SessionsState
all_ended s = record s { sessions = empty; points = empty }

-- ---- continuation points

-- the points of a session
abbrev pub points_of : SessionsState → ℕ → PointsState
points_of s number = unwrap_or (get s.points number) (no_points s.most_points)

abbrev pub with_points : SessionsState → ℕ → PointsState → SessionsState
with_points s number points = record s { points = insert s.points number points }
