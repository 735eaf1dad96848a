-- The encounters of a call, one after the other (IEC 62541-4, 5.13): a subscription meets what comes to it, at a scene; or
-- something is done beside that. A scene has the subscription's number and what comes to it in its round, so that the row, the
-- messages, the calls of items and the answers that come of a call are each a map of this one list.
use Rattle.std.specs.Prelude.{ℕ, ◌+◌, if◌then◌else◌, pos, Bool, true, false, List, [], ◌∷◌, ◌++◌, Option, Some, None}
use Rattle.std.specs.List.{flat_map}
use Rattle.std.specs.Map.{keys_of}
use Rattle.std.specs.Option.{is_some}
use Rattle.ua_types.specs.Configuration.{Configuration}
use Rattle.ua_types.specs.declared.moment.Moment.{Moment}
use Rattle.ua_types.specs.declared.status.Status.{Status}
use Rattle.ua_types.specs.declared.status.TheConstants.Status as status
use Rattle.ua_state_table.specs.declared.vars.Vars.{Vars}
use Rattle.ua_subscription_messages.specs.declared.publishing.SubscriptionAcknowledgement.{SubscriptionAcknowledgement}
use Rattle.ua_read_write.specs.declared.writing.Change.{Change}
use Rattle.ua_monitored_items.specs.Items.{ItemsState}
use Rattle.ua_monitored_items.specs.Moves as item_moves
use Rattle.ua_subscriptions.specs.declared.call.Call.{Call}
use Rattle.ua_subscriptions.specs.declared.call.Call.TheVariants as call
use Rattle.ua_subscriptions.specs.declared.publish_call.PublishCall.{PublishCall}
use Rattle.ua_subscriptions.specs.declared.session_part.TimeoutNote.{TimeoutNote}
use Rattle.ua_subscriptions.specs.declared.settings.Settings.{Settings}
use Rattle.ua_subscriptions.specs.declared.subscription.Subscription.{Subscription}
use Rattle.server_messages.specs.declared.fired.Fired.{Fired}
use Rattle.ua_subscriptions.specs.Ending.{without_session, all_left, without_conn}
use Rattle.ua_subscriptions.specs.Firing.{row_of, fired_in}
use Rattle.ua_subscriptions.specs.Making.{kept_at}
use Rattle.ua_subscriptions.specs.Named.{is_own, has_none, all_refused, named_all}
use Rattle.ua_subscriptions.specs.Answers.{refused_of}
use Rattle.ua_subscriptions.specs.Publishing.{acknowledged_all, note_of, note_told, ready, with_round, asked_by, asked_numbers, with_results}
use Rattle.ua_subscriptions.specs.Ranks.{due_numbers}
use Rattle.ua_subscriptions.specs.Scenes.{Scene, scene, with_reply, row_done}
use Rattle.ua_subscriptions.specs.SubscriptionCalls.{stage_of, is_full}
use Rattle.ua_subscriptions.specs.Subscriptions.{unborn, no_part}
use Rattle.ua_subscriptions.specs.Tables.{Stage, with_call, scene_at, met, all_met, part_at, subscription_at, vars_found}
use Rattle.subscription_laws.specs.Runs.{ItemsCall, items_asked, Move, Ran, start, of_run}

-- ---- what is done beside

pub data Beside : Type 0 where
  -- the items of a subscription are called, or all are shown what was written
  CallsItems : (subscription : ℕ) → Option ItemsCall → Beside
  ShowsItems : List Change → Beside
  -- acknowledgements are applied, and the oldest note of the session is taken
  Acknowledges : (session : ℕ) → List SubscriptionAcknowledgement → Beside
  -- a Publish request is there to be answered
  Asks : PublishCall → Beside
  -- or is answered at once: by the oldest note of its session, that a subscription has timed out
  TellsNote : (session : ℕ) → PublishCall → TimeoutNote → Beside
  -- or by the fault that its session has no subscription
  TellsNone : PublishCall → Beside
  -- the requests of a session that wait are refused
  Refuses : (session : ℕ) → Status → Beside
  -- nothing of a session is left
  Leaves : (session : ℕ) → Beside
  -- the requests of all sessions that wait are refused, and nothing of any is left
  LeavesAll : Status → Beside
  -- a connection is gone, and the requests that came by it
  Loses : (conn : ℕ) → Beside

abbrev pub with_items : Stage → ItemsState → Stage
with_items w items = record { round = w.round; table = w.table; items = items }

-- the stage after it
abbrev pub beside : Stage → Beside → Stage
beside w (CallsItems number asked) = with_items w (items_asked w.items number asked)
beside w (ShowsItems changed) = with_items w (item_moves.moved w.items (item_moves.Move.Show changed)).state
beside w (Acknowledges session acks) = ready session acks w
beside w (Asks asked) = asked_by w asked
beside w (TellsNote session asked note) = with_round w (note_told w.round asked note)
beside w (TellsNone asked) = with_round w (with_reply w.round (refused_of w.round.clock status.BAD_NO_SUBSCRIPTION asked))
beside w (Refuses session code) = all_refused session code w
beside w (Leaves session) = without_session session w
beside w (LeavesAll code) = all_left code w
beside w (Loses conn) = record { round = w.round; table = without_conn conn w.table; items = w.items }

-- ---- an encounter

pub data Encounter : Type 0 where
  Meets : Scene → Encounter
  Does : Stage → Beside → Encounter

abbrev pub meets_by : Stage → ℕ → Call → Option Subscription → List Encounter
meets_by w number asked None = []
meets_by w number asked (Some s) = Meets (scene_at w number asked s) ∷ []

-- that of the subscription of a number, if it lives
abbrev pub meets : Stage → ℕ → Call → List Encounter
meets w number asked = meets_by w number asked (subscription_at number w.table.subscriptions)

-- a call means any subscription, or those of a session
abbrev pub is_meant : Option ℕ → Stage → ℕ → Bool
is_meant None w number = true
is_meant (Some session) w number = is_own w.table session number

abbrev pub met_if : Bool → Stage → ℕ → Call → Stage
met_if true w number asked = met w number asked
met_if false w number asked = w

-- those of several numbers that are meant, one after the other, each met by the stage that those before it left (`all_met`, `named_all`)
abbrev pub all_meet : Option ℕ → Call → Stage → List ℕ → List Encounter
all_meet whose asked w [] = []
all_meet whose asked w (n ∷ ns) = (if is_meant whose w n then meets w n asked else []) ++ all_meet whose asked (met_if (is_meant whose w n) w n asked) ns

-- ---- a Publish request

abbrev pub asked_encounters : List ℕ → PublishCall → Stage → List Encounter
asked_encounters [] asked w = Does w (TellsNone asked) ∷ []
asked_encounters (n ∷ ns) asked w = Does w (Asks asked) ∷ all_meet None call.Publish (asked_by w asked) (asked_numbers w (n ∷ ns))

-- the oldest note is the answer, or else the session's subscriptions see the request
abbrev pub noted_encounters : Option TimeoutNote → ℕ → PublishCall → List SubscriptionAcknowledgement → Stage → List Encounter
noted_encounters (Some note) session asked acks w =
    let b = TellsNote session asked note in
    Does w b ∷ Does (beside w b) (Acknowledges session acks) ∷ []
noted_encounters None session asked acks w =
    let v = ready session acks w in
    Does w (Acknowledges session acks) ∷ asked_encounters (part_at session v.table.sessions).numbers asked v

-- the answer has what became of the acknowledgements
abbrev pub published_encounters : ℕ → PublishCall → List SubscriptionAcknowledgement → Stage → List Encounter
published_encounters session asked acks w =
    noted_encounters (note_of session w.table.sessions) session (with_results asked (acknowledged_all session w.table.subscriptions acks).results) acks w

-- ---- any call

-- the one that is made, under the number that it gets; or none, where the session holds as many as it may
abbrev pub made_scene : Bool → ℕ → ℕ → Settings → Bool → Stage → Scene
made_scene true number session settings enabled w = scene (with_call w.round 0 (call.Create true settings enabled)) (unborn session) no_part w.items
made_scene false number session settings enabled w =
    scene (with_call w.round number (call.Create false settings enabled)) (unborn session) (part_at session w.table.sessions) w.items

-- the items are called, and their subscription sees the variables that it had before
abbrev pub served_encounters : ℕ → Option ItemsCall → Stage → Option Vars → List Encounter
served_encounters number asked w None = []
served_encounters number asked w (Some vars) =
    let b = CallsItems number asked in
    Does w b ∷ meets (beside w b) number (call.Items vars)

-- of calls that have no clock any will do
abbrev pub any_time : Moment
any_time = record { 0 = pos 0 }

abbrev pub if_none_left : ℕ → Stage → List Encounter
if_none_left session w = if has_none session w.table then Does w (Refuses session status.BAD_NO_SUBSCRIPTION) ∷ [] else []

abbrev pub encounters : Ran → Move → List Encounter
encounters r (Move.Create clock session settings enabled) =
    Meets (made_scene (is_full r.subscriptions session) (r.subscriptions.made + 1) session settings enabled (stage_of r.subscriptions r.items clock)) ∷ []
encounters r (Move.Modify clock session number settings) = all_meet (Some session) (call.Modify settings) (stage_of r.subscriptions r.items clock) (number ∷ [])
encounters r (Move.SetMode clock session numbers enabled) = all_meet (Some session) (call.SetMode enabled) (stage_of r.subscriptions r.items clock) numbers
encounters r (Move.Delete clock session numbers) =
    let w = stage_of r.subscriptions r.items clock in
    all_meet (Some session) call.Delete w numbers ++ if_none_left session (named_all session call.Delete w numbers).stage
encounters r (Move.Publish clock session asked acks) = published_encounters session asked acks (stage_of r.subscriptions r.items clock)
encounters r (Move.Republish clock session number wanted) =
    all_meet (Some session) (call.Republish (is_some (kept_at number wanted r.subscriptions.table))) (stage_of r.subscriptions r.items clock) (number ∷ [])
encounters r (Move.Timers clock) = all_meet None call.Timer (stage_of r.subscriptions r.items clock) (due_numbers clock r.subscriptions.table.subscriptions)
encounters r (Move.EndSession clock session deleting) =
    let w = stage_of r.subscriptions r.items clock in
    let numbers = (part_at session r.subscriptions.table.sessions).numbers in
    let v = all_met (call.SessionEnd deleting) w numbers in
    let b = Refuses session status.BAD_SESSION_CLOSED in
    all_meet None (call.SessionEnd deleting) w numbers ++ Does v b ∷ Does (beside v b) (Leaves session) ∷ []
encounters r (Move.Shutdown clock) =
    let w = stage_of r.subscriptions r.items clock in
    let numbers = keys_of r.subscriptions.table.subscriptions in
    all_meet None call.Shutdown w numbers ++ Does (all_met call.Shutdown w numbers) (LeavesAll status.BAD_SHUTDOWN) ∷ []
encounters r (Move.Gone conn) = Does (stage_of r.subscriptions r.items any_time) (Loses conn) ∷ []
encounters r (Move.Items clock number asked) = served_encounters number asked (stage_of r.subscriptions r.items clock) (vars_found number r.items r.subscriptions.table)
encounters r (Move.Show changed) = Does (stage_of r.subscriptions r.items any_time) (ShowsItems changed) ∷ []

-- those of all calls, from the first on
abbrev pub all_encounters : Configuration → List Move → List Encounter
all_encounters config moves = of_run encounters (start config) moves

-- ---- the rows

-- the row that fires at an encounter, as it is told
abbrev pub row_at : Scene → Fired
row_at c = fired_in c (row_done (row_of c) c)

abbrev pub rows_at : Encounter → List Fired
rows_at (Meets c) = row_at c ∷ []
rows_at (Does w b) = []

abbrev pub rows_of : Ran → Move → List Fired
rows_of r m = flat_map rows_at (encounters r m)
