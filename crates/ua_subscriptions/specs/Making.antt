-- Subscriptions that are made, changed, asked for a message again, or whose timer comes (IEC 62541-4, "Subscription
-- Service Set").
use Rattle.std.specs.Prelude.{ℕ, Bool, true, false, List, find, Option, Some, None, Result, Ok, Err, if◌then◌else◌}
use Rattle.std.specs.BTreeMap.{is_at, insert_entry}
use Rattle.std.specs.BTreeSet.{insert_key}
use Rattle.std.specs.Map.{remove_entry}
use Rattle.std.specs.Option.{is_some, ok_or}
use Rattle.std.specs.Ordering.{nat_cmp}
use Rattle.ua_types.specs.declared.status.Status.{Status}
use Rattle.ua_types.specs.declared.status.TheConstants.Status as status
use Rattle.ua_subscriptions.specs.declared.call.Call.TheVariants.{Create, Modify, Republish, Timer}
use Rattle.ua_subscriptions.specs.declared.making.Revised.{Revised}
use Rattle.ua_subscriptions.specs.declared.messages.KeptMessage.{KeptMessage}
use Rattle.ua_subscriptions.specs.declared.session_part.SessionSubscriptions.{SessionSubscriptions}
use Rattle.ua_subscriptions.specs.declared.settings.Settings.{Settings}
use Rattle.ua_subscriptions.specs.declared.subscription.Subscription.{Subscription}
use Rattle.ua_subscriptions.specs.Firing.{fired}
use Rattle.ua_subscriptions.specs.Messages.{has_number}
use Rattle.ua_subscriptions.specs.Named.{Outcome, outcome, is_own}
use Rattle.ua_subscriptions.specs.Ranks.{due_numbers}
use Rattle.ua_subscriptions.specs.Scenes.{Scene, scene}
use Rattle.ua_subscriptions.specs.Settings.{revised_keep_alive_count, revised_lifetime_count}
use Rattle.ua_subscriptions.specs.Subscriptions.{unborn, no_part}
use Rattle.ua_subscriptions.specs.Tables.{TableState, Stage, with_call, met, all_met, part_at, subscription_at}

-- ---- CreateSubscription

abbrev pub revised_of : Settings → Revised
revised_of asked = record { keep_alive_count = revised_keep_alive_count asked.keep_alive_count; lifetime_count = revised_lifetime_count (revised_keep_alive_count asked.keep_alive_count) asked.lifetime_count }

abbrev pub refused_scene : ℕ → Settings → Bool → Stage → Scene
refused_scene session asked enabled w = fired (scene (with_call w.round 0 (Create true asked enabled)) (unborn session) no_part w.items)

-- one is refused: only the row is told
unfoldable pub refused_one : ℕ → Settings → Bool → Stage → Stage
refused_one session asked enabled w =
    let c = refused_scene session asked enabled w in
    record w { round = c.round; items = c.items }

abbrev pub added_scene : ℕ → ℕ → Settings → Bool → Stage → Scene
added_scene session number asked enabled w =
    fired (scene (with_call w.round number (Create false asked enabled)) (unborn session) (part_at session w.table.sessions) w.items)

abbrev pub with_number : ℕ → SessionSubscriptions → SessionSubscriptions
with_number number part = record part { numbers = insert_key nat_cmp part.numbers number }

-- one begins, under a number
unfoldable pub added : ℕ → ℕ → Settings → Bool → Stage → Stage
added session number asked enabled w =
    let c = added_scene session number asked enabled w in
    record {
      round = c.round;
      table = record {
        subscriptions = insert_entry nat_cmp w.table.subscriptions number c.subscription;
        sessions = insert_entry nat_cmp (remove_entry (is_at (nat_cmp session)) w.table.sessions) session (with_number number c.part);
      };
      items = c.items;
    }

-- ---- ModifySubscription

unfoldable pub modified : ℕ → ℕ → Settings → Stage → Outcome (Result Revised Status)
modified session number asked w =
    if is_own w.table session number
    then outcome (Ok (revised_of asked)) (met w number (Modify asked))
    else outcome (Err status.BAD_SUBSCRIPTION_ID_INVALID) w

-- ---- Republish

abbrev pub bytes_of : Option KeptMessage → Option (List ℕ)
bytes_of None = None
bytes_of (Some message) = Some message.bytes

abbrev pub kept_bytes_by : ℕ → Option Subscription → Option (List ℕ)
kept_bytes_by wanted None = None
kept_bytes_by wanted (Some s) = bytes_of (find (has_number wanted) s.kept)

-- the message of a subscription with a number, as it was first sent
abbrev pub kept_at : ℕ → ℕ → TableState → Option (List ℕ)
kept_at number wanted table = kept_bytes_by wanted (subscription_at number table.subscriptions)

unfoldable pub republished : ℕ → ℕ → ℕ → Stage → Outcome (Result (List ℕ) Status)
republished session number wanted w =
    let kept = kept_at number wanted w.table in
    if is_own w.table session number
    then outcome (ok_or kept status.BAD_MESSAGE_NOT_AVAILABLE) (met w number (Republish (is_some kept)))
    else outcome (Err status.BAD_SUBSCRIPTION_ID_INVALID) w

-- ---- the timers

-- those that are due fire the row of their timer, the best first
abbrev pub timed : Stage → Stage
timed w = all_met Timer w (due_numbers w.round.clock w.table.subscriptions)
