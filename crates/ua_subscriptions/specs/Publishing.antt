-- Publish: acknowledgements, notes of time-outs, and who answers (IEC 62541-4, "Publish").
use Rattle.std.specs.Prelude.{ℕ, false, List, [], ◌∷◌, ◌++◌, fold, drop, Option, Some, None, if◌then◌else◌}
use Rattle.std.specs.BTreeMap.{is_at}
use Rattle.std.specs.List.{position, remove}
use Rattle.std.specs.Map.{set_value}
use Rattle.std.specs.Option.{is_some}
use Rattle.std.specs.Ordering.{nat_cmp}
use Rattle.ua_types.specs.declared.status.Status.{Status}
use Rattle.ua_types.specs.declared.status.TheConstants.Status as status
use Rattle.ua_subscription_messages.specs.declared.publishing.SubscriptionAcknowledgement.{SubscriptionAcknowledgement}
use Rattle.ua_subscriptions.specs.declared.call.Call.TheVariants.{Publish}
use Rattle.ua_subscriptions.specs.declared.messages.KeptMessage.{KeptMessage}
use Rattle.ua_subscriptions.specs.declared.publish_call.PublishCall.{PublishCall}
use Rattle.ua_subscriptions.specs.declared.ranks.Rank.{Rank}
use Rattle.ua_subscriptions.specs.declared.session_part.SessionSubscriptions.{SessionSubscriptions}
use Rattle.ua_subscriptions.specs.declared.session_part.TimeoutNote.{TimeoutNote}
use Rattle.ua_subscriptions.specs.declared.subscription.Subscription.{Subscription}
use Rattle.ua_subscriptions.specs.declared.round.Round.{Round}
use Rattle.ua_subscriptions.specs.Answers.{published_of, refused_of}
use Rattle.ua_subscriptions.specs.Messages.{has_number, timeout_message}
use Rattle.ua_subscriptions.specs.Queues.{first_of}
use Rattle.ua_subscriptions.specs.Ranks.{waiting_of}
use Rattle.ua_subscriptions.specs.Scenes.{with_reply}
use Rattle.ua_subscriptions.specs.Subscriptions.{is_of}
use Rattle.ua_subscriptions.specs.Tables.{TableState, Stage, all_met, part_at, subscription_at}

-- ---- acknowledgements

abbrev pub without_at : List KeptMessage → Option ℕ → List KeptMessage
without_at kept None = kept
without_at kept (Some place) = remove kept place

-- the first message with a number is kept no longer
abbrev pub forgotten : ℕ → List KeptMessage → List KeptMessage
forgotten number kept = without_at kept (position (has_number number) kept)

-- what becomes of an acknowledgement, and the subscriptions after it
pub record Acknowledged : Type 0 where
  pub status : Status
  pub subscriptions : List (ℕ × Subscription)

abbrev pub acknowledgement_status : ℕ → List KeptMessage → Status
acknowledgement_status number kept = if is_some (position (has_number number) kept) then status.GOOD else status.BAD_SEQUENCE_NUMBER_UNKNOWN

abbrev pub without_kept : ℕ → Subscription → Subscription
without_kept number s = record s { kept = forgotten number s.kept }

abbrev pub acknowledged_by : ℕ → List (ℕ × Subscription) → SubscriptionAcknowledgement → Option Subscription → Acknowledged
acknowledged_by session subscriptions a None = record { status = status.BAD_SUBSCRIPTION_ID_INVALID; subscriptions = subscriptions }
acknowledged_by session subscriptions a (Some s) =
    if is_of s.session session
    then record {
      status = acknowledgement_status a.sequence_number s.kept;
      subscriptions = set_value (is_at (nat_cmp a.subscription_id)) subscriptions (without_kept a.sequence_number s);
    }
    else record { status = status.BAD_SUBSCRIPTION_ID_INVALID; subscriptions = subscriptions }

-- a message of a subscription of the session is acknowledged
unfoldable pub acknowledged : ℕ → List (ℕ × Subscription) → SubscriptionAcknowledgement → Acknowledged
acknowledged session subscriptions a = acknowledged_by session subscriptions a (subscription_at a.subscription_id subscriptions)

-- what becomes of several
pub record AllAcknowledged : Type 0 where
  pub results : List Status
  pub subscriptions : List (ℕ × Subscription)

abbrev pub with_acknowledged : ℕ → AllAcknowledged → SubscriptionAcknowledgement → AllAcknowledged
with_acknowledged session before a =
    let one = acknowledged session before.subscriptions a in
    record { results = before.results ++ one.status ∷ []; subscriptions = one.subscriptions }

abbrev pub acknowledged_all : ℕ → List (ℕ × Subscription) → List SubscriptionAcknowledgement → AllAcknowledged
acknowledged_all session subscriptions acks = fold (with_acknowledged session) (record { results = []; subscriptions = subscriptions }) acks

-- ---- notes of time-outs

-- the oldest note of a session
abbrev pub note_of : ℕ → List (ℕ × SessionSubscriptions) → Option TimeoutNote
note_of session sessions = first_of (part_at session sessions).notes

abbrev pub part_without_note : SessionSubscriptions → SessionSubscriptions
part_without_note part = record part { notes = drop 1 part.notes }

abbrev pub without_note : ℕ → List (ℕ × SessionSubscriptions) → List (ℕ × SessionSubscriptions)
without_note session sessions = set_value (is_at (nat_cmp session)) sessions (part_without_note (part_at session sessions))

-- a request is answered by the note that a subscription has timed out: under that one's number, with nothing kept
abbrev pub note_told : Round → PublishCall → TimeoutNote → Round
note_told round call note = with_reply round (published_of round.clock call note.subscription [] false (timeout_message note.number round.clock))

-- ---- who answers

abbrev pub with_round : Stage → Round → Stage
with_round w round = record w { round = round }

abbrev pub asked_by : Stage → PublishCall → Stage
asked_by w call = let round : Round = w.round in with_round w (record round { asked = Some call })

-- the best of some subscriptions that waits alone, or else all of them
abbrev pub best_or_all : Option Rank → List ℕ → List ℕ
best_or_all (Some rank) numbers = rank.number ∷ []
best_or_all None numbers = numbers

abbrev pub asked_numbers : Stage → List ℕ → List ℕ
asked_numbers w numbers = best_or_all (first_of (waiting_of w.table.subscriptions numbers)) numbers

-- they meet a request
unfoldable pub answered_to : List ℕ → PublishCall → Stage → Stage
answered_to [] call w = with_round w (with_reply w.round (refused_of w.round.clock status.BAD_NO_SUBSCRIPTION call))
answered_to (n ∷ ns) call w = all_met Publish (asked_by w call) (asked_numbers w (n ∷ ns))

abbrev pub noted_or_answered : Option TimeoutNote → ℕ → PublishCall → Stage → Stage
noted_or_answered (Some note) session call w = with_round w (note_told w.round call note)
noted_or_answered None session call w = answered_to (part_at session w.table.sessions).numbers call w

abbrev pub with_results : PublishCall → List Status → PublishCall
with_results call results = record call { results = results }

-- acknowledgements are applied, and the oldest note is taken
abbrev pub ready : ℕ → List SubscriptionAcknowledgement → Stage → Stage
ready session acks w =
    let table : TableState = w.table in
    record w { table = record { subscriptions = (acknowledged_all session table.subscriptions acks).subscriptions; sessions = without_note session table.sessions } }

-- the oldest note is told, or else the session's subscriptions see the request
unfoldable pub published : ℕ → PublishCall → List SubscriptionAcknowledgement → Stage → Stage
published session call acks w =
    let table : TableState = w.table in
    noted_or_answered (note_of session table.sessions) session (with_results call (acknowledged_all session table.subscriptions acks).results) (ready session acks w)
