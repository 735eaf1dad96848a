-- The calls of subscriptions answer no connections but those that asked or that waited.
use Rattle.std.proofs.Common.{ℕ, Bool, true, false, List, [], ◌∷◌, Option, Some, None, fold, Result}
use Rattle.std.specs.Prelude.{map}
use Rattle.std.specs.Option.{is_some}
use Rattle.std.specs.BTreeMap.{is_at}
use Rattle.std.specs.Map.{keys_of, values_of, remove_entry}
use Rattle.std.specs.Ordering.{nat_cmp}
use Rattle.server_messages.specs.declared.reply.Reply.{Reply}
use Rattle.ua_types.specs.declared.moment.Moment.{Moment}
use Rattle.ua_types.specs.declared.status.Status.{Status}
use Rattle.ua_types.specs.declared.status.TheConstants.Status as status
use Rattle.ua_subscription_messages.specs.declared.publishing.SubscriptionAcknowledgement.{SubscriptionAcknowledgement}
use Rattle.ua_subscriptions.specs.declared.call.Call.{Call}
use Rattle.ua_subscriptions.specs.declared.call.Call.TheVariants.{Create, Delete, Modify, Publish, Republish, SessionEnd, Shutdown, Timer}
use Rattle.ua_subscriptions.specs.declared.making.Revised.{Revised}
use Rattle.ua_subscriptions.specs.declared.publish_call.PublishCall.{PublishCall}
use Rattle.ua_subscriptions.specs.declared.session_part.SessionSubscriptions.{SessionSubscriptions}
use Rattle.ua_subscriptions.specs.declared.session_part.TimeoutNote.{TimeoutNote}
use Rattle.ua_subscriptions.specs.declared.settings.Settings.{Settings}
use Rattle.ua_subscriptions.specs.Answers.{refused_of}
use Rattle.ua_subscriptions.specs.Ending.{without_session, session_ended, all_requests, all_left, shut_down}
use Rattle.ua_subscriptions.specs.Firing.{fired}
use Rattle.ua_subscriptions.specs.Making.{refused_one, added, with_number, modified, republished, timed, kept_at}
use Rattle.ua_subscriptions.specs.Named.{Outcome, outcome, is_own, own_met, named_one, named_all, all_refused, without_requests, has_none, deleted}
use Rattle.ua_subscriptions.specs.Owing.{AllBy, QueuedBy, RepliedTo, OwesOnly}
use Rattle.ua_subscriptions.specs.Publishing.{acknowledged_all, note_of, part_without_note, with_results, asked_by, asked_numbers, answered_to, noted_or_answered, published}
use Rattle.ua_subscriptions.specs.Ranks.{due_numbers}
use Rattle.ua_subscriptions.specs.Scenes.{scene}
use Rattle.ua_subscriptions.specs.Subscriptions.{unborn, no_part}
use Rattle.ua_subscriptions.specs.Tables.{Stage, with_call, all_met, part_at}
use Rattle.ua_subscriptions.proofs.Choosing.{either}
use Rattle.ua_subscriptions.proofs.OwingRows.{all_append, calls_append, fired_only, one_more}
use Rattle.ua_subscriptions.proofs.OwingTables.{set_only, removed_only, inserted_only, part_only, met_only, all_met_only}

module _ (Such : ℕ → Type 0) where
  -- ---- subscriptions that are named

  pub own_met_only : (session : ℕ) (call : Call) (w : Stage) (number : ℕ) → OwesOnly Such w → OwesOnly Such (own_met session call w number).stage
  unfolding own_met
  own_met_only session call w number h = either (λ (o : Outcome Status). OwesOnly Such o.stage) (is_own w.table session number) _ _ (met_only Such w number call h) h

  named_fold : (session : ℕ) (call : Call) (numbers : List ℕ) (before : Outcome (List Status)) → OwesOnly Such before.stage → OwesOnly Such (fold (named_one session call) before numbers).stage
  named_fold session call [] before h = h
  named_fold session call (number ∷ numbers) before h = named_fold session call numbers (named_one session call before number) (own_met_only session call before.stage number h)

  pub named_only : (session : ℕ) (call : Call) (w : Stage) (numbers : List ℕ) → OwesOnly Such w → OwesOnly Such (named_all session call w numbers).stage
  named_only session call w numbers h = named_fold session call numbers (outcome [] w) h

  -- ---- requests that wait in vain

  all_refused_to : (clock : Moment) (code : Status) (calls : List PublishCall) → AllBy Such calls → RepliedTo Such (map (refused_of clock code) calls)
  all_refused_to clock code [] h = tt
  all_refused_to clock code (call ∷ calls) h = (h.0, all_refused_to clock code calls h.1)

  pub all_refused_only : (session : ℕ) (code : Status) (w : Stage) → OwesOnly Such w → OwesOnly Such (all_refused session code w)
  unfolding all_refused
  all_refused_only session code w h =
      let part : SessionSubscriptions = part_at session w.table.sessions in
      record {
        round = record {
          replies = all_append (λ (reply : Reply). Such reply.origin.conn) w.round.replies (map (refused_of w.round.clock code) part.requests) h.round.replies (all_refused_to w.round.clock code part.requests (part_only Such session w.table.sessions h.queued));
          asked = h.round.asked;
        };
        queued = set_only Such session w.table.sessions (without_requests part) h.queued tt;
      }

  pub deleted_only : (session : ℕ) (w : Stage) (numbers : List ℕ) → OwesOnly Such w → OwesOnly Such (deleted session w numbers).stage
  unfolding deleted
  deleted_only session w numbers h =
      let named = (named_all session Delete w numbers).stage in
      let after = named_only session Delete w numbers h in
      either (OwesOnly Such) (has_none session named.table) _ _ (all_refused_only session status.BAD_NO_SUBSCRIPTION named after) after

  -- ---- subscriptions that are made and changed

  pub refused_one_only : (session : ℕ) (asked : Settings) (enabled : Bool) (w : Stage) → OwesOnly Such w → OwesOnly Such (refused_one session asked enabled w)
  unfolding refused_one
  refused_one_only session asked enabled w h =
      let c = scene (with_call w.round 0 (Create true asked enabled)) (unborn session) no_part w.items in
      let after = fired_only Such c (record { round = record { replies = h.round.replies; asked = h.round.asked }; requests = tt }) in
      record { round = after.round; queued = h.queued }

  pub added_only : (session number : ℕ) (asked : Settings) (enabled : Bool) (w : Stage) → OwesOnly Such w → OwesOnly Such (added session number asked enabled w)
  unfolding added
  added_only session number asked enabled w h =
      let part : SessionSubscriptions = part_at session w.table.sessions in
      let c = scene (with_call w.round number (Create false asked enabled)) (unborn session) part w.items in
      let after = fired_only Such c (record { round = record { replies = h.round.replies; asked = h.round.asked }; requests = part_only Such session w.table.sessions h.queued }) in
      record {
        round = after.round;
        queued = inserted_only Such session (remove_entry (is_at (nat_cmp session)) w.table.sessions) (with_number number (fired c).part) (removed_only Such session w.table.sessions h.queued) after.requests;
      }

  pub modified_only : (session number : ℕ) (asked : Settings) (w : Stage) → OwesOnly Such w → OwesOnly Such (modified session number asked w).stage
  unfolding modified
  modified_only session number asked w h = either (λ (o : Outcome (Result Revised Status)). OwesOnly Such o.stage) (is_own w.table session number) _ _ (met_only Such w number (Modify asked) h) h

  pub republished_only : (session number wanted : ℕ) (w : Stage) → OwesOnly Such w → OwesOnly Such (republished session number wanted w).stage
  unfolding republished
  republished_only session number wanted w h = either (λ (o : Outcome (Result (List ℕ) Status)). OwesOnly Such o.stage) (is_own w.table session number) _ _ (met_only Such w number (Republish (is_some (kept_at number wanted w.table))) h) h

  pub timed_only : (w : Stage) → OwesOnly Such w → OwesOnly Such (timed w)
  timed_only w h = all_met_only Such Timer (due_numbers w.round.clock w.table.subscriptions) w h

  -- ---- Publish

  answered_to_only : (numbers : List ℕ) (call : PublishCall) (w : Stage) → Such call.origin.conn → OwesOnly Such w → OwesOnly Such (answered_to numbers call w)
  unfolding answered_to
  answered_to_only [] call w a h = record { round = record { replies = one_more Such w.round.replies _ h.round.replies a; asked = h.round.asked }; queued = h.queued }
  answered_to_only (n ∷ ns) call w a h =
      all_met_only Such Publish (asked_numbers w (n ∷ ns)) (asked_by w call) (record { round = record { replies = h.round.replies; asked = a }; queued = h.queued })

  answered_by_only : (note : Option TimeoutNote) (session : ℕ) (call : PublishCall) (w : Stage) → Such call.origin.conn → OwesOnly Such w → OwesOnly Such (noted_or_answered note session call w)
  answered_by_only (Some note) session call w a h = record { round = record { replies = one_more Such w.round.replies _ h.round.replies a; asked = h.round.asked }; queued = h.queued }
  answered_by_only None session call w a h = answered_to_only (part_at session w.table.sessions).numbers call w a h

  pub published_only : (session : ℕ) (call : PublishCall) (acks : List SubscriptionAcknowledgement) (w : Stage) → Such call.origin.conn → OwesOnly Such w → OwesOnly Such (published session call acks w)
  unfolding published
  published_only session call acks w a h =
      let part : SessionSubscriptions = part_at session w.table.sessions in
      let all = acknowledged_all session w.table.subscriptions acks in
      answered_by_only (note_of session w.table.sessions) session (with_results call all.results) _ a
      (record {
        round = h.round;
        queued = set_only Such session w.table.sessions (part_without_note part) h.queued (part_only Such session w.table.sessions h.queued);
      })

  -- ---- the end of a session

  without_session_only : (session : ℕ) (w : Stage) → OwesOnly Such w → OwesOnly Such (without_session session w)
  without_session_only session w h = record { round = h.round; queued = removed_only Such session w.table.sessions h.queued }

  pub session_ended_only : (session : ℕ) (deleting : Bool) (w : Stage) → OwesOnly Such w → OwesOnly Such (session_ended session deleting w)
  unfolding session_ended
  session_ended_only session deleting w h =
      let numbers = (part_at session w.table.sessions).numbers in
      let met = all_met (SessionEnd deleting) w numbers in
      without_session_only session (all_refused session status.BAD_SESSION_CLOSED met) (all_refused_only session status.BAD_SESSION_CLOSED met (all_met_only Such (SessionEnd deleting) numbers w h))

  -- ---- a server's shutdown

  all_requests_by : (sessions : List (ℕ × SessionSubscriptions)) → QueuedBy Such sessions → AllBy Such (all_requests (values_of sessions))
  all_requests_by [] h = tt
  all_requests_by (e ∷ es) h = calls_append Such e.1.requests (all_requests (values_of es)) h.0 (all_requests_by es h.1)

  all_left_only : (code : Status) (w : Stage) → OwesOnly Such w → OwesOnly Such (all_left code w)
  all_left_only code w h =
      let calls = all_requests (values_of w.table.sessions) in
      record {
        round = record {
          replies = all_append (λ (reply : Reply). Such reply.origin.conn) w.round.replies (map (refused_of w.round.clock code) calls) h.round.replies (all_refused_to w.round.clock code calls (all_requests_by w.table.sessions h.queued));
          asked = h.round.asked;
        };
        queued = tt;
      }

  pub shut_down_only : (w : Stage) → OwesOnly Such w → OwesOnly Such (shut_down w)
  unfolding shut_down
  shut_down_only w h =
      let numbers = keys_of w.table.subscriptions in
      all_left_only status.BAD_SHUTDOWN (all_met Shutdown w numbers) (all_met_only Such Shutdown numbers w h)
