-- A note of a time-out is the whole answer to the next Publish request of its session.
use Rattle.std.proofs.Common.{◌≡◌, ℕ, Bool, false, cond, List, [], ◌∷◌, ◌++◌, length, nat_lt, Option, Some, refl, ap, ◌∙◌}
use Rattle.ua_types.specs.declared.status.TheConstants.Status as status
use Rattle.server_messages.specs.declared.reply.Reply.{Reply}
use Rattle.server_messages.specs.declared.setting.Setting.{Setting}
use Rattle.ua_subscription_messages.specs.declared.publishing.SubscriptionAcknowledgement.{SubscriptionAcknowledgement}
use Rattle.ua_subscriptions.specs.Answers.{published_of}
use Rattle.ua_subscriptions.specs.Messages.{timeout_message}
use Rattle.ua_subscriptions.specs.Publishing.{acknowledged_all, note_of, without_note, noted_or_answered, with_results, published}
use Rattle.ua_subscriptions.specs.declared.publish_call.PublishCall.{PublishCall}
use Rattle.ua_subscriptions.specs.declared.session_part.TimeoutNote.{TimeoutNote}
use Rattle.ua_subscriptions.specs.Tables.{Stage}
use Rattle.ua_services.specs.Publish.{publish_acknowledged, publish_call}
use Rattle.ua_services.specs.Serving.{faulted}
use Rattle.ua_services.specs.SubServing.{called_alone, stage_at}
use Rattle.ua_services.specs.declared.caller.Caller.{Caller}
use Rattle.ua_services.specs.declared.services.Services.{Services}

told_replies : (state : Services) (w : Stage) → (called_alone state w).replies ≡ w.round.replies
unfolding called_alone
told_replies state w = refl

noted : (session : ℕ) (asked : PublishCall) (acks : List SubscriptionAcknowledgement) (w : Stage) (note : TimeoutNote) → note_of session w.table.sessions ≡ Some note → w.round.replies ≡ [] →
    (published session asked acks w).round.replies
    ≡ published_of w.round.clock (with_results asked (acknowledged_all session w.table.subscriptions acks).results) note.subscription [] false (timeout_message note.number w.round.clock) ∷ []
unfolding published
noted session asked acks w note is none =
    let all = acknowledged_all session w.table.subscriptions acks in
    ap (λ (o : Option TimeoutNote). (noted_or_answered o session (with_results asked all.results) (record { round = w.round; table = record { subscriptions = all.subscriptions; sessions = without_note session w.table.sessions }; items = w.items })).round.replies) is
    ∙ ap (λ (rs : List Reply). rs ++ published_of w.round.clock (with_results asked all.results) note.subscription [] false (timeout_message note.number w.round.clock) ∷ []) none

pub time_outs_noted : (setting : Setting) (caller : Caller) (session : ℕ) (acks : List SubscriptionAcknowledgement) (state : Services) (note : TimeoutNote) →
    nat_lt setting.config.operations (length acks) ≡ false → note_of session state.subscriptions.table.sessions ≡ Some note →
    (publish_acknowledged setting caller session state acks).replies
    ≡ published_of setting.clock (with_results (publish_call caller) (acknowledged_all session state.subscriptions.table.subscriptions acks).results) note.subscription [] false (timeout_message note.number setting.clock) ∷ []
time_outs_noted setting caller session acks state note few is =
    let w = stage_at setting state in
    ap (λ (b : Bool). (cond b (faulted state caller status.BAD_TOO_MANY_OPERATIONS setting.clock) (called_alone state (published session (publish_call caller) acks w))).replies) few
    ∙ told_replies state (published session (publish_call caller) acks w) ∙ noted session (publish_call caller) acks w note is refl
