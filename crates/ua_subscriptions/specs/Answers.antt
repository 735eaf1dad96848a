-- How Publish requests are answered (IEC 62541-4, "Publish").
use Rattle.std.specs.Prelude.{ℕ, Bool, List}
use Rattle.ua_types.specs.declared.moment.Moment.{Moment}
use Rattle.ua_types.specs.declared.status.Status.{Status}
use Rattle.ua_messages.specs.Headers.{plain_header}
use Rattle.ua_messages.specs.ServiceFaults.{fault_body}
use Rattle.server_messages.specs.declared.reply.Reply.{Reply}
use Rattle.ua_subscription_messages.specs.KeptMessages.{publish_body_around}
use Rattle.ua_subscriptions.specs.declared.messages.KeptMessage.{KeptMessage}
use Rattle.ua_subscriptions.specs.declared.publish_call.PublishCall.{PublishCall}

abbrev pub number_of : KeptMessage → ℕ
number_of message = message.number

abbrev pub reply_to : PublishCall → List ℕ → Reply
reply_to call body = record { origin = call.origin; body = body }

-- the answer that brings a message of a subscription, which keeps those with these numbers
abbrev pub published_of : Moment → PublishCall → ℕ → List ℕ → Bool → List ℕ → Reply
published_of clock call subscription numbers more message =
    reply_to call (publish_body_around (plain_header call.origin.handle (record { 0 = 0 }) clock) subscription numbers more message call.results)

-- the fault with a status
abbrev pub refused_of : Moment → Status → PublishCall → Reply
refused_of clock status call = reply_to call (fault_body call.origin.handle status clock)
