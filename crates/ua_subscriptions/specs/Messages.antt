-- Messages of subscriptions, as their bytes (NotificationMessage, IEC 62541-4, section 7).
use Rattle.std.specs.Prelude.{ℕ, ◌+◌, ◌==◌, Bool, List, [], ◌∷◌, Some, if◌then◌else◌}
use Rattle.ua_types.specs.declared.extension_object.ExtensionObject.{ExtensionObject}
use Rattle.ua_types.specs.declared.moment.Moment.{Moment}
use Rattle.ua_types.specs.declared.status.TheConstants.Status as status
use Rattle.ua_messages.specs.Structures.{object_around}
use Rattle.ua_messages.specs.declared.type_ids.TheConstants.{STATUS_CHANGE_NOTIFICATION}
use Rattle.ua_subscription_messages.specs.Publishing.{notification_message_encoding, status_change_notification_encoding}
use Rattle.ua_subscriptions.specs.declared.messages.KeptMessage.{KeptMessage}

-- the number after this one, which is 1 after the last of 32 bits
abbrev pub number_after : ℕ → ℕ
number_after number = if number == 4294967295 then 1 else number + 1

abbrev pub message_of : ℕ → Moment → List ExtensionObject → List ℕ
message_of number clock notifications = notification_message_encoding (record { sequence_number = number; publish_time = clock; notification_data = Some notifications })

-- a message with nothing to tell
unfoldable pub keep_alive_message : ℕ → Moment → List ℕ
keep_alive_message number clock = message_of number clock []

-- the message that the subscription has timed out
unfoldable pub timeout_message : ℕ → Moment → List ℕ
timeout_message number clock =
    message_of number clock (object_around STATUS_CHANGE_NOTIFICATION (status_change_notification_encoding (record { status = status.BAD_TIMEOUT; diagnostic_info = record {} })) ∷ [])

abbrev pub has_number : ℕ → KeptMessage → Bool
has_number number message = message.number == number
