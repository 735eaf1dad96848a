-- Messages with one notification (NotificationMessage, IEC 62541-4, section 7).
use Rattle.std.specs.Prelude.{ℕ, [], ◌∷◌, Some}
use Rattle.ua_types.specs.declared.extension_object.ExtensionObject.{ExtensionObject}
use Rattle.ua_types.specs.declared.moment.Moment.{Moment}
use Rattle.ua_subscription_messages.specs.declared.publishing.NotificationMessage.{NotificationMessage}

abbrev pub message_with : ℕ → Moment → ExtensionObject → NotificationMessage
message_with number time notification = record { sequence_number = number; publish_time = time; notification_data = Some (notification ∷ []) }
