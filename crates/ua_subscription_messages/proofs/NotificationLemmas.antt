-- A message with one notification, field by field.
use Rattle.std.proofs.Common.{◌≡◌, ℕ, ◌++◌, append_assoc, append-nil}
use Rattle.std.specs.Int.{w32}
use Rattle.ua_types.specs.declared.extension_object.ExtensionObject.{ExtensionObject}
use Rattle.ua_types.specs.declared.moment.Moment.{Moment}
use Rattle.ua_binary.specs.Numbers.{number_encoding}
use Rattle.ua_binary.specs.Scalars.{moment_encoding}
use Rattle.ua_binary.specs.Arrays.{array_encoding}
use Rattle.ua_binary.specs.ExtensionObjects.{extension_object_encoding}
use Rattle.ua_subscription_messages.specs.Publishing.{notification_message_encoding}
use Rattle.ua_subscription_messages.specs.NotificationMessages.{message_with}

pub message_in_place : (number : ℕ) (time : Moment) (object : ExtensionObject)
    → ((number_encoding w32 number ++ moment_encoding time) ++ number_encoding w32 1) ++ extension_object_encoding object
    ≡ notification_message_encoding (message_with number time object)
unfolding notification_message_encoding array_encoding
message_in_place number time object = simp (append_assoc, append-nil)
