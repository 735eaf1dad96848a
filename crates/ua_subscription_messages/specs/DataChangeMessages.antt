-- A message with values of monitored items, while it is written (NotificationMessage and DataChangeNotification, IEC 62541-4,
-- section 7).
use Rattle.std.specs.Prelude.{ℕ, ◌+◌, List, [], ◌++◌, Some, fold}
use Rattle.std.specs.Int.{w32}
use Rattle.ua_types.specs.NodeIds.{numeric_id}
use Rattle.ua_types.specs.declared.moment.Moment.{Moment}
use Rattle.ua_binary.specs.Numbers.{number_encoding, byte_encoding}
use Rattle.ua_binary.specs.NodeIds.{node_id_encoding}
use Rattle.ua_binary.specs.Scalars.{moment_encoding}
use Rattle.ua_messages.specs.Structures.{object_around}
use Rattle.ua_messages.specs.declared.type_ids.TheConstants.{DATA_CHANGE_NOTIFICATION}
use Rattle.ua_subscription_messages.specs.declared.publishing.MonitoredItemNotification.{MonitoredItemNotification}
use Rattle.ua_subscription_messages.specs.NotificationMessages.{message_with}
use Rattle.ua_subscription_messages.specs.Publishing.{notification_message_encoding, monitored_item_notification_encoding, data_change_notification_encoding}

-- what stands before the length of the one object of the message; the text of the notifications so far; and how many they are
pub record MessageDraft : Type 0 where
  pub front : List ℕ
  pub notes : List ℕ
  pub count : ℕ

-- the number, the time, that there is one object, its type, and that its body is a byte string
unfoldable pub front_encoding : ℕ → Moment → List ℕ
front_encoding number time =
    number_encoding w32 number
    ++ moment_encoding time
    ++ number_encoding w32 1
    ++ node_id_encoding (numeric_id 0 DATA_CHANGE_NOTIFICATION)
    ++ byte_encoding 1

-- a message with this number and time, and no notification yet
abbrev pub begun : ℕ → Moment → MessageDraft
begun number time = record { front = front_encoding number time; notes = []; count = 0 }

-- one notification more
abbrev pub with_note : MessageDraft → MonitoredItemNotification → MessageDraft
with_note draft note = record draft { notes = draft.notes ++ monitored_item_notification_encoding note; count = draft.count + 1 }

abbrev pub with_notes : MessageDraft → List MonitoredItemNotification → MessageDraft
with_notes draft notes = fold with_note draft notes

-- the message with these notifications
unfoldable pub data_change_message : ℕ → Moment → List MonitoredItemNotification → List ℕ
data_change_message number time notes =
    notification_message_encoding
    (message_with number time (object_around DATA_CHANGE_NOTIFICATION (data_change_notification_encoding (record { monitored_items = Some notes; diagnostic_infos = record {} }))))
