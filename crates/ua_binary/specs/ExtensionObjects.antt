-- Structures of any type (IEC 62541-6, 5.2.2.15): the id of the encoding, a byte that says what the
-- body is (0 none, 1 a byte string, 2 an XML element), and the body with its length.
use Rattle.std.specs.Prelude.{ℕ, List, ◌++◌, ◌==◌, if◌then◌else◌}
use Rattle.ua_types.specs.declared.extension_object.ExtensionObjectBody.{ExtensionObjectBody}
use Rattle.ua_types.specs.declared.extension_object.ExtensionObjectBody.TheVariants.{Absent, Binary, Xml}
use Rattle.ua_types.specs.declared.extension_object.ExtensionObject.{ExtensionObject}
use Rattle.ua_binary.specs.declared.fault.TakeFault.TheVariants.{Form}
use Rattle.ua_binary.specs.Reading.{Reading, ◌>>=◌, done, refuse}
use Rattle.ua_binary.specs.Numbers.{byte_reading, byte_encoding}
use Rattle.ua_binary.specs.Texts.{byte_string_reading, byte_string_encoding}
use Rattle.ua_binary.specs.NodeIds.{node_id_reading, node_id_encoding}

-- a body of this form
abbrev pub body_reading : ℕ → Reading ExtensionObjectBody
body_reading form =
    if form == 0 then done Absent
    else if form == 1 then (do
      b ← byte_string_reading
      done (Binary b))
    else if form == 2 then (do
      b ← byte_string_reading
      done (Xml b))
    else refuse Form

unfoldable pub extension_object_reading : Reading ExtensionObject
extension_object_reading = do
  type_id ← node_id_reading
  form ← byte_reading
  body ← body_reading form
  done (record { type_id = type_id; body = body })

abbrev pub body_encoding : ExtensionObjectBody → List ℕ
body_encoding Absent = byte_encoding 0
body_encoding (Binary b) = byte_encoding 1 ++ byte_string_encoding b
body_encoding (Xml b) = byte_encoding 2 ++ byte_string_encoding b

unfoldable pub extension_object_encoding : ExtensionObject → List ℕ
extension_object_encoding v = node_id_encoding v.type_id ++ body_encoding v.body
