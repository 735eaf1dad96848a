-- Names in a namespace (IEC 62541-6, 5.2.2.13).
use Rattle.std.specs.Prelude.{ℕ, List, ◌++◌}
use Rattle.std.specs.Int.{w16}
use Rattle.ua_types.specs.declared.qualified_name.QualifiedName.{QualifiedName}
use Rattle.ua_binary.specs.Reading.{Reading, ◌>>=◌, done}
use Rattle.ua_binary.specs.Numbers.{number_reading, number_encoding}
use Rattle.ua_binary.specs.Texts.{text_reading, text_encoding}

unfoldable pub qualified_name_reading : Reading QualifiedName
qualified_name_reading = do
  namespace ← number_reading w16
  name ← text_reading
  done (record { namespace = namespace; name = name })

unfoldable pub qualified_name_encoding : QualifiedName → List ℕ
qualified_name_encoding v = number_encoding w16 v.namespace ++ text_encoding v.name
