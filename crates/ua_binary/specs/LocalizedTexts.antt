-- Texts for people (IEC 62541-6, 5.2.2.14): bit 1 says that the locale follows, bit 2 the text.
-- An absent part is null, and other bits have no meaning.
use Rattle.std.specs.Prelude.{ℕ, List, ◌++◌, ◌+◌, ◌/◌, ◌%◌, Option, None, is_some, if◌then◌else◌}
use Rattle.ua_types.specs.declared.localized_text.LocalizedText.{LocalizedText}
use Rattle.ua_binary.specs.Reading.{Reading, ◌>>=◌, done}
use Rattle.ua_binary.specs.Numbers.{byte_reading, byte_encoding}
use Rattle.ua_binary.specs.Texts.{text_reading}
use Rattle.ua_binary.specs.Parts.{where_set, text_unless_null}

unfoldable pub localized_text_reading : Reading LocalizedText
localized_text_reading = do
  mask ← byte_reading
  locale ← where_set (mask % 2) None text_reading
  t ← where_set (mask / 2 % 2) None text_reading
  done (record { locale = locale; text = t })

abbrev pub bit_of : Option (List ℕ) → ℕ → ℕ
bit_of part bit = if is_some part then bit else 0

unfoldable pub localized_text_encoding : LocalizedText → List ℕ
localized_text_encoding v =
    byte_encoding (bit_of v.locale 1 + bit_of v.text 2) ++ text_unless_null v.locale ++ text_unless_null v.text
