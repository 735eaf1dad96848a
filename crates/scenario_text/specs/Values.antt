-- Keys, bytes, texts and values to write.
use Rattle.std.specs.Prelude.{ℕ, List, length, codes, Bool, true, false, ◌&&◌, ◌==◌, Option, Some, None, option_map, Result, Ok, Err, if◌then◌else◌}
use Rattle.std.specs.Option.{ok_or}
use Rattle.hex.specs.Hex.{decode_of, decode_sized}
use Rattle.hex.specs.declared.error.FromHexError.{FromHexError}
use Rattle.ua_types.specs.IdTexts.{behind, or_else}
use Rattle.ua_types.specs.ValueTypes.{value_type_named}
use Rattle.ua_types.specs.declared.content.Content.TheVariants.{Scalar}
use Rattle.ua_types.specs.declared.variant.Variant.{Variant}
use Rattle.ua_types.specs.declared.variant.Variant.TheVariants as variants
use Rattle.scenario_text.specs.Elements.{seen, octets_of, boolean_of, sbyte_of, byte_of, int16_of, uint16_of, int32_of, uint32_of, int64_of, uint64_of, moment_of, guid_of, byte_string_of, node_id_of, status_of, content_of}
use Rattle.scenario_text.specs.Readings.{Reading, ◌>>=◌, done, judged}
use Rattle.scenario_text.specs.Words.{Spelled, has, before, behind_first, spelled, word, text}
use Rattle.scenario_text.specs.declared.fault.Cause.{Cause}
use Rattle.scenario_text.specs.declared.fault.Cause.TheVariants.{Word, Value}
use Rattle.ua_types.specs.declared.value_type.ValueType.{ValueType}
use Rattle.ua_types.specs.declared.value_type.ValueType.TheVariants as types

-- a connection's key of 32 bytes
abbrev pub key_of : Result (List ℕ) FromHexError → Result (List ℕ) Cause
key_of (Ok bytes) = Ok bytes
key_of (Err e) = Err Value

-- ---- values of all types

-- a text has to stand in quotes
abbrev pub quoted_value : Spelled → Result Variant Cause
quoted_value w = if w.1 then Ok (variants.String (Scalar (Some w.0))) else Err Value

-- a value of a type, or a list of values of it, by its word. There are no lists of texts.
unfoldable pub value_of : ValueType → Bool → Spelled → Result Variant Cause
value_of types.Boolean is_list w = seen variants.Boolean (content_of boolean_of is_list w.0)
value_of types.SByte is_list w = seen variants.SByte (content_of sbyte_of is_list w.0)
value_of types.Byte is_list w = seen variants.Byte (content_of byte_of is_list w.0)
value_of types.Int16 is_list w = seen variants.Int16 (content_of int16_of is_list w.0)
value_of types.UInt16 is_list w = seen variants.UInt16 (content_of uint16_of is_list w.0)
value_of types.Int32 is_list w = seen variants.Int32 (content_of int32_of is_list w.0)
value_of types.UInt32 is_list w = seen variants.UInt32 (content_of uint32_of is_list w.0)
value_of types.Int64 is_list w = seen variants.Int64 (content_of int64_of is_list w.0)
value_of types.UInt64 is_list w = seen variants.UInt64 (content_of uint64_of is_list w.0)
value_of types.String is_list w = quoted_value w
value_of types.DateTime is_list w = seen variants.DateTime (content_of moment_of is_list w.0)
value_of types.Guid is_list w = seen variants.Guid (content_of guid_of is_list w.0)
value_of types.ByteString is_list w = seen variants.ByteString (content_of byte_string_of is_list w.0)
value_of types.NodeId is_list w = seen variants.NodeId (content_of node_id_of is_list w.0)
value_of types.StatusCode is_list w = seen variants.StatusCode (content_of status_of is_list w.0)

-- the type of a list's elements; a String isn't one
abbrev pub element_type : Option ValueType → Result (ValueType × Bool) Cause
element_type None = Err Word
element_type (Some types.String) = Err Word
element_type (Some kind) = Ok (kind, true)

-- behind a bracket, up to the closing one at the end
unfoldable pub bracketed : List ℕ → Result (ValueType × Bool) Cause
bracketed t =
    if has 93 t && length (behind_first 93 t) == 0 then element_type (value_type_named (before 93 t)) else Err Word

-- the type that a word names, and whether it stands in brackets, for a list
unfoldable pub named_type : List ℕ → Result (ValueType × Bool) Cause
named_type t = or_else (behind (codes "[") t) bracketed (ok_or (option_map (λ kind. (kind, false)) (value_type_named t)) Word)

-- ---- as words of a line

unfoldable pub octets_reading : Reading (List ℕ)
octets_reading = do
  t ← word
  judged (octets_of (decode_of t))

unfoldable pub key_reading : Reading (List ℕ)
key_reading = do
  t ← word
  judged (key_of (decode_sized t 32))

unfoldable pub text_reading : Reading (Option (List ℕ))
text_reading = do
  t ← text
  done (Some t)

-- any word as a text, quoted or not
unfoldable pub range_reading : Reading (Option (List ℕ))
range_reading = do
  t ← word
  done (Some t)

-- a word that names a type, and a value of it or a list of such values
unfoldable pub value_reading : Reading Variant
value_reading = do
  t ← word
  kind ← judged (named_type t)
  w ← spelled
  judged (value_of kind.0 kind.1 w)
