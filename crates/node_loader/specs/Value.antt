-- Values in a file: the words of the types, and what is read as a value of each, or as a list of them.
use Rattle.std.specs.Prelude.{ℕ, pos, neg_ℤ, ◌^◌, nat_lt, List, codes, Bool, Option, Some, is_some, Result, Ok, Err, if◌then◌else◌}
use Rattle.std.specs.Option.{ok_or}
use Rattle.hex.specs.Hex.{decode_of}
use Rattle.toml.specs.Data.{Data, Items, Members, get_member, as_array, as_bool, as_integer, as_str}
use Rattle.ua_types.specs.Guids.{guid_said}
use Rattle.ua_types.specs.declared.guid.Guid.{Guid}
use Rattle.ua_types.specs.ValueTypes.{value_type_named}
use Rattle.ua_types.specs.declared.content.Content.{Content}
use Rattle.ua_types.specs.declared.content.Content.TheVariants.{Array, Scalar}
use Rattle.ua_types.specs.declared.variant.Variant.{Variant}
use Rattle.ua_types.specs.declared.variant.Variant.TheVariants as variants
use Rattle.ua_types.specs.Answers.{◌>>=◌}
use Rattle.ua_space.specs.declared.node.ValueRank.{ValueRank}
use Rattle.ua_space.specs.declared.node.ValueRank.TheVariants as ranks
use Rattle.node_loader.specs.Elements.{bytes_of, elements, truth_of, integer_of, unsigned_of, signed_of, text_of, moment_of, guid_of, octets_of, id_of, status_of}
use Rattle.node_loader.specs.Ids.{id_at}
use Rattle.node_loader.specs.Lists.{all_items, count}
use Rattle.node_loader.specs.Keys.{of_kind, required, required_boolean, required_integer, required_text, required_word, signed_at, unsigned_at}
use Rattle.node_loader.specs.declared.fault.Cause.{Cause}
use Rattle.node_loader.specs.declared.fault.Cause.TheVariants.{OutOfRange, WrongKind}
use Rattle.ua_types.specs.declared.value_type.ValueType.{ValueType}
use Rattle.ua_types.specs.declared.value_type.ValueType.TheVariants as types

-- the type that a word names
abbrev pub type_of : List ℕ → Result ValueType Cause
type_of word = ok_or (value_type_named word) OutOfRange

unfoldable pub guid_at : List ℕ → Members → Result Guid Cause
guid_at key ms = do
  text ← required_word key ms
  ok_or (guid_said text) OutOfRange

unfoldable pub bytes_at : List ℕ → Members → Result (Option (List ℕ)) Cause
bytes_at key ms = do
  digits ← required_word key ms
  bytes_of (decode_of digits)

unfoldable pub text_value : Members → Result (Option (List ℕ)) Cause
text_value ms = do
  text ← required_text (codes "value") ms
  Ok (Some text)

-- what is read as a value of a type
abbrev pub seen : {A : Type 0} → (A → Variant) → Result A Cause → Result Variant Cause
seen kind (Ok x) = Ok (kind x)
seen kind (Err c) = Err c

unfoldable pub value_of : ValueType → ℕ → Members → Result Variant Cause
value_of types.Boolean highest ms = seen (λ b. variants.Boolean (Scalar b)) (required_boolean (codes "value") ms)
value_of types.SByte highest ms = seen (λ n. variants.SByte (Scalar n)) (signed_at (codes "value") (neg_ℤ (pos 128)) (pos 127) ms)
value_of types.Byte highest ms = seen (λ n. variants.Byte (Scalar n)) (unsigned_at (codes "value") 255 ms)
value_of types.Int16 highest ms = seen (λ n. variants.Int16 (Scalar n)) (signed_at (codes "value") (neg_ℤ (pos 32768)) (pos 32767) ms)
value_of types.UInt16 highest ms = seen (λ n. variants.UInt16 (Scalar n)) (unsigned_at (codes "value") 65535 ms)
value_of types.Int32 highest ms = seen (λ n. variants.Int32 (Scalar n)) (signed_at (codes "value") (neg_ℤ (pos 2147483648)) (pos 2147483647) ms)
value_of types.UInt32 highest ms = seen (λ n. variants.UInt32 (Scalar n)) (unsigned_at (codes "value") 4294967295 ms)
value_of types.Int64 highest ms = seen (λ n. variants.Int64 (Scalar n)) (required_integer (codes "value") ms)
value_of types.UInt64 highest ms = seen (λ n. variants.UInt64 (Scalar n)) (unsigned_at (codes "value") 9223372036854775807 ms)
value_of types.String highest ms = seen (λ t. variants.String (Scalar t)) (text_value ms)
value_of types.DateTime highest ms = seen (λ n. variants.DateTime (Scalar (record { 0 = n }))) (required_integer (codes "value") ms)
value_of types.Guid highest ms = seen (λ g. variants.Guid (Scalar g)) (guid_at (codes "value") ms)
value_of types.ByteString highest ms = seen (λ b. variants.ByteString (Scalar b)) (bytes_at (codes "value") ms)
value_of types.NodeId highest ms = seen (λ id. variants.NodeId (Scalar id)) (id_at highest (codes "value") ms)
value_of types.StatusCode highest ms = seen (λ n. variants.StatusCode (Scalar (record { 0 = n }))) (unsigned_at (codes "value") 4294967295 ms)

-- ---- lists

-- the value is of the kind that values of the type are written as
abbrev pub has_kind : ValueType → Data → Bool
has_kind types.Boolean d = is_some (as_bool d)
has_kind types.String d = is_some (as_str d)
has_kind types.Guid d = is_some (as_str d)
has_kind types.ByteString d = is_some (as_str d)
has_kind types.NodeId d = is_some (as_str d)
has_kind _ d = is_some (as_integer d)

abbrev pub as_list : {A : Type 0} → Result (List A) Cause → Result (Content A) Cause
as_list (Ok xs) = Ok (Array (Some xs))
as_list (Err c) = Err c

-- a list of values of a type
unfoldable pub list_of : ValueType → ℕ → Items → Result Variant Cause
list_of types.Boolean highest ds = seen (λ c. variants.Boolean c) (as_list (elements truth_of ds))
list_of types.SByte highest ds = seen (λ c. variants.SByte c) (as_list (elements (signed_of (neg_ℤ (pos 128)) (pos 127)) ds))
list_of types.Byte highest ds = seen (λ c. variants.Byte c) (as_list (elements (unsigned_of 255) ds))
list_of types.Int16 highest ds = seen (λ c. variants.Int16 c) (as_list (elements (signed_of (neg_ℤ (pos 32768)) (pos 32767)) ds))
list_of types.UInt16 highest ds = seen (λ c. variants.UInt16 c) (as_list (elements (unsigned_of 65535) ds))
list_of types.Int32 highest ds = seen (λ c. variants.Int32 c) (as_list (elements (signed_of (neg_ℤ (pos 2147483648)) (pos 2147483647)) ds))
list_of types.UInt32 highest ds = seen (λ c. variants.UInt32 c) (as_list (elements (unsigned_of 4294967295) ds))
list_of types.Int64 highest ds = seen (λ c. variants.Int64 c) (as_list (elements integer_of ds))
list_of types.UInt64 highest ds = seen (λ c. variants.UInt64 c) (as_list (elements (unsigned_of 9223372036854775807) ds))
list_of types.String highest ds = seen (λ c. variants.String c) (as_list (elements text_of ds))
list_of types.DateTime highest ds = seen (λ c. variants.DateTime c) (as_list (elements moment_of ds))
list_of types.Guid highest ds = seen (λ c. variants.Guid c) (as_list (elements guid_of ds))
list_of types.ByteString highest ds = seen (λ c. variants.ByteString c) (as_list (elements octets_of ds))
list_of types.NodeId highest ds = seen (λ c. variants.NodeId c) (as_list (elements (id_of highest) ds))
list_of types.StatusCode highest ds = seen (λ c. variants.StatusCode c) (as_list (elements status_of ds))

-- first that all elements are of the kind, then how many there are, then each in order
abbrev pub judged_list : ValueType → ℕ → Items → Result Variant Cause
judged_list kind highest ds =
    if all_items (has_kind kind) ds then (if nat_lt (count ds) (2 ^ 31) then list_of kind highest ds else Err OutOfRange)
    else Err WrongKind

unfoldable pub list_value : ValueType → ℕ → Members → Result Variant Cause
list_value kind highest ms = do
  found ← of_kind as_array (get_member (codes "value") ms)
  items ← required found
  judged_list kind highest items

-- one value, or a list of them
abbrev pub ranked_value : ValueType → ValueRank → ℕ → Members → Result Variant Cause
ranked_value kind ranks.Scalar highest ms = value_of kind highest ms
ranked_value kind ranks.List highest ms = list_value kind highest ms
