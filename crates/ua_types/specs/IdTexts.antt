-- The texts of node ids: what a text says, and the one text that is written for an id.
use Rattle.std.specs.Prelude.{◌≡◌, ◌≢◌, ◌<◌, ℕ, ◌^◌, List, [], ◌∷◌, ◌++◌, ◌==◌, ◌&&◌, nat_lt, length, codes, Option, Some, None, Result, Ok, Err, if◌then◌else◌}
use Rattle.std.specs.Option.{ok_or}
use Rattle.std.specs.List.{before_first, after_first, list_all}
use Rattle.std.specs.Char.{is_ascii_digit}
use Rattle.std.specs.Str.Parse.{digits_value}
use Rattle.std.specs.Fmt.{decimal}
use Rattle.uuid.specs.Text.{parsed, hyphenated_text, lower}
use Rattle.hex.specs.Hex.{decode_of, encode_lower, IsBytes}
use Rattle.hex.specs.declared.error.FromHexError.{FromHexError}
use Rattle.ua_types.specs.Answers.{◌>>=◌}
use Rattle.ua_types.specs.Guids.{guid_of, guid_bytes, guid_said}
use Rattle.ua_types.specs.declared.node_id.NodeId.{NodeId}
use Rattle.ua_types.specs.declared.node_id.Identifier.{Identifier}
use Rattle.ua_types.specs.declared.node_id.Identifier.TheVariants as identifier
use Rattle.ua_types.specs.declared.id_texts.IdFault.{IdFault}
use Rattle.ua_types.specs.declared.id_texts.IdFault.TheVariants as fault

-- what follows a front, where the text has it
abbrev pub behind : List ℕ → List ℕ → Option (List ℕ)
behind [] t = Some t
behind (c ∷ cs) [] = None
behind (c ∷ cs) (d ∷ t) = if c == d then behind cs t else None

-- where the text has a front, the rest is read by f, and else there is another way
abbrev pub or_else : {A : Type 0} → Option (List ℕ) → (List ℕ → A) → A → A
or_else None f other = other
or_else (Some t) f other = f t

-- one or more decimal digits of a number below the limit
abbrev pub number_of : ℕ → List ℕ → Option ℕ
number_of limit ds =
    if (list_all is_ascii_digit ds && nat_lt 0 (length ds)) && nat_lt (digits_value 10 ds) limit then Some (digits_value 10 ds) else None

-- a text or a byte string holds fewer than 2^31 bytes
abbrev pub held : (Option (List ℕ) → Identifier) → List ℕ → Result Identifier IdFault
held kind bytes = if nat_lt (length bytes) (2 ^ 31) then Ok (kind (Some bytes)) else Err fault.Bytes

abbrev pub numeric_of : List ℕ → Result Identifier IdFault
numeric_of t = do
  number ← ok_or (number_of (2 ^ 32) t) fault.Number
  Ok (identifier.Numeric number)

abbrev pub guid_text_of : List ℕ → Result Identifier IdFault
guid_text_of t = do
  guid ← ok_or (guid_said t) fault.Guid
  Ok (identifier.Guid guid)

abbrev pub opaque_of : Result (List ℕ) FromHexError → Result Identifier IdFault
opaque_of (Ok bytes) = held identifier.Opaque bytes
opaque_of (Err e) = Err fault.Bytes

-- the front says how the rest is read
unfoldable pub identifier_of : List ℕ → Result Identifier IdFault
identifier_of t =
    or_else (behind (codes "i=") t) numeric_of
    (or_else (behind (codes "s=") t) (held identifier.String)
    (or_else (behind (codes "g=") t) guid_text_of
    (or_else (behind (codes "b=") t) (λ digits. opaque_of (decode_of digits))
    (Err fault.Prefix))))

-- an id with its namespace: the number up to the first semicolon, and the identifier after it
unfoldable pub spaced : List ℕ → Result NodeId IdFault
spaced t = do
  namespace ← ok_or (number_of (2 ^ 16) (before_first (λ b. b == 59) t)) fault.Number
  identifier ← identifier_of (after_first (λ b. b == 59) t)
  Ok (record { namespace = namespace; identifier = identifier })

abbrev pub unspaced : List ℕ → Result NodeId IdFault
unspaced t = do
  identifier ← identifier_of t
  Ok (record { namespace = 0; identifier = identifier })

-- the id that a text says, or its leftmost fault
unfoldable pub id_of : List ℕ → Result NodeId IdFault
id_of t = or_else (behind (codes "ns=") t) spaced (unspaced t)

-- what is said without memory: what is plain, and each fault but that of bytes
abbrev pub IsSaidFreely : {A : Type 0} → (A → Type 0) → Result A IdFault → Type 0
IsSaidFreely Plain (Ok x) = Plain x
IsSaidFreely Plain (Err e) = e ≢ fault.Bytes

-- the text that is written for an id
abbrev pub identifier_text : Identifier → List ℕ
identifier_text (identifier.Numeric n) = codes "i=" ++ decimal n
identifier_text (identifier.String None) = codes "s="
identifier_text (identifier.String (Some t)) = codes "s=" ++ t
identifier_text (identifier.Guid g) = codes "g=" ++ hyphenated_text lower (guid_bytes g)
identifier_text (identifier.Opaque None) = codes "b="
identifier_text (identifier.Opaque (Some bytes)) = codes "b=" ++ encode_lower bytes

abbrev pub namespace_text : ℕ → List ℕ
namespace_text n = if n == 0 then [] else codes "ns=" ++ decimal n ++ codes ";"

abbrev pub id_text : NodeId → List ℕ
id_text id = namespace_text id.namespace ++ identifier_text id.identifier

-- the identifier isn't null
abbrev pub IsNamed : Identifier → Type 0
IsNamed (identifier.String None) = ⊥
IsNamed (identifier.Opaque None) = ⊥
IsNamed _ = Unit {0}

-- what holds of each identifier's parts, so that its text is read again
abbrev pub IsReadable : Identifier → Type 0
IsReadable (identifier.Numeric n) = n < 2 ^ 32
IsReadable (identifier.String None) = Unit {0}
IsReadable (identifier.String (Some t)) = length t < 2 ^ 31
IsReadable (identifier.Guid g) = (Some (guid_bytes g) ≡ parsed (hyphenated_text lower (guid_bytes g))) × (guid_of (guid_bytes g) ≡ g)
IsReadable (identifier.Opaque None) = Unit {0}
IsReadable (identifier.Opaque (Some bytes)) = (length bytes < 2 ^ 31) × IsBytes bytes
