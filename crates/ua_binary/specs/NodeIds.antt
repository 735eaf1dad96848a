-- Ids of nodes (IEC 62541-6, 5.2.2.9): a byte that says the form, and what this form has.
use Rattle.std.specs.Prelude.{◌≢◌, ℕ, ◌^◌, ◌&&◌, List, [], ◌∷◌, ◌++◌, nat_lt, ◌==◌, if◌then◌else◌}
use Rattle.std.specs.Int.{w16, w32}
use Rattle.ua_types.specs.declared.node_id.Identifier.{Identifier}
use Rattle.ua_types.specs.declared.node_id.Identifier.TheVariants as identifier
use Rattle.ua_types.specs.declared.node_id.NodeId.{NodeId}
use Rattle.ua_binary.specs.declared.fault.TakeFault.TheVariants.{Form}
use Rattle.ua_binary.specs.Reading.{Reading, ◌>>=◌, done, refuse}
use Rattle.ua_binary.specs.Numbers.{number_reading, byte_reading, number_encoding, byte_encoding}
use Rattle.ua_binary.specs.Texts.{text_reading, byte_string_reading, text_encoding, byte_string_encoding}
use Rattle.ua_binary.specs.Guids.{guid_reading, guid_encoding}

abbrev pub id : ℕ → Identifier → NodeId
id namespace identifier = record { namespace = namespace; identifier = identifier }

-- what follows a first byte of this form
unfoldable pub after_form_reading : ℕ → Reading NodeId
after_form_reading form =
    if form == 0 then (do
      n ← byte_reading
      done (id 0 (identifier.Numeric n)))
    else if form == 1 then (do
      namespace ← byte_reading
      n ← number_reading w16
      done (id namespace (identifier.Numeric n)))
    else if form == 2 then (do
      namespace ← number_reading w16
      n ← number_reading w32
      done (id namespace (identifier.Numeric n)))
    else if form == 3 then (do
      namespace ← number_reading w16
      t ← text_reading
      done (id namespace (identifier.String t)))
    else if form == 4 then (do
      namespace ← number_reading w16
      g ← guid_reading
      done (id namespace (identifier.Guid g)))
    else if form == 5 then (do
      namespace ← number_reading w16
      b ← byte_string_reading
      done (id namespace (identifier.Opaque b)))
    else refuse Form

unfoldable pub node_id_reading : Reading NodeId
node_id_reading = do
  form ← byte_reading
  after_form_reading form

-- a first byte that announces a number or a Guid, or nothing that is known
abbrev pub SaysNumberOrGuid : List ℕ → Type 0
SaysNumberOrGuid [] = ⊥
SaysNumberOrGuid (form ∷ rest) = (form ≢ 3) × (form ≢ 5)

-- the shortest form of a number in a namespace
abbrev pub numeric_form : ℕ → ℕ → ℕ
numeric_form namespace n =
    if namespace == 0 && nat_lt n (2 ^ 8) then 0
    else if nat_lt namespace (2 ^ 8) && nat_lt n (2 ^ 16) then 1
    else 2

abbrev pub form_of : ℕ → Identifier → ℕ
form_of namespace (identifier.Numeric n) = numeric_form namespace n
form_of namespace (identifier.String t) = 3
form_of namespace (identifier.Guid g) = 4
form_of namespace (identifier.Opaque b) = 5

-- what follows the first byte
abbrev pub numeric_encoding : ℕ → ℕ → List ℕ
numeric_encoding namespace n =
    if namespace == 0 && nat_lt n (2 ^ 8) then byte_encoding n
    else if nat_lt namespace (2 ^ 8) && nat_lt n (2 ^ 16) then byte_encoding namespace ++ number_encoding w16 n
    else number_encoding w16 namespace ++ number_encoding w32 n

abbrev pub after_form_encoding : ℕ → Identifier → List ℕ
after_form_encoding namespace (identifier.Numeric n) = numeric_encoding namespace n
after_form_encoding namespace (identifier.String t) = number_encoding w16 namespace ++ text_encoding t
after_form_encoding namespace (identifier.Guid g) = number_encoding w16 namespace ++ guid_encoding g
after_form_encoding namespace (identifier.Opaque b) = number_encoding w16 namespace ++ byte_string_encoding b

unfoldable pub node_id_encoding : NodeId → List ℕ
node_id_encoding v = byte_encoding (form_of v.namespace v.identifier) ++ after_form_encoding v.namespace v.identifier
