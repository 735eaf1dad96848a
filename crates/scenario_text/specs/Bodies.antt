-- Bodies that are read whole.
use Rattle.std.specs.Prelude.{◌≡◌, ℕ, List, [], Ok}
use Rattle.ua_messages.specs.Bodies.{body_encoding}
use Rattle.ua_messages.specs.Requests.{requested_encoding, requested_reading}
use Rattle.ua_messages.specs.declared.headers.RequestHeader.{RequestHeader}
use Rattle.ua_messages.specs.declared.requests.Requested.{Requested}
use Rattle.ua_types.specs.NodeIds.{numeric_id}
use Rattle.ua_types.specs.declared.node_id.NodeId.{NodeId}
use Rattle.ua_binary.specs.NodeIds.{node_id_reading}
use Rattle.ua_binary.specs.Reading.{Reading, ◌>>=◌, done}

-- the id of a type, and then a value
unfoldable pub identified : {A : Type 0} → Reading A → Reading (NodeId × A)
identified fields = do
  id ← node_id_reading
  message ← fields
  done (id, message)

-- the body is read as the id of this type and then as this value, and nothing is behind it
abbrev pub IsWholeBody : {A : Type 0} → Reading A → ℕ → A → List ℕ → Type 0
IsWholeBody reading type_id message body = identified reading body ≡ Ok ((numeric_id 0 type_id, message), [])

-- ---- requests

abbrev pub requested : {F : Type 0} → RequestHeader → F → Requested F
requested header fields = record { request_header = header; fields = fields }

-- the body of a request: the id of its type, the header, and the fields
abbrev pub request_encoding : {F : Type 0} → (F → List ℕ) → ℕ → RequestHeader → F → List ℕ
request_encoding encoding type_id header fields = body_encoding (requested_encoding encoding) type_id (requested header fields)

-- the body is read as the id of this type, then as this header and these fields, and nothing is behind them
abbrev pub IsWholeRequest : {F : Type 0} → Reading F → ℕ → RequestHeader → F → List ℕ → Type 0
IsWholeRequest reading type_id header fields body = IsWholeBody (requested_reading reading) type_id (requested header fields) body
