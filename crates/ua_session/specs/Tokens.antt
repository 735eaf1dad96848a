-- How sessions are named.
use Rattle.std.specs.Prelude.{ℕ, ◌==◌, List, ◌++◌, length, take, drop, Option, Some, None, if◌then◌else◌}
use Rattle.std.specs.Int.{w32, to_le_bytes, from_le_bytes}
use Rattle.ua_types.specs.NodeIds.{numeric_id}
use Rattle.ua_types.specs.declared.node_id.Identifier.{Identifier}
use Rattle.ua_types.specs.declared.node_id.Identifier.TheVariants.{Opaque}
use Rattle.ua_types.specs.declared.node_id.NodeId.{NodeId}

-- sessions are of the server's own namespace, 1
abbrev pub session_id_of : ℕ → NodeId
session_id_of number = numeric_id 1 number

-- the first half of the random bytes with which a connection was opened
abbrev pub secret_of : List ℕ → List ℕ
secret_of key = take 16 key

-- the secret and the number, the lowest byte first, as opaque bytes of namespace 0
abbrev pub token_of : List ℕ → ℕ → NodeId
token_of secret number = record { namespace = 0; identifier = Opaque (Some (secret ++ to_le_bytes w32 number)) }

-- opaque bytes of the right length, cut in two
abbrev pub parts_in : List ℕ → Option (List ℕ × ℕ)
parts_in bytes = if length bytes == 20 then Some (take 16 bytes, from_le_bytes w32 (drop 16 bytes)) else None

abbrev pub parts_by : Identifier → Option (List ℕ × ℕ)
parts_by (Opaque (Some bytes)) = parts_in bytes
parts_by other = None

-- the secret and the number of the one session whose token this may be
abbrev pub parts_of : NodeId → Option (List ℕ × ℕ)
parts_of token = if token.namespace == 0 then parts_by token.identifier else None
