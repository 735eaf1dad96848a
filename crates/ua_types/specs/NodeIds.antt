-- Ids of nodes.
use Rattle.std.specs.Prelude.{⊤, ℕ, Bool, false, ◌==◌, ◌&&◌}
use Rattle.ua_types.specs.declared.node_id.Identifier.{Identifier}
use Rattle.ua_types.specs.declared.node_id.Identifier.TheVariants.{Numeric, String, Guid, Opaque}
use Rattle.ua_types.specs.declared.node_id.NodeId.{NodeId}

-- the id with this number in a namespace
abbrev pub numeric_id : ℕ → ℕ → NodeId
numeric_id namespace number = record { namespace = namespace; identifier = Numeric number }

abbrev pub is_zero : Identifier → Bool
is_zero (Numeric number) = number == 0
is_zero other = false

-- number 0 of namespace 0, and no other
abbrev pub is_null_id : NodeId → Bool
is_null_id id = id.namespace == 0 && is_zero id.identifier

-- an identifier that is a number or a Guid
abbrev pub IsPlain : Identifier → Type 0
IsPlain (Numeric number) = ⊤
IsPlain (String text) = ⊥
IsPlain (Guid guid) = ⊤
IsPlain (Opaque bytes) = ⊥

abbrev pub IsPlainId : NodeId → Type 0
IsPlainId id = IsPlain id.identifier
