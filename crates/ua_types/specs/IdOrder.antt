-- The order of node ids, by which the nodes of an address space stand, by cases.
use Rattle.std.specs.Prelude.{◌≡◌, ℕ, List, Option}
use Rattle.std.specs.Cmp.Lexicographic.{slice_cmp}
use Rattle.std.specs.Option.{option_cmp}
use Rattle.std.specs.Ordering.{nat_cmp, ordering_then}
use Rattle.std.specs.declared.cmp.Ordering.{Ordering}
use Rattle.std.specs.declared.cmp.Ordering.TheVariants.{Less, Greater}
use Rattle.ua_types.specs.NodeIdOrder.{id_cmp}
use Rattle.ua_types.specs.declared.guid.Guid.{Guid}
use Rattle.ua_types.specs.declared.node_id.Identifier.{Identifier}
use Rattle.ua_types.specs.declared.node_id.Identifier.TheVariants as identifiers
use Rattle.ua_types.specs.declared.node_id.NodeId.{NodeId}

-- by the first byte that differs, and a text before those that it begins
abbrev pub by_bytes : List ℕ → List ℕ → Ordering
by_bytes = slice_cmp nat_cmp

-- null first
abbrev pub null_first : Option (List ℕ) → Option (List ℕ) → Ordering
null_first = option_cmp by_bytes

-- part by part
abbrev pub guid_order : Guid → Guid → Ordering
guid_order a b =
    ordering_then (nat_cmp a.data1 b.data1) (ordering_then (nat_cmp a.data2 b.data2) (ordering_then (nat_cmp a.data3 b.data3) (by_bytes a.data4 b.data4)))

-- numbers before texts, texts before Guids, and Guids before opaque bytes
abbrev pub identifier_order : Identifier → Identifier → Ordering
identifier_order (identifiers.Numeric a) (identifiers.Numeric b) = nat_cmp a b
identifier_order (identifiers.Numeric a) other = Less
identifier_order (identifiers.String a) (identifiers.Numeric b) = Greater
identifier_order (identifiers.String a) (identifiers.String b) = null_first a b
identifier_order (identifiers.String a) other = Less
identifier_order (identifiers.Guid a) (identifiers.Guid b) = guid_order a b
identifier_order (identifiers.Guid a) (identifiers.Opaque b) = Less
identifier_order (identifiers.Guid a) other = Greater
identifier_order (identifiers.Opaque a) (identifiers.Opaque b) = null_first a b
identifier_order (identifiers.Opaque a) other = Greater

-- by the number of the namespace, and within one by the identifier
abbrev pub id_order : NodeId → NodeId → Ordering
id_order a b = ordering_then (nat_cmp a.namespace b.namespace) (identifier_order a.identifier b.identifier)

abbrev pub IdsGoByNamespace : Type 0
IdsGoByNamespace = (a b : NodeId) → id_cmp a b ≡ id_order a b
