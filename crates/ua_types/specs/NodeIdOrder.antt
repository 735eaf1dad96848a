-- The order of ids, and when two are equal.
use Rattle.std.specs.Prelude.{Bool}
use Rattle.std.specs.declared.cmp.Ordering.{Ordering}
use Rattle.ua_types.specs.declared.guid.Guid.{Guid}
use Rattle.ua_types.specs.declared.node_id.Identifier.{Identifier}
use Rattle.ua_types.specs.declared.node_id.NodeId.{NodeId}
use Rattle.ua_types.specs.contracts.guid.GuidPartialEq.TheImpl as guids
use Rattle.ua_types.specs.contracts.node_id.IdentifierPartialEq.TheImpl as identifiers
use Rattle.ua_types.specs.contracts.node_id.NodeIdPartialEq.TheImpl as ids
use Rattle.ua_types.specs.contracts.node_id.NodeIdOrd.TheImpl as order

-- by namespace, then by the kind of identifier, then by its content
abbrev pub id_cmp : NodeId → NodeId → Ordering
id_cmp = order.ghosts.cmp

abbrev pub same_guid : Guid → Guid → Bool
same_guid = guids.ghosts.eq

abbrev pub same_identifier : Identifier → Identifier → Bool
same_identifier = identifiers.ghosts.eq

abbrev pub same_id : NodeId → NodeId → Bool
same_id = ids.ghosts.eq
