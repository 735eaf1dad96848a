-- Identifiers that are looked at in place, as the identifiers that they are.
use Rattle.ua_types.specs.declared.node_id.Identifier.{Identifier}
use Rattle.ua_types.specs.declared.node_id.Identifier.TheVariants as identifiers
use Rattle.ua_views.specs.declared.node_ids.IdentifierView.{IdentifierView}
use Rattle.ua_views.specs.declared.node_ids.IdentifierView.TheVariants as views

abbrev pub identifier_of : IdentifierView → Identifier
identifier_of (views.Numeric n) = identifiers.Numeric n
identifier_of (views.String t) = identifiers.String t
identifier_of (views.Guid g) = identifiers.Guid g
identifier_of (views.Opaque b) = identifiers.Opaque b
