-- The order of node ids that the code derives is that by cases.
use Rattle.std.proofs.Common.{◌≡◌, refl, ap}
use Rattle.std.specs.Ordering.{nat_cmp, ordering_then}
use Rattle.ua_types.specs.contracts.node_id.IdentifierOrd.TheImpl as identifiers_order
use Rattle.ua_types.specs.declared.node_id.Identifier.{Identifier}
use Rattle.ua_types.specs.declared.node_id.Identifier.TheVariants as identifiers
use Rattle.ua_types.specs.IdOrder.{identifier_order, IdsGoByNamespace}

identifiers_by_cases : (a b : Identifier) → identifiers_order.ghosts.cmp a b ≡ identifier_order a b
identifiers_by_cases (identifiers.Numeric a) (identifiers.Numeric b) = refl
identifiers_by_cases (identifiers.Numeric a) (identifiers.String b) = refl
identifiers_by_cases (identifiers.Numeric a) (identifiers.Guid b) = refl
identifiers_by_cases (identifiers.Numeric a) (identifiers.Opaque b) = refl
identifiers_by_cases (identifiers.String a) (identifiers.Numeric b) = refl
identifiers_by_cases (identifiers.String a) (identifiers.String b) = refl
identifiers_by_cases (identifiers.String a) (identifiers.Guid b) = refl
identifiers_by_cases (identifiers.String a) (identifiers.Opaque b) = refl
identifiers_by_cases (identifiers.Guid a) (identifiers.Numeric b) = refl
identifiers_by_cases (identifiers.Guid a) (identifiers.String b) = refl
identifiers_by_cases (identifiers.Guid a) (identifiers.Guid b) = refl
identifiers_by_cases (identifiers.Guid a) (identifiers.Opaque b) = refl
identifiers_by_cases (identifiers.Opaque a) (identifiers.Numeric b) = refl
identifiers_by_cases (identifiers.Opaque a) (identifiers.String b) = refl
identifiers_by_cases (identifiers.Opaque a) (identifiers.Guid b) = refl
identifiers_by_cases (identifiers.Opaque a) (identifiers.Opaque b) = refl

pub ids_go_by_namespace : IdsGoByNamespace
ids_go_by_namespace a b = ap (ordering_then (nat_cmp a.namespace b.namespace)) (identifiers_by_cases a.identifier b.identifier)
