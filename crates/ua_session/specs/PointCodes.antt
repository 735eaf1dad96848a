-- How continuation points are stored where they are a part of a value.
use mathlib.Core.Logic.{inl, inr}
use Rattle.std.specs.Prelude.{◌≡◌, ◌⊎◌, ℕ, ℤ, Bool, List, Option, refl}
use Rattle.std.specs.Coded.{Coded, code_by, coded×, coded⊎, coded_ℕ, coded_ℤ, coded_bool, coded_list, coded_option}
use Rattle.std.specs.FinMap.{FinMap, code}
use Rattle.std.specs.Ordering.{nat_cmp}
use Rattle.ua_types.specs.declared.guid.Guid.{Guid}
use Rattle.ua_types.specs.declared.node_id.Identifier.{Identifier}
use Rattle.ua_types.specs.declared.node_id.Identifier.TheVariants as identifiers
use Rattle.ua_types.specs.declared.node_id.NodeId.{NodeId}
use Rattle.ua_service_messages.specs.declared.browsing.BrowseDescription.{BrowseDescription}
use Rattle.ua_session.specs.Points.{PointsState}
use Rattle.ua_session.specs.declared.points.BrowsePoint.{BrowsePoint}
use Rattle.ua_session.specs.declared.points.HistoryPoint.{HistoryPoint}
use Rattle.ua_session.specs.declared.points.Point.{Point}
use Rattle.ua_session.specs.declared.points.Point.TheVariants as points

abbrev pub guid_code : Coded Guid
guid_code =
    code_by
    (ℕ × (ℕ × (ℕ × List ℕ)))
    (coded× coded_ℕ (coded× coded_ℕ (coded× coded_ℕ (coded_list coded_ℕ))))
    (λ g. (g.data1, (g.data2, (g.data3, g.data4))))
    (λ p. record { data1 = p.0; data2 = p.1.0; data3 = p.1.1.0; data4 = p.1.1.1 })
    (λ _. refl)

-- an identifier by its kind
abbrev pub Kinds : Type 0
Kinds = ℕ ⊎ (Option (List ℕ) ⊎ (Guid ⊎ Option (List ℕ)))

abbrev pub kind_of : Identifier → Kinds
kind_of (identifiers.Numeric n) = inl n
kind_of (identifiers.String t) = inr (inl t)
kind_of (identifiers.Guid g) = inr (inr (inl g))
kind_of (identifiers.Opaque b) = inr (inr (inr b))

abbrev pub of_kind : Kinds → Identifier
of_kind (inl n) = identifiers.Numeric n
of_kind (inr (inl t)) = identifiers.String t
of_kind (inr (inr (inl g))) = identifiers.Guid g
of_kind (inr (inr (inr b))) = identifiers.Opaque b

pub same_kind : (i : Identifier) → of_kind (kind_of i) ≡ i
same_kind (identifiers.Numeric n) = refl
same_kind (identifiers.String t) = refl
same_kind (identifiers.Guid g) = refl
same_kind (identifiers.Opaque b) = refl

abbrev pub bytes_code : Coded (Option (List ℕ))
bytes_code = coded_option (coded_list coded_ℕ)

abbrev pub identifier_code : Coded Identifier
identifier_code = code_by Kinds (coded⊎ coded_ℕ (coded⊎ bytes_code (coded⊎ guid_code bytes_code))) kind_of of_kind same_kind

abbrev pub node_id_code : Coded NodeId
node_id_code = code_by (ℕ × Identifier) (coded× coded_ℕ identifier_code) (λ i. (i.namespace, i.identifier)) (λ p. record { namespace = p.0; identifier = p.1 }) (λ _. refl)

abbrev pub description_code : Coded BrowseDescription
description_code =
    code_by
    (NodeId × (ℤ × (NodeId × (Bool × (ℕ × ℕ)))))
    (coded× node_id_code (coded× coded_ℤ (coded× node_id_code (coded× coded_bool (coded× coded_ℕ coded_ℕ)))))
    (λ d. (d.node_id, (d.browse_direction.0, (d.reference_type_id, (d.include_subtypes, (d.node_class_mask, d.result_mask))))))
    (λ p. record {
      node_id = p.0;
      browse_direction = record { 0 = p.1.0 };
      reference_type_id = p.1.1.0;
      include_subtypes = p.1.1.1.0;
      node_class_mask = p.1.1.1.1.0;
      result_mask = p.1.1.1.1.1;
    })
    (λ _. refl)

abbrev pub browse_point_code : Coded BrowsePoint
browse_point_code =
    code_by
    (BrowseDescription × (ℕ × ℕ))
    (coded× description_code (coded× coded_ℕ coded_ℕ))
    (λ p. (p.description, (p.size, p.next)))
    (λ t. record { description = t.0; size = t.1.0; next = t.1.1 })
    (λ _. refl)

abbrev pub history_point_code : Coded HistoryPoint
history_point_code =
    code_by
    (NodeId × (ℤ × (ℤ × (ℕ × ℤ))))
    (coded× node_id_code (coded× coded_ℤ (coded× coded_ℤ (coded× coded_ℕ coded_ℤ))))
    (λ p. (p.node_id, (p.start.0, (p.end.0, (p.count, p.last.0)))))
    (λ t. record { node_id = t.0; start = record { 0 = t.1.0 }; end = record { 0 = t.1.1.0 }; count = t.1.1.1.0; last = record { 0 = t.1.1.1.1 } })
    (λ _. refl)

abbrev pub point_parts : Point → BrowsePoint ⊎ HistoryPoint
point_parts (points.Browse p) = inl p
point_parts (points.History p) = inr p

abbrev pub of_point_parts : BrowsePoint ⊎ HistoryPoint → Point
of_point_parts (inl p) = points.Browse p
of_point_parts (inr p) = points.History p

pub same_point : (p : Point) → of_point_parts (point_parts p) ≡ p
same_point (points.Browse p) = refl
same_point (points.History p) = refl

abbrev pub point_code : Coded Point
point_code = code_by (BrowsePoint ⊎ HistoryPoint) (coded⊎ browse_point_code history_point_code) point_parts of_point_parts same_point

abbrev pub points_code : Coded PointsState
points_code =
    code_by
    (ℕ × (ℕ × FinMap nat_cmp Point))
    (coded× coded_ℕ (coded× coded_ℕ (code coded_ℕ point_code)))
    (λ s. (s.most, (s.made, s.held)))
    (λ p. record { most = p.0; made = p.1.0; held = p.1.1 })
    (λ _. refl)
