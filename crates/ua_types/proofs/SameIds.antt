-- Ids that compare alike are the same.
use Rattle.std.proofs.Common.{◌≡◌, true, ◌==◌, ◌&&◌, Option, Some, None, List, ℕ, refl, ap, rules}
use Rattle.std.specs.Option.{option_eq}
use Rattle.std.specs.Cmp.Lexicographic.{pointwise}
use Rattle.std.proofs.lemmas.Bool.{and_parts, false≢true, eqb-true}
use Rattle.std.proofs.lemmas.Slice.Eq.{bytes_eq-Decides}
use Rattle.ua_types.specs.declared.node_id.NodeId.{NodeId}
use Rattle.ua_types.specs.declared.node_id.Identifier.{Identifier}
use Rattle.ua_types.specs.declared.node_id.Identifier.TheVariants as identifier
use Rattle.ua_types.specs.declared.guid.Guid.{Guid}
use Rattle.ua_types.specs.NodeIdOrder.{same_id, same_identifier, same_guid}

same_bytes_true : (a b : Option (List ℕ)) → option_eq (pointwise ◌==◌) a b ≡ true → a ≡ b
same_bytes_true None None h = refl
same_bytes_true (Some s) (Some t) h = ap Some ((bytes_eq-Decides s t).0 h)
same_bytes_true None (Some t) h = absurd (false≢true h)
same_bytes_true (Some s) None h = absurd (false≢true h)

same_bytes_itself : (a : Option (List ℕ)) → option_eq (pointwise ◌==◌) a a ≡ true
same_bytes_itself None = refl
same_bytes_itself (Some s) = (bytes_eq-Decides s s).1 refl

same_guid_true : (a b : Guid) → same_guid a b ≡ true → a ≡ b
same_guid_true a b h =
    let p = and_parts (a.data1 == b.data1) ((a.data2 == b.data2) && ((a.data3 == b.data3) && pointwise ◌==◌ a.data4 b.data4)) h in
    let q = and_parts (a.data2 == b.data2) ((a.data3 == b.data3) && pointwise ◌==◌ a.data4 b.data4) p.1 in
    let r = and_parts (a.data3 == b.data3) (pointwise ◌==◌ a.data4 b.data4) q.1 in
    let data1 = eqb-true a.data1 b.data1 p.0 in
    let data2 = eqb-true a.data2 b.data2 q.0 in
    let data3 = eqb-true a.data3 b.data3 r.0 in
    let data4 = (bytes_eq-Decides a.data4 b.data4).0 r.1 in
    λ i. record { data1 = data1 i; data2 = data2 i; data3 = data3 i; data4 = data4 i }

same_guid_itself : (a : Guid) → same_guid a a ≡ true
same_guid_itself a = rw ((bytes_eq-Decides a.data4 a.data4).1 refl) (search rules)

same_identifier_true : (a b : Identifier) → same_identifier a b ≡ true → a ≡ b
same_identifier_true (identifier.Numeric m) (identifier.Numeric n) h = ap identifier.Numeric (eqb-true m n h)
same_identifier_true (identifier.String s) (identifier.String t) h = ap identifier.String (same_bytes_true s t h)
same_identifier_true (identifier.Guid s) (identifier.Guid t) h = ap identifier.Guid (same_guid_true s t h)
same_identifier_true (identifier.Opaque s) (identifier.Opaque t) h = ap identifier.Opaque (same_bytes_true s t h)
same_identifier_true a b h = absurd (false≢true h)

same_identifier_itself : (a : Identifier) → same_identifier a a ≡ true
same_identifier_itself (identifier.Numeric m) = search rules
same_identifier_itself (identifier.String s) = same_bytes_itself s
same_identifier_itself (identifier.Guid g) = same_guid_itself g
same_identifier_itself (identifier.Opaque s) = same_bytes_itself s

pub same_id_true : (a b : NodeId) → same_id a b ≡ true → a ≡ b
same_id_true a b h =
    let parts = and_parts (a.namespace == b.namespace) (same_identifier a.identifier b.identifier) h in
    let first = eqb-true a.namespace b.namespace parts.0 in
    let second = same_identifier_true a.identifier b.identifier parts.1 in
    λ i. record { namespace = first i; identifier = second i }

pub same_id_itself : (a : NodeId) → same_id a a ≡ true
same_id_itself a = rw (same_identifier_itself a.identifier) (search rules)
