-- Subtypes: chains of HasSubtype references (IEC 62541-3, "HasSubtype ReferenceType").
use Rattle.std.specs.Prelude.{◌≡◌, ℕ, zero, suc, List, Bool, ◌&&◌, ◌||◌, length, Contains}
use Rattle.std.specs.List.{list_any}
use Rattle.ua_types.specs.NodeIds.{numeric_id}
use Rattle.ua_types.specs.NodeIdOrder.{same_id}
use Rattle.ua_types.specs.declared.node_id.NodeId.{NodeId}
use Rattle.ua_space.specs.declared.triple.Triple.{Triple}

-- the reference type HasSubtype itself, and none of its subtypes
abbrev pub has_subtype : NodeId
has_subtype = numeric_id 0 45

-- whether a reference leads from a type to its subtype
abbrev pub is_subtyping : Triple → Bool
is_subtyping t = same_id t.reference_type has_subtype

-- a HasSubtype reference leads from upper down to lower
abbrev pub LeadsTo : List Triple → NodeId → NodeId → Type 0
LeadsTo triples upper lower = (t : Triple) × Contains triples t × (t.source ≡ upper) × (t.reference_type ≡ has_subtype) × (t.target ≡ lower)

-- so many HasSubtype references, one after the other, lead from upper down to lower
abbrev pub Chain : List Triple → ℕ → NodeId → NodeId → Type 0
Chain triples zero lower upper = lower ≡ upper
Chain triples (suc n) lower upper = (middle : NodeId) × LeadsTo triples middle lower × Chain triples n middle upper

-- a type is a subtype of itself, and of each type from which a chain leads down to it
abbrev pub IsSubtype : List Triple → NodeId → NodeId → Type 0
IsSubtype triples lower upper = (n : ℕ) × Chain triples n lower upper

-- ---- the same as a test

-- a HasSubtype reference to this type
abbrev pub leads_to : NodeId → Triple → Bool
leads_to lower t = is_subtyping t && same_id t.target lower

-- a chain of at most n references leads from upper down to lower
unfoldable pub reaches : List Triple → ℕ → NodeId → NodeId → Bool
reaches triples zero lower upper = same_id lower upper
reaches triples (suc n) lower upper = same_id lower upper || list_any (λ t. leads_to lower t && reaches triples n t.source upper) triples

-- whether the one type is the other or one of its subtypes: no chain need be longer than the list of references
abbrev pub is_subtype : List Triple → NodeId → NodeId → Bool
is_subtype triples lower upper = reaches triples (length triples) lower upper

-- whether a HasSubtype reference leads down to a type that a chain leads from, back to the reference's own source
abbrev pub lies_on_loop : List Triple → Triple → Bool
lies_on_loop triples t = is_subtyping t && is_subtype triples t.source t.target
