-- When two references are the same, and the order of references: by source, then by type, then by target.
-- The part that declares a reference doesn't count.
use Rattle.std.specs.Prelude.{◌≡◌, ◌&&◌, Bool}
use Rattle.std.specs.declared.cmp.Ordering.{Ordering}
use Rattle.std.specs.Cmp.{IsEquivalence, IsTotalOrder, on_equiv, and_equiv, on_total, then_total, both_tied}
use Rattle.std.specs.Ordering.{ordering_then, eq_by_cmp}
use Rattle.ua_types.specs.NodeIdOrder.{id_cmp, same_id}
use Rattle.ua_types.specs.contracts.node_id.NodeIdEq.TheImpl.Laws.{laws-law}
use Rattle.ua_types.specs.contracts.node_id.NodeIdOrd.TheImpl.Laws.{total-law, matches_eq-law}
use Rattle.ua_space.specs.declared.triple.Triple.{Triple}

-- the same ends and the same type
abbrev pub same_triple : Triple → Triple → Bool
same_triple s t = (same_id s.source t.source && same_id s.reference_type t.reference_type) && same_id s.target t.target

abbrev pub triple_cmp : Triple → Triple → Ordering
triple_cmp s t = ordering_then (ordering_then (id_cmp s.source t.source) (id_cmp s.reference_type t.reference_type)) (id_cmp s.target t.target)

-- ---- they are an equality and an order

pub same_triple_equiv : IsEquivalence same_triple
same_triple_equiv = and_equiv (and_equiv (on_equiv (λ (t : Triple). t.source) laws-law) (on_equiv (λ (t : Triple). t.reference_type) laws-law)) (on_equiv (λ (t : Triple). t.target) laws-law)

pub triple_cmp_total : IsTotalOrder triple_cmp
triple_cmp_total = then_total (then_total (on_total (λ (t : Triple). t.source) total-law) (on_total (λ (t : Triple). t.reference_type) total-law)) (on_total (λ (t : Triple). t.target) total-law)

pub triple_ties : (s t : Triple) → same_triple s t ≡ eq_by_cmp triple_cmp s t
triple_ties s t =
    let source = id_cmp s.source t.source in
    let kind = id_cmp s.reference_type t.reference_type in
    both_tied _ _ (ordering_then source kind) (id_cmp s.target t.target)
    (both_tied _ _ source kind (matches_eq-law s.source t.source) (matches_eq-law s.reference_type t.reference_type))
    (matches_eq-law s.target t.target)
