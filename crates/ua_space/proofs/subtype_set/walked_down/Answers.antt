use Rattle.std.proofs.Common.{◌≡◌, ◌≤◌, ◌<◌, ◌+◌, ℕ, true, cond, sym, ap, ◌∙◌, arith, [], ◌∷◌, ◌++◌, filter, length, length-append, refl, List, subst, ◌-◌}
use Rattle.std.specs.BTreeMap.{is_at}
use Rattle.std.specs.List.{list_any}
use Rattle.std.specs.Ordering.{is_eq}
use Rattle.ua_types.specs.NodeIdOrder.{id_cmp}
use Rattle.ua_types.specs.declared.node_id.NodeId.{NodeId}
use Rattle.ua_space.specs.Indexes.{stands_under}
use Rattle.ua_space.specs.declared.index.Key.TheVariants as keys
use Rattle.ua_space.specs.declared.triple.Triple.{Triple}
use Rattle.ua_space.specs.Walks.{has_id, lent, met_after}
use Rattle.ua_space.proofs.Walking.{Walked, unmet, walk_begins, walk_goes_on, walk_ends, walk_shrinks, met_grows, set_grows, set_has, length_lent, lent_at}
use Rattle.ua_space.proofs.subtype_set.walked_down.Goals as goal

smaller : (ts : List Triple) (met after more : List NodeId) (next : ℕ) → unmet after ts + length after ≤ unmet met ts + length met → after ≡ met ++ more → next < length met
    → unmet after ts + (length after - (next + 1)) < unmet met ts + (length met - next)
smaller ts met after more next le is lt = let n : length after ≡ length met + length more = ap length is ∙ length-append met more in omega (arith, le, n, lt)

pub loop-next-init : goal.loop-next-init
loop-next-init c =
    let first : lent c.push.new.self.items ≡ c.args.upper.now ∷ [] = rw (c.in_ok-push.ensures.items, c.new-met.ensures.items) refl in
    record {
      walked = walk_begins c.args.triples.now c.args.upper.now (lent c.push.new.self.items) first;
      ids = λ id.
          set_grows [] c.new-ids.result.keys c.insert.new.self.keys c.args.upper.now (λ q. ap (list_any (is_at (id_cmp q))) c.new-ids.ensures.empty)
          (let P : NodeId → Type 0 = λ k. (q : NodeId) → list_any (is_at (id_cmp q)) c.insert.new.self.keys ≡ cond (is_eq (id_cmp k q)) true (list_any (is_at (id_cmp q)) c.new-ids.result.keys) in
          subst P c.in_ok-copy.ensures.copy c.in_ok-insert.ensures.updates.0) id
          ∙ ap (λ m. has_id m id) (sym first);
    }

pub loop-next-smaller : goal.loop-next-smaller
loop-next-smaller c =
    let ts = c.args.triples.now in
    let met = lent c.loop-next.met.items in
    let x = c.index.result.now.now in
    let below : c.new-below.result ≡ filter (stands_under keys.Supertype x) ts = c.new-below.ensures ∙ rw c.places_at.ensures (c.requires x).0 in
    let after : lent c.meet.new.met.items ≡ met_after met (filter (stands_under keys.Supertype x) ts) = c.in_ok-meet.ensures.met ∙ ap (met_after met) below in
    let grows = met_grows met (filter (stands_under keys.Supertype x) ts) in
    smaller ts met (lent c.meet.new.met.items) grows.0 c.loop-next.next
    (let h : unmet (lent c.meet.new.met.items) ts + length (lent c.meet.new.met.items) ≤ unmet met ts + length met = rw after (walk_shrinks ts met x) in h)
    (after ∙ grows.1)
    (omega (arith, length_lent c.loop-next.met.items, c.len.ensures, c.loop-next-test.true, c.loop-next.met.ok))

pub loop-next-preserved : goal.loop-next-preserved
loop-next-preserved c =
    let ts = c.args.triples.now in
    let met = lent c.loop-next.met.items in
    let x = c.index.result.now.now in
    let below : c.new-below.result ≡ filter (stands_under keys.Supertype x) ts = c.new-below.ensures ∙ rw c.places_at.ensures (c.requires x).0 in
    let after : lent c.meet.new.met.items ≡ met_after met (filter (stands_under keys.Supertype x) ts) = c.in_ok-meet.ensures.met ∙ ap (met_after met) below in
    let P : List NodeId → Type 0 = Walked ts c.args.upper.now (c.loop-next.next + 1) in
    record {
      walked = subst P (sym after)
          (walk_goes_on ts c.args.upper.now c.loop-next.next met x c.loop-next.invariant.walked
          (omega (arith, length_lent c.loop-next.met.items, c.len.ensures, c.loop-next-test.true, c.loop-next.met.ok))
          (lent_at c.loop-next.met.items c.loop-next.next c.index.result.now c.index.ensures));
      ids = c.in_ok-meet.ensures.ids;
    }

pub returns : goal.returns
returns c =
    λ id. set_has (lent c.loop-next.met.items) c.loop-next.ids.keys id c.loop-next.invariant.ids
    ∙ walk_ends c.args.triples.now c.args.upper.now c.loop-next.next (lent c.loop-next.met.items) c.loop-next.invariant.walked (omega (arith, length_lent c.loop-next.met.items, c.len.ensures, c.loop-next-test.false, c.loop-next.met.ok)) id
