use Rattle.std.proofs.Common.{ℕ, Vec, Global, false, sym, ap, ◌∙◌}
use Rattle.std.specs.BTreeMap.{BTreeMap}
use Rattle.ua_types.specs.declared.node_id.NodeId.{NodeId}
use Rattle.ua_types.specs.NodeIdOrder.{same_id}
use Rattle.ua_space.specs.Indexes.{places_at, stands_under, is_key}
use Rattle.ua_space.proofs.Indexing.{indexed_more}
use Rattle.ua_space.proofs.index.index_by.Goals as goal
use Rattle.ua_space.proofs.index.index_by.Goals.{in-Some+in_ok-add-in-Some, in-None}

pub loop-place-preserved : goal.loop-place-preserved
loop-place-preserved c =
    λ id. elim c.match-key_of.branch [
      | in-Some+in_ok-add-in-Some w ↦
          indexed_more c.args.triples.now c.loop-place.place c.index-triples-place.result (stands_under c.args.key id) (same_id w.in-Some.id.now id) _ (places_at (λ (v : Vec ℕ Global). v.items) id c.match-key_of.index.entries) c.loop-place-test.true c.index-triples-place.is
          (ap (is_key id) (sym w.in-Some.ensures)) (ap (λ (m : BTreeMap NodeId (Vec ℕ Global)). places_at (λ (v : Vec ℕ Global). v.items) id m.entries) w.index-is ∙ w.in_ok-add-in-Some.ensures id) (c.loop-place.invariant id)
      | in-None w ↦
          indexed_more c.args.triples.now c.loop-place.place c.index-triples-place.result (stands_under c.args.key id) false _ (places_at (λ (v : Vec ℕ Global). v.items) id c.match-key_of.index.entries) c.loop-place-test.true c.index-triples-place.is
          (ap (is_key id) (sym w.in-None.ensures)) (ap (λ (m : BTreeMap NodeId (Vec ℕ Global)). places_at (λ (v : Vec ℕ Global). v.items) id m.entries) w.index-is) (c.loop-place.invariant id)
    ]
