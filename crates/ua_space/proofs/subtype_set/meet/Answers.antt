use Rattle.std.proofs.Common.{◌≡◌, true, false, cond, Vec, Global, Bor, sym, ap, subst, ◌∙◌, arith, [], ◌∷◌, ◌++◌}
use Rattle.std.specs.BTreeMap.{is_at}
use Rattle.std.specs.BTreeSet.{BTreeSet}
use Rattle.std.specs.List.{list_any}
use Rattle.std.specs.Ordering.{is_eq}
use Rattle.ua_types.specs.NodeIdOrder.{id_cmp}
use Rattle.ua_types.specs.declared.node_id.NodeId.{NodeId}
use Rattle.ua_space.specs.Walks.{has_id, lent}
use Rattle.ua_space.proofs.Places.{none_past}
use Rattle.ua_space.proofs.Walking.{with_id, after_none, after_more, set_grows, newly_added, not_added, lent_more}
use Rattle.ua_space.proofs.subtype_set.meet.Goals as goal
use Rattle.ua_space.proofs.subtype_set.meet.Goals.{in-None, in-Some+then-not-contains+in_ok-copy-in-Some+in_ok-insert-in-Some+in_ok-push-in-Some, in-Some+else-not-contains}

pub loop-place-init : goal.loop-place-init
loop-place-init c = record { met = sym (after_none (lent c.args.met.now.items)); ids = c.requires }

pub loop-place-preserved : goal.loop-place-preserved
loop-place-preserved c =
    let before = lent c.args.met.now.items in
    let met = lent c.loop-place.met.items in
    elim c.match-get.branch [
      | in-None w ↦ absurd (none_past c.args.list.now c.loop-place.place w.in-None.ensures (omega (arith, c.len-place-end.ensures, c.loop-place-test.true)))
      | in-Some+then-not-contains+in_ok-copy-in-Some+in_ok-insert-in-Some+in_ok-push-in-Some w ↦
          let t = w.in-Some.triple.now in
          let new : list_any (is_at (id_cmp t.target)) c.loop-place.ids.keys ≡ false = sym w.contains.ensures ∙ w.if-not-contains.true in
          let pushed : lent c.match-get.met.items ≡ met ++ t.target ∷ [] =
          ap (λ (v : Vec (Bor NodeId) Global). lent v.items) w.met-is ∙ ap lent w.in_ok-push-in-Some.ensures.items ∙ lent_more c.loop-place.met.items _ in
          let grown : lent c.match-get.met.items ≡ with_id met t.target = pushed ∙ sym (newly_added met c.loop-place.ids.keys t.target c.loop-place.invariant.ids new) in
          let copied = w.in_ok-copy-in-Some.field-0 in
          let P : NodeId → Type 0 = λ k. (q : NodeId) → list_any (is_at (id_cmp q)) w.insert.new.self.keys ≡ cond (is_eq (id_cmp k q)) true (list_any (is_at (id_cmp q)) c.loop-place.ids.keys) in
          record {
            met = grown ∙ ap (λ m. with_id m t.target) c.loop-place.invariant.met ∙ sym (after_more before c.args.list.now c.loop-place.place t w.in-Some.ensures);
            ids = λ id. ap (λ (s : BTreeSet NodeId). list_any (is_at (id_cmp id)) s.keys) w.ids-is
                ∙ set_grows met c.loop-place.ids.keys w.insert.new.self.keys t.target c.loop-place.invariant.ids (subst P w.in_ok-copy-in-Some.ensures.copy w.in_ok-insert-in-Some.ensures.updates.0) id
                ∙ ap (λ m. has_id m id) (sym pushed);
          }
      | in-Some+else-not-contains w ↦
          let t = w.in-Some.triple.now in
          let there : list_any (is_at (id_cmp t.target)) c.loop-place.ids.keys ≡ true = sym w.contains.ensures ∙ w.if-not-contains.false in
          let kept : lent c.match-get.met.items ≡ met = ap (λ (v : Vec (Bor NodeId) Global). lent v.items) w.met-is in
          record {
            met = kept ∙ sym (not_added met c.loop-place.ids.keys t.target c.loop-place.invariant.ids there) ∙ ap (λ m. with_id m t.target) c.loop-place.invariant.met
                ∙ sym (after_more before c.args.list.now c.loop-place.place t w.in-Some.ensures);
            ids = λ id. ap (λ (s : BTreeSet NodeId). list_any (is_at (id_cmp id)) s.keys) w.ids-is ∙ c.loop-place.invariant.ids id ∙ ap (λ m. has_id m id) (sym kept);
          }
    ]
