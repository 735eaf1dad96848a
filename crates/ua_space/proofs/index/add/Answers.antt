use Rattle.std.proofs.Common.{ℕ, Vec, Global, refl, sym, ap, ◌∙◌, ◌++◌, ◌∷◌, []}
use Rattle.std.specs.BTreeMap.{BTreeMap}
use Rattle.ua_types.specs.declared.node_id.NodeId.{NodeId}
use Rattle.ua_space.specs.Indexes.{given}
use Rattle.ua_space.proofs.Indexing.{added, added_first}
use Rattle.ua_space.proofs.index.add.Goals as goal

pub returns-in_ok-push-in-Some : goal.returns-in_ok-push-in-Some
returns-in_ok-push-in-Some c =
    λ q. added (λ (v : Vec ℕ Global). v.items) c.args.index.now.entries (c.get_mut.follows.lender c.push.new.self).entries c.args.id.now q c.in-Some.places.now.items c.push.new.self c.args.place
    (ap (given (λ (v : Vec ℕ Global). v.items)) (sym c.in-Some.ensures.value)) c.in_ok-push-in-Some.ensures.items
    (((c.get_mut.follows.holds c.push.new.self).3 (rw (← c.in-Some.ensures.value) refl)).0 q)

pub returns-in_ok-insert-in-None : goal.returns-in_ok-insert-in-None
returns-in_ok-insert-in-None c =
    λ q. added_first (λ (v : Vec ℕ Global). v.items) c.args.index.now.entries c.get_mut.follows.lender-at-none.entries c.insert.new.self.entries c.args.id.now c.in_ok-copy-in-None.field-0 q c.push-in-None.new.self c.args.place
    (ap (λ (m : BTreeMap NodeId (Vec ℕ Global)). m.entries) c.get_mut.follows.holds-at-none) c.in_ok-copy-in-None.ensures.copy c.in-None.ensures.value
    (c.in_ok-push-in-None.ensures.items ∙ ap (λ xs. xs ++ c.args.place ∷ []) c.new-places.ensures.items)
    (c.in_ok-insert-in-None.ensures.updates.0 q)
