use Rattle.std.proofs.Common.{◌≡◌, ◌<◌, take, filter, length}
use Rattle.std.specs.List.{All}
use Rattle.ua_types.specs.declared.node_id.NodeId.{NodeId}
use Rattle.ua_space.specs.Indexes.{pick, places_at, stands_under}
use Rattle.ua_space.proofs.index.index_by.Given as goal

abbrev pub invariant-loop-place : goal.invariant-loop-place
invariant-loop-place l =
    (id : NodeId) → (pick l.triples (places_at (λ v. v.items) id l.index.entries) ≡ filter (stands_under l.key id) (take l.place l.triples))
    × All (λ i. i < length l.triples) (places_at (λ v. v.items) id l.index.entries)
