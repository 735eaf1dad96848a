use Rattle.std.proofs.Common.{◌≡◌}
use Rattle.std.specs.Prelude.{fold}
use Rattle.std.specs.Vec.Iter.{into_iter_items}
use Rattle.scenario_text.specs.Structures.{with_link, links_of}
use Rattle.scenario_text.proofs.request_bodies.links_of.Given as goal

-- those so far and those of what is left are all
abbrev pub invariant-loop-change : goal.invariant-loop-change
invariant-loop-change l =
    fold with_link (record { added = l.added.items; removed = l.removed.items }) (into_iter_items l.change-iterator) ≡ links_of l.fn.changes.items
