use Rattle.std.proofs.Common.{◌≡◌, []}
use Rattle.std.specs.Vec.Iter.{into_iter_items}
use Rattle.ua_history.specs.Histories.{with_all}
use Rattle.ua_history.proofs.history.History.keep_all.Given as goal

-- the values so far are kept, and the others are left
abbrev pub invariant-loop-value : goal.invariant-loop-value
invariant-loop-value l = record {
  kept : with_all l.self l.node (into_iter_items l.value-iterator) ≡ with_all l.fn.self l.node l.fn.values;
  none : l.fn.values ≡ [] → into_iter_items l.value-iterator ≡ [];
}
