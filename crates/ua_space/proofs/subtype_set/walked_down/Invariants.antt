use Rattle.std.proofs.Common.{◌+◌, ◌-◌, length}
use Rattle.ua_space.specs.Walks.{lent, IsSetOf}
use Rattle.ua_space.proofs.Walking.{Walked, unmet}
use Rattle.ua_space.proofs.subtype_set.walked_down.Given as goal

abbrev pub invariant-loop-next : goal.invariant-loop-next
invariant-loop-next l = record {
  walked : Walked l.triples l.upper l.next (lent l.met.items);
  ids : IsSetOf (lent l.met.items) l.ids.keys;
}

abbrev pub decreases-loop-next : goal.decreases-loop-next
decreases-loop-next l = unmet (lent l.met.items) l.triples + (length (lent l.met.items) - l.next)
