use Rattle.std.proofs.Common.{◌≡◌, take}
use Rattle.ua_space.specs.Walks.{lent, met_after, IsSetOf}
use Rattle.ua_space.proofs.subtype_set.meet.Given as goal

abbrev pub invariant-loop-place : goal.invariant-loop-place
invariant-loop-place l = record {
  met : lent l.met.items ≡ met_after (lent l.initial.met.items) (take l.place l.list);
  ids : IsSetOf (lent l.met.items) l.ids.keys;
}
