use Rattle.std.proofs.Common.{◌≡◌, ◌++◌, length}
use Rattle.ua_views.specs.Views.{or_none}
use Rattle.ua_read_write.specs.Writing.{write_of}
use Rattle.ua_read_write.proofs.writing.write.Given as goal

-- what was taken so far is written, and the rest is left
abbrev pub invariant-loop-value : goal.invariant-loop-value
invariant-loop-value l = record {
  written : record { nodes = l.space.nodes; statuses = l.statuses.items; changed = l.changed.items } ≡ write_of l.clock l.fn.space.nodes l.yielded;
  count : length l.statuses.items ≡ length l.yielded;
  triples : l.space.triples ≡ l.fn.space.triples;
  left : l.yielded ++ or_none l.value-iterator ≡ or_none l.fn.values;
}
