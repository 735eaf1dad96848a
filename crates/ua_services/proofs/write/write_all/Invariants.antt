use Rattle.std.proofs.Common.{◌≡◌, ◌++◌, length}
use Rattle.ua_views.specs.Views.{or_none}
use Rattle.ua_read_write.specs.Writing.{write_of}
use Rattle.ua_services.specs.Write.{with_written, stored_written}
use Rattle.ua_services.proofs.write.write_all.Given as goal

-- what was taken so far is written, and the rest is left
abbrev pub invariant-loop-value : goal.invariant-loop-value
invariant-loop-value l = record {
  written : l.services ≡ with_written l.fn.services (write_of l.setting.clock l.fn.services.space.nodes l.yielded);
  stored : l.stored ≡ l.fn.stored ++ stored_written l.setting.config.has_store l.fn.services (write_of l.setting.clock l.fn.services.space.nodes l.yielded);
  statuses : l.statuses.items ≡ (write_of l.setting.clock l.fn.services.space.nodes l.yielded).statuses;
  count : length l.statuses.items ≡ length l.yielded;
  left : l.yielded ++ or_none l.value-iterator ≡ or_none l.fn.values;
}
