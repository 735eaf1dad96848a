use Rattle.std.proofs.Common.{◌≡◌, ◌++◌}
use Rattle.std.specs.List.{flat_map}
use Rattle.ua_binary.specs.DataValues.{data_value_encoding}
use Rattle.ua_views.specs.Views.{or_none}
use Rattle.ua_read_write.specs.Reading.{all_read}
use Rattle.ua_read_write.proofs.reading.write_answers.Given as goal

-- the answers so far are written, and the rest is left
abbrev pub invariant-loop-request : goal.invariant-loop-request
invariant-loop-request l = record {
  written : l.body ≡ l.initial.body ++ flat_map data_value_encoding (all_read l.space.nodes l.clock l.timestamps l.yielded);
  left : l.yielded ++ or_none l.request-iterator ≡ or_none l.fn.requests;
}
