use Rattle.std.proofs.Common.{◌≡◌, ◌++◌}
use Rattle.store_restoring.specs.Fitting.{fitting, left_out}
use Rattle.store_restoring.proofs.fitting.sort_out.Given as goal

abbrev pub invariant-loop-one : goal.invariant-loop-one
invariant-loop-one l = record {
  fit : l.fit.items ≡ fitting l.is_historical l.space.nodes l.yielded;
  others : l.others.items ≡ l.initial.others.items ++ left_out l.is_historical l.space.nodes l.yielded;
}
