use Rattle.std.proofs.Common.{◌≡◌, ℤ}
use Rattle.std.specs.Map.{values_of}
use Rattle.store_restoring.specs.Restored.{past_of}
use Rattle.store_restoring.proofs.opened.Opened.of.Given as goal

abbrev pub invariant-loop-value : goal.invariant-loop-value
invariant-loop-value l = record {
  place : l.opened.place ≡ l.place;
  past : (t : ℤ) → past_of (values_of l.opened.values) t ≡ past_of l.yielded t;
}
