use Rattle.std.proofs.Common.{sym, ◌∙◌}
use Rattle.store_restoring.proofs.ByTime.{added_same, past_append}
use Rattle.store_restoring.specs.Restored.{past_of}
use Rattle.std.specs.Map.{values_of}
use Rattle.store_restoring.proofs.opened.Opened.of.Goals as goal

pub loop-value-preserved : goal.loop-value-preserved
loop-value-preserved c = record {
  place = c.add.ensures.place ∙ c.loop-value.invariant.place;
  past = λ t.
      c.in_ok-add.ensures.past t
      ∙ added_same c.in-Some.value (past_of (values_of c.loop-value.opened.values)) (past_of c.loop-value.yielded) t (c.loop-value.invariant.past t)
      ∙ sym (past_append c.loop-value.yielded c.in-Some.value t);
}
