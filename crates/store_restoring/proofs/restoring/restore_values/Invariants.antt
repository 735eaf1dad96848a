use Rattle.std.proofs.Common.{◌≡◌, false, List, []}
use Rattle.std.specs.Map.{keys_of}
use Rattle.server_messages.specs.Kept.{read_back}
use Rattle.server_messages.specs.declared.kept_values.KeptValue.{KeptValue}
use Rattle.store_restoring.specs.Fitting.{fitting}
use Rattle.store_restoring.specs.Restored.{AreRestored}
use Rattle.store_restoring.proofs.Steps.{Halfway}
use Rattle.store_restoring.proofs.restoring.restore_values.Given as goal

abbrev pub invariant-loop-kept : goal.invariant-loop-kept
invariant-loop-kept l = record {
  nodes : Halfway l.initial.values.items l.values.items (λ (ks : List KeptValue). AreRestored (read_back (fitting false l.initial.space.nodes ks) []) l.initial.space.nodes l.space.nodes);
  ids : keys_of l.space.nodes ≡ keys_of l.initial.space.nodes;
  triples : l.space.triples ≡ l.initial.space.triples;
}

abbrev pub decreases-loop-kept : goal.decreases-loop-kept
decreases-loop-kept l = goal.left-loop-kept l
