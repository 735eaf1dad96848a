use Rattle.std.proofs.Common.{◌≡◌, true, List, [], length}
use Rattle.std.proofs.Common.{vec_len}
use Rattle.std.specs.Map.{keys_of}
use Rattle.ua_space.specs.Nodes.{Nodes}
use Rattle.server_messages.specs.Kept.{read_back}
use Rattle.server_messages.specs.declared.kept_values.KeptValue.{KeptValue}
use Rattle.store_restoring.specs.Fitting.{fitting}
use Rattle.store_restoring.specs.Opened.{IsWithin, closed}
use Rattle.store_restoring.specs.Restored.{AreRestored}
use Rattle.store_restoring.proofs.Steps.{Halfway}
use Rattle.store_restoring.proofs.histories.restore_histories.Given as goal

abbrev pub invariant-loop-kept : goal.invariant-loop-kept
invariant-loop-kept l = record {
  nodes : (old : Nodes) (values : List KeptValue) → AreRestored (read_back values []) old l.initial.space.nodes
      → Halfway l.initial.histories.items l.histories.items (λ (ks : List KeptValue). AreRestored (read_back values (fitting true old ks)) old (closed l.space.nodes l.current));
  within : IsWithin (length l.space.nodes) l.current;
  ids : keys_of l.space.nodes ≡ keys_of l.initial.space.nodes;
  triples : l.space.triples ≡ l.initial.space.triples;
}

abbrev pub decreases-loop-kept : goal.decreases-loop-kept
decreases-loop-kept l = vec_len l.histories
