use Rattle.std.proofs.Common.{false, List, [], ◌∙◌}
use Rattle.server_messages.specs.Kept.{read_back}
use Rattle.server_messages.specs.declared.kept_values.KeptValue.{KeptValue}
use Rattle.store_restoring.specs.Fitting.{fitting}
use Rattle.store_restoring.specs.Restored.{AreRestored}
use Rattle.store_restoring.proofs.Steps.{one_more}
use Rattle.store_restoring.proofs.restoring.restore_values.Goals as goal

pub loop-kept-preserved : goal.loop-kept-preserved
loop-kept-preserved c =
    let old = c.args.space.now.nodes in
    record {
      nodes =
          one_more c.args.values.items c.loop-kept.values.items c.pop.new.self.items c.in-Some.kept
          (λ (ks : List KeptValue). AreRestored (read_back (fitting false old ks) []) old c.loop-kept.space.nodes)
          (λ (ks : List KeptValue). AreRestored (read_back (fitting false old ks) []) old c.put_value.new.space.nodes)
          c.in-Some.ensures.items (λ done r. c.put_value.ensures.nodes old done r) c.loop-kept.invariant.nodes;
      ids = c.put_value.ensures.ids ∙ c.loop-kept.invariant.ids;
      triples = c.put_value.ensures.triples ∙ c.loop-kept.invariant.triples;
    }
