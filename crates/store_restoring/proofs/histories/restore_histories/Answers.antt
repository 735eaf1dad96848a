use Rattle.std.proofs.Common.{true, List, ◌∙◌, arith}
use Rattle.server_messages.specs.Kept.{read_back}
use Rattle.server_messages.specs.declared.kept_values.KeptValue.{KeptValue}
use Rattle.store_restoring.specs.Fitting.{fitting}
use Rattle.store_restoring.specs.Opened.{closed}
use Rattle.store_restoring.specs.Restored.{AreRestored}
use Rattle.store_restoring.proofs.Steps.{all_done, one_more, within_same}
use Rattle.store_restoring.proofs.histories.restore_histories.Goals as goal

pub loop-kept-preserved : goal.loop-kept-preserved
loop-kept-preserved c = record {
  nodes = λ old values r.
      one_more c.args.histories.items c.loop-kept.histories.items c.pop.new.self.items c.in-Some.kept
      (λ (ks : List KeptValue). AreRestored (read_back values (fitting true old ks)) old (closed c.loop-kept.space.nodes c.loop-kept.current))
      (λ (ks : List KeptValue). AreRestored (read_back values (fitting true old ks)) old (closed c.put_past.new.space.nodes c.in_ok-current.current))
      c.in-Some.ensures.items (λ done before. c.in_ok-current.ensures.past old values done before) (c.loop-kept.invariant.nodes old values r);
  within = within_same c.loop-kept.space.nodes c.put_past.new.space.nodes c.in_ok-current.current c.in_ok-current.ensures.ids c.in_ok-current.ensures.within;
  ids = c.in_ok-current.ensures.ids ∙ c.loop-kept.invariant.ids;
  triples = c.put_past.ensures.triples ∙ c.loop-kept.invariant.triples;
}

pub returns-clause-histories : goal.returns-clause-histories
returns-clause-histories c = λ old values r.
    rw c.in_ok-close.ensures.nodes (all_done c.args.histories.items c.loop-kept.histories.items
    (λ (ks : List KeptValue). AreRestored (read_back values (fitting true old ks)) old (closed c.loop-kept.space.nodes c.loop-kept.current))
    (omega (arith, c.in_default.ensures.cases.0, c.loop-kept.histories.ok.0)) (c.loop-kept.invariant.nodes old values r))
