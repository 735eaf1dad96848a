use Rattle.std.proofs.Common.{true, false, List, ap, subst, ◌∙◌}
use Rattle.server_messages.specs.Kept.{read_back}
use Rattle.server_messages.specs.declared.kept_values.KeptValue.{KeptValue}
use Rattle.store_restoring.specs.Fitting.{fitting}
use Rattle.store_restoring.specs.Restored.{AreRestored}
use Rattle.store_restoring.proofs.Sorting.{fitting_twice}
use Rattle.store_restoring.proofs.restoring.restore.Goals as goal

pub returns-clause-nodes : goal.returns-clause-nodes
returns-clause-nodes c =
    let nodes = c.args.space.now.nodes in
    let now = c.restore_histories.new.space.nodes in
    let values = c.in_ok-values.values.items in
    let histories = c.in_ok-histories.histories.items in
    let P : List KeptValue → Type 0 = λ vs. AreRestored (read_back vs (fitting true nodes histories)) nodes now in
    let Q : List KeptValue → Type 0 = λ hs. AreRestored (read_back (fitting false nodes c.args.kept.values.items) hs) nodes now in
    subst Q (ap (fitting true nodes) c.in_ok-histories.ensures.fitting ∙ fitting_twice true nodes c.args.kept.histories.items)
    (subst P (ap (fitting false nodes) c.in_ok-values.ensures.fitting ∙ fitting_twice false nodes c.args.kept.values.items)
    (c.in_ok-restore_histories.ensures.histories nodes (fitting false nodes values) c.restore_values.ensures.nodes))
