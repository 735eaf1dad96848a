use Rattle.std.proofs.Common.{◌∙◌, List, option_map, slice_get, ap, sym}
use Rattle.std.proofs.lemmas.Result.{on_ok_weaker}
use Rattle.ua_types.specs.declared.data_value.DataValue.{DataValue}
use Rattle.ua_space.specs.Nodes.{Nodes}
use Rattle.ua_history.specs.Histories.{with_all}
use Rattle.ua_history.proofs.Begun.{nobody_begins, one_begins}
use Rattle.ua_history.proofs.history.History.begin_with.Goals as goal

pub returns-in-None-clause-history : goal.returns-in-None-clause-history
returns-in-None-clause-history c =
    let n = c.args.place in
    nobody_begins n c.args.space.now.nodes c.args.self.now (sym (c.in-None.ensures.node ∙ ap (λ (ns : Nodes). option_map (λ e. e.1) (slice_get ns n)) c.take_history-values.ensures.nodes))

pub returns-in-Some-clause-history : goal.returns-in-Some-clause-history
returns-in-Some-clause-history c =
    let n = c.args.place in
    let node = c.in-Some.node.now in
    let left = sym (c.in-Some.ensures.node ∙ ap (λ (ns : Nodes). option_map (λ e. e.1) (slice_get ns n)) c.take_history-values.ensures.nodes) in
    on_ok_weaker c.keep_all.result (λ is. is ∙ ap (λ (values : List DataValue). with_all c.args.self.now node.id values) c.take_history-values.ensures.taken ∙ one_begins n c.args.space.now.nodes c.args.self.now node left) c.keep_all.ensures.all
