use Rattle.std.proofs.Common.{◌∙◌, List, Result, Ok, Err, OnErr, ap, sym}
use Rattle.std.proofs.lemmas.Map.Steps.{set_value_same}
use Rattle.std.specs.BTreeMap.{is_at}
use Rattle.ua_types.specs.NodeIdOrder.{id_cmp}
use Rattle.ua_types.specs.declared.node_id.NodeId.{NodeId}
use Rattle.std.specs.Map.{set_value}
use Rattle.ua_history.specs.Histories.{HistoryState, Values}
use Rattle.ua_history.proofs.history.History.keep.Goals as goal

on_err : {A E : Type 0} (P Q : Type 0) → (P → Q) → (r : Result A E) → OnErr r P → OnErr r Q
on_err P Q f (Ok x) p = tt
on_err P Q f (Err e) p = f p

pub returns-in-Some-get_mut-clause-err : goal.returns-in-Some-get_mut-clause-err
returns-in-Some-get_mut-clause-err c =
    let of_nodes : List (NodeId × Values) → HistoryState = λ nodes. record { most = c.self.inside.most; nodes = nodes } in
    on_err _ _ (λ same.
    ap of_nodes
    ((c.get_mut.follows.holds c.keep.new.self).0
    ∙ ap (set_value (is_at (id_cmp c.args.node.now)) c.self.inside.nodes.entries) same
    ∙ set_value_same (is_at (id_cmp c.args.node.now)) c.self.inside.nodes.entries c.in-Some-get_mut.values.now (sym c.in-Some-get_mut.ensures.value))
    ∙ c.self.view_is) c.keep.result c.keep.ensures.err
