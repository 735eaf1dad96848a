use Rattle.std.proofs.Common.{◌∙◌, [], ap, w64, FitsSigned, rules}
use Rattle.std.proofs.lemmas.Int.{to_z-of_z}
use Rattle.std.specs.BTreeMap.{is_at}
use Rattle.std.specs.Map.{lookup}
use Rattle.std.specs.Option.{unwrap_or}
use Rattle.std.specs.Ordering.{int_cmp}
use Rattle.ua_history.specs.Histories.{HistoryState, history_of}
use Rattle.ua_history.proofs.history.History.value_at.Goals as goal

-- the value in that node's history
pub returns-in-Some : goal.returns-in-Some
returns-in-Some c =
    let fits : FitsSigned w64 c.args.time.0 = search rules in
    let value = rw (to_z-of_z w64 c.args.time.0 fits) at c.get-in-Some.ensures in
    value
    ∙ ap (lookup (is_at (int_cmp c.args.time.0)))
    (c.values.view_is ∙ ap (λ o. unwrap_or o []) c.in-Some.ensures.value ∙ ap (λ (h : HistoryState). history_of c.args.node.now h) c.self.view_is)
