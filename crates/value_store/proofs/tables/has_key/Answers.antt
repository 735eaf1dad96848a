use Rattle.std.proofs.Common.{rules, ◌≡◌, ◌∙◌, sym, ap, [], ◌∷◌}
use Rattle.value_store.proofs.Columns.{one}
use Rattle.value_store.proofs.tables.has_key.Goals as goal

pub returns-in-len1-clause-key : goal.returns-in-len1-clause-key
returns-in-len1-clause-key c all =
    let key : c.key-item.result ≡ c.args.places.now = search rules in
    sym c.as_slice.ensures ∙ (one c.as_slice.result.now c.key-item.result c.in-len1.len_at_least c.in-len1.len_below c.key-item.is ∙ ap (λ k. k ∷ []) key)
