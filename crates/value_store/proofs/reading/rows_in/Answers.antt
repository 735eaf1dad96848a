use Rattle.std.proofs.Common.{rules, ◌∙◌, sym, ap, subst, map, IsTrue}
use Rattle.std.specs.Prelude.{IsPermutation}
use Rattle.sqlite.specs.Held.{state}
use Rattle.value_store.specs.Rows.{columns}
use Rattle.value_store.specs.Model.{tree_of, AreNumbered}
use Rattle.value_store.proofs.Showing.{columns_shown, numbered_shown, told, told_on}
use Rattle.value_store.proofs.reading.rows_in.Goals as goal

pub returns-clause-all : goal.returns-clause-all
returns-clause-all g c clean =
    let file = (state g.S.Store c.args.conn.now).now.trees (tree_of c.args.table) in
    told c.rows_told.result _ _ (λ read h. subst (IsPermutation (map columns file)) (sym (h ∙ ap (map columns) c.deref-2.ensures.value)) (columns_shown file c.in_ok-rows.rows.items (c.in_ok-rows.ensures.rows clean))) c.rows_told.ensures.rows

pub returns-clause-numbered : goal.returns-clause-numbered
returns-clause-numbered g c clean =
    let file = (state g.S.Store c.args.conn.now).now.trees (tree_of c.args.table) in
    let rise : IsTrue c.in_ok-numbers_rise.field-0 = search rules in
    told_on c.rows_told.result _ _ (λ read h. numbered_shown file c.in_ok-rows.rows.items (c.in_ok-rows.ensures.rows clean) (subst AreNumbered c.deref.ensures.value (c.in_ok-numbers_rise.ensures rise))) c.rows_told.ensures.rows
