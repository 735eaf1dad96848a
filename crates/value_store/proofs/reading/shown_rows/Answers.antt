use Rattle.std.proofs.Common.{[], arith, sym, subst}
use Rattle.sqlite.specs.Held.{state}
use Rattle.sqlite.specs.Listing.{understood}
use Rattle.sqlite.specs.State.{Shown}
use Rattle.sqlite.proofs.StateLemmas.{survives_weaker}
use Rattle.sqlite.proofs.Callers.{IsPlain, never_commits}
use Rattle.value_store.specs.Tables.{store_schema}
use Rattle.value_store.proofs.Texts.{rows_plain}
use Rattle.value_store.proofs.Showing.{rows_shown, unchanged_by, told, told_on}
use Rattle.value_store.proofs.reading.shown_rows.Goals as goal

pub returns-clause-rows : goal.returns-clause-rows
returns-clause-rows g c clean =
    let old = state g.S.Store c.args.conn.now in
    let new = state g.S.Store c.query_all.new.self in
    let has = c.requires.tables (omega (arith, c.query_all.ensures.survives.clean)) in
    told c.query_all.result _ _ (λ rows h. rows_shown c.args.table old new rows.items has (subst (λ sql. Shown sql [] old new rows.items) c.rows_text.ensures h)) (c.query_all.ensures.ok clean)

pub returns-clause-same : goal.returns-clause-same
returns-clause-same g c clean =
    let plain = subst (λ sql. IsPlain (understood store_schema sql)) (sym c.rows_text.ensures) (rows_plain c.args.table) in
    let has = c.requires.tables (omega (arith, c.query_all.ensures.survives.clean)) in
    told_on c.query_all.result _ _ (λ rows h. unchanged_by c.rows_text.result.now (state g.S.Store c.args.conn.now) (state g.S.Store c.query_all.new.self) rows.items plain has h) (c.query_all.ensures.ok clean)

pub returns-clause-crash : goal.returns-clause-crash
returns-clause-crash g c =
    let old = state g.S.Store c.args.conn.now in
    let new = state g.S.Store c.query_all.new.self in
    let sql = c.rows_text.result.now in
    let plain = subst (λ sql. IsPlain (understood store_schema sql)) (sym c.rows_text.ensures) (rows_plain c.args.table) in
    survives_weaker old new _ _ (λ clean db. never_commits sql [] old db (subst (λ s. IsPlain (understood s sql)) (sym (c.requires.tables (omega (arith, c.query_all.ensures.survives.clean)))) plain)) c.query_all.ensures.survives
