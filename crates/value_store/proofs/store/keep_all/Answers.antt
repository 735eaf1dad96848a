use Rattle.std.proofs.Common.{arith, List, ap, subst, inl, inr}
use Rattle.sqlite.specs.Effect.{Database}
use Rattle.sqlite.specs.Held.{state}
use Rattle.value_store.specs.declared.rows.RowChange.{RowChange}
use Rattle.value_store.specs.Model.{IsAfter}
use Rattle.value_store.proofs.Telling.{has_all}
use Rattle.value_store.proofs.Storing.{keeps, keeps_none, grows, where_clean, where_refused}
use Rattle.value_store.proofs.store.keep_all.Goals as goal

pub returns-clause-kept : goal.returns-clause-kept
returns-clause-kept g c =
    let old = state g.S.Store c.args.conn.now in
    let new = state g.S.Store c.keep.new.conn in
    let changes = c.in_ok-changes.changes.items in
    where_clean c.keep.result c.keep.ensures.kept (λ after. keeps c.args.stored.now old new (λ clean. has_all c.args.stored.now changes old.now.trees new.now.trees c.in_ok-changes.ensures.changes
    (subst (λ (turn : List RowChange). IsAfter turn old.now.trees new.now.trees) c.deref.ensures.value (after clean))))

pub returns-clause-refused : goal.returns-clause-refused
returns-clause-refused g c =
    let old = state g.S.Store c.args.conn.now in
    let new = state g.S.Store c.keep.new.conn in
    where_refused c.keep.result c.keep.ensures.refused (λ same. keeps_none old new (λ clean is_open. ap (λ (db : Database). db.trees) (same clean is_open).0))

pub returns-clause-crash : goal.returns-clause-crash
returns-clause-crash g c =
    let old = state g.S.Store c.args.conn.now in
    let new = state g.S.Store c.keep.new.conn in
    let changes = c.in_ok-changes.changes.items in
    grows c.args.stored.now old new (λ clean. omega (arith, c.keep.ensures.crash.clean)) (λ clean trees may. elim (c.keep.ensures.crash.crash clean trees may) [
      | inl left ↦ inl left
      | inr after ↦ inr (has_all c.args.stored.now changes old.now.trees trees c.in_ok-changes.ensures.changes (subst (λ (turn : List RowChange). IsAfter turn old.now.trees trees) c.deref.ensures.value after))
    ])
