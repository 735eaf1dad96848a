use Rattle.std.proofs.Common.{sym, subst, Ok, Err, Result, IfOk, OnOk}
use Rattle.sqlite.specs.Held.{state}
use Rattle.sqlite.specs.Effect.{Database}
use Rattle.sqlite.specs.State.{State, IsUnchanged}
use Rattle.value_store.specs.declared.reading.StoredRows.{StoredRows}
use Rattle.value_store.specs.Model.{AreAll}
use Rattle.value_store.proofs.reading.begin.Goals as goal

both : {E : Type 0} (old new : State) (r : Result StoredRows E) → IfOk r (λ s. AreAll old.now.trees s.values.items s.pasts.items) → OnOk r (IsUnchanged old new) → IfOk r (λ s. AreAll new.now.trees s.values.items s.pasts.items)
both old new (Ok s) all same = subst (λ (d : Database). AreAll d.trees s.values.items s.pasts.items) (sym same.0.now_is) all
both old new (Err e) all same = tt

pub returns-clause-all : goal.returns-clause-all
returns-clause-all g c clean = both (state g.S.Store c.prepare.new.conn) (state g.S.Store c.read_back.new.conn) c.read_back.result (c.read_back.ensures.all clean) (c.read_back.ensures.same clean)

pub returns-clause-same : goal.returns-clause-same
returns-clause-same g c clean has =
    subst (λ h. OnOk c.read_back.result (IsUnchanged (state g.S.Store h) (state g.S.Store c.read_back.new.conn))) (c.prepare.ensures.same has).1 (c.read_back.ensures.same clean)
