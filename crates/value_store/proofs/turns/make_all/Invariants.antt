use Rattle.std.proofs.Common.{◌≡◌, ◌⊎◌, [], take, IsTrue}
use Rattle.sqlite.specs.State.{HasCleanDisk, Survives}
use Rattle.sqlite.specs.Held.{state}
use Rattle.value_store.specs.Model.{IsStore, IsAfter}
use Rattle.value_store.specs.Steps.{KeepsCommit}
use Rattle.value_store.proofs.turns.make_all.Given as goal

abbrev pub invariant-each : goal.invariant-each
invariant-each g l =
    let old = state g.S.Store l.fn.conn in
    let now = state g.S.Store l.transaction.conn.now in
    (l.transaction.conn.ghost_name ≡ l.initial.transaction.conn.ghost_name) × Survives old now (λ _. ⊥)
    × (HasCleanDisk now → IsTrue now.in_transaction × KeepsCommit old now × (IsStore old.now → IsStore now.now × IsAfter (take l.change-index l.turn) old.now.trees now.now.trees)
    × (((take l.change-index l.turn ≡ []) × (now.now.trees ≡ old.now.trees)) ⊎ IsTrue old.is_open))
