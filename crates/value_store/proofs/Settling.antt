-- What is left of a statement, whether it is made, refused or fails.
use Rattle.std.proofs.Common.{◌≡◌, ◌⊎◌, inl, inr, ℕ, List, Ok, Err, Result, sym, ◌∙◌, IsTrue}
use Rattle.sqlite.specs.Order.{Row}
use Rattle.sqlite.specs.declared.error.Error.{Error}
use Rattle.sqlite.specs.State.{State, ExecutesInside, IsRolledBack, IsUnchanged}
use Rattle.sqlite.specs.Steps.{FailsToCommit}
use Rattle.value_store.specs.Steps.{KeepsCommit}

pub went : {B E R : Type 0} {b : B} {Stops : E → Type 0} → ((stop : E) × Stops stop × (Ok b ≡ Err stop)) ⊎ R → R
went (inl stopped) = absurd (let e = stopped.2 in cc)
went (inr on) = on

pub same_value : {B E : Type 0} {a b : B} → ◌≡◌ {A = Result B E} (Ok a) (Ok b) → a ≡ b
same_value e = cc

-- of a statement inside a transaction
pub keeps_unchanged : (old new : State) → IsUnchanged old new → KeepsCommit old new
keeps_unchanged old new h is_open = (h.0.was_open, h.0.committed_is)

pub keeps_rolled_back : (old new : State) → IsRolledBack old new → KeepsCommit old new
keeps_rolled_back old new h is_open = (h.was_open is_open, (h.undone is_open).1)

keeps_err : (sql : List ℕ) (params : Row) (old new : State) (e : Error) → ExecutesInside 0 sql params old new (Err e) → KeepsCommit old new
keeps_err sql params old new e (inl h) = elim h.1 [ inl same ↦ keeps_unchanged old new same | inr back ↦ keeps_rolled_back old new back ]
keeps_err sql params old new e (inr h) = keeps_unchanged old new h.2

pub keeps_commit : (sql : List ℕ) (params : Row) (old new : State) (r : Result ℕ Error) → ExecutesInside 0 sql params old new r → KeepsCommit old new
keeps_commit sql params old new (Ok count) h = λ is_open. (h.1.was_open, h.1.committed_is)
keeps_commit sql params old new (Err e) h = keeps_err sql params old new e h

pub keeps_then : (a b c : State) → KeepsCommit a b → KeepsCommit b c → KeepsCommit a c
keeps_then a b c first second is_open = let s = second is_open in let f = first s.0 in (f.0, s.1 ∙ f.1)

-- the end has what was there before, and nothing is left to commit
abbrev pub Back : State → State → Type 0
Back old end = (end.now ≡ old.now) × (end.committed ≡ old.committed) × (end.committed ≡ end.now) × IsTrue old.is_open

-- the drop of a transaction, and a commit that fails, go back to the last commit
pub undone_then : (old mid end : State) → KeepsCommit old mid → (IsTrue old.is_open → old.now ≡ old.committed) → IsRolledBack mid end → IsTrue end.is_open → Back old end
undone_then old mid end kept settled undone is_open =
    let back = undone.undone is_open in
    let still = kept (undone.was_open is_open) in (back.0 ∙ (still.1 ∙ sym (settled still.0)), back.1 ∙ still.1, back.1 ∙ sym back.0, still.0)

pub rolled_at_commit : (old new : State) (e : Error) → IsTrue old.in_transaction → FailsToCommit old new e → IsRolledBack old new
rolled_at_commit old new e inside (inl h) = h.3
rolled_at_commit old new e inside (inr h) = absurd (let e = h.1 in cc)
