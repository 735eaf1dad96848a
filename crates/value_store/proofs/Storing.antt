-- What a connection shows, as a store.
use Rattle.std.proofs.Common.{◌≡◌, ◌⊎◌, inl, inr, Bool, true, false, ◌&&◌, cond, List, [], Some, None, Ok, Err, Result, OnOk, OnErr, refl, sym, subst, IsTrue}
use Rattle.std.specs.Prelude.{IfSome}
use Rattle.server_messages.specs.Kept.{Kept, AreAlike, Keeps, GrowsBy, with_all_stored}
use Rattle.server_messages.specs.declared.stored.Stored.{Stored}
use Rattle.server_messages.proofs.KeptLemmas.{alike_refl, alike_trans}
use Rattle.sqlite.specs.State.{State, HasCleanDisk}
use Rattle.sqlite.specs.Tree.{Trees}
use Rattle.sqlite_trees.specs.View.{doubt}
use Rattle.value_store.specs.Keeping.{kept_at, kept_in, MayFind, HasAll}

pub clean_is : (b : Bool) → b ≡ true → doubt b ≡ 0
unfolding doubt
clean_is b h = subst (λ (x : Bool). doubt x ≡ 0) (sym h) refl

pub begun : (s : State) (k : Kept) → (HasCleanDisk s → AreAlike k (kept_at s.now.trees)) → IfSome (kept_in s) (AreAlike k)
begun s k h = go s.is_clean refl s.is_open
  where
    go : (a : Bool) → s.is_clean ≡ a → (b : Bool) → IfSome (cond (a && b) (Some (kept_at s.now.trees)) None) (AreAlike k)
    go true is true = h (clean_is s.is_clean is)
    go true is false = tt
    go false is true = tt
    go false is false = tt

pub keeps : (stored : List Stored) (old new : State) → (HasCleanDisk new → HasAll stored old.now.trees new.now.trees) → Keeps stored (kept_in old) (kept_in new)
keeps stored old new h = go (old.is_clean && old.is_open) new.is_clean refl new.is_open
  where
    go : (was : Bool) (a : Bool) → new.is_clean ≡ a → (b : Bool) → Keeps stored (cond was (Some (kept_at old.now.trees)) None) (cond (a && b) (Some (kept_at new.now.trees)) None)
    go true true is true = h (clean_is new.is_clean is)
    go true true is false = tt
    go true false is true = tt
    go true false is false = tt
    go false true is true = tt
    go false true is false = tt
    go false false is true = tt
    go false false is false = tt

-- where nothing of it is there, nothing more is kept
pub keeps_none : (old new : State) → (HasCleanDisk new → IsTrue new.is_open → new.now.trees ≡ old.now.trees) → Keeps [] (kept_in old) (kept_in new)
keeps_none old new same = go (old.is_clean && old.is_open) new.is_clean refl new.is_open refl
  where
    go : (was : Bool) (a : Bool) → new.is_clean ≡ a → (b : Bool) → new.is_open ≡ b → Keeps [] (cond was (Some (kept_at old.now.trees)) None) (cond (a && b) (Some (kept_at new.now.trees)) None)
    go true true clean true is_open = subst (λ (trees : Trees). AreAlike (kept_at old.now.trees) (kept_at trees)) (sym (same (clean_is new.is_clean clean) is_open)) (alike_refl (kept_at old.now.trees))
    go true true clean false is_open = tt
    go true false clean true is_open = tt
    go true false clean false is_open = tt
    go false true clean true is_open = tt
    go false true clean false is_open = tt
    go false false clean true is_open = tt
    go false false clean false is_open = tt

has_found : (stored : List Stored) (old : State) (found : Kept) → AreAlike (with_all_stored (kept_at old.now.trees) stored) found → Keeps stored (kept_in old) (Some found)
has_found stored old found alike = go (old.is_clean && old.is_open)
  where
    go : (was : Bool) → Keeps stored (cond was (Some (kept_at old.now.trees)) None) (Some found)
    go true = alike
    go false = tt

-- a crash leaves what it left before, or all of it
pub grows : (stored : List Stored) (old new : State) → (HasCleanDisk new → HasCleanDisk old)
    → (HasCleanDisk new → (trees : Trees) → new.may_leave trees → old.may_leave trees ⊎ HasAll stored old.now.trees trees) → GrowsBy stored (kept_in old) (MayFind old) (MayFind new)
grows stored old new before crash found may = elim (crash may.0 may.1 may.2) [
  | inl left ↦ inl (before may.0, may.1, left, may.3)
  | inr all ↦ inr (has_found stored old found (alike_trans (with_all_stored (kept_at old.now.trees) stored) (kept_at may.1) found all may.3))
]

pub where_clean : {C A B : Type 0} {T E : Type 0} (r : Result T E) → (C → OnOk r A) → ((C → A) → B) → OnOk r B
where_clean (Ok x) h f = f h
where_clean (Err e) h f = tt

pub anyway : {T E B : Type 0} (r : Result T E) → B → OnOk r B
anyway (Ok x) b = b
anyway (Err e) b = tt

pub where_refused : {A B C : Type 0} {T E : Type 0} (r : Result T E) → (A → B → OnErr r C) → {D : Type 0} → ((A → B → C) → D) → OnErr r D
where_refused (Ok x) h f = tt
where_refused (Err e) h f = f h
