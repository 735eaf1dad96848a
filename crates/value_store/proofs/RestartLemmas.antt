-- What a crash may leave opens with what was kept.
use Rattle.std.proofs.Common.{◌≡◌, ◌&&◌, Bool, true, false, cond, Some, None, refl}
use Rattle.std.proofs.Math.Logic.{∥∥₁_map}
use Rattle.std.specs.Prelude.{IfSome}
use Rattle.server_messages.specs.Kept.{AreAlike, IsLasting}
use Rattle.server_messages.proofs.KeptLemmas.{alike_refl}
use Rattle.sqlite_disk.specs.declared.Disk.{Ghosts}
use Rattle.sqlite_store.specs.declared.store.FileStore.{FileStore}
use Rattle.sqlite.specs.Held.{Held}
use Rattle.sqlite.specs.Files.{file_state}
use Rattle.sqlite.proofs.Theorems.{next_run}
use Rattle.value_store.specs.Keeping.{kept_at, kept_in, MayFind}
use Rattle.value_store.specs.Restarting.{Restarts}
use Rattle.value_store.proofs.Storing.{clean_is}

pub restarts : {D E : Type 0} {g : Ghosts D} {h : Ghosts E} (before : Held (FileStore D g)) (after : Held (FileStore E h))
    → IsLasting (kept_in (file_state before)) (MayFind (file_state before)) → Restarts before after
restarts before after lasting leaves left may found = go (file_state before).is_clean refl (file_state before).is_open lasting
  where
    go : (a : Bool) → (file_state before).is_clean ≡ a → (b : Bool) → IsLasting (cond (a && b) (Some (kept_at (file_state before).now.trees)) None) (MayFind (file_state before))
        → IfSome (cond (a && b) (Some (kept_at (file_state before).now.trees)) None) (λ kept. ∥ AreAlike kept (kept_at (file_state after).committed.trees) ∥₁)
    go true clean true last =
        let kept_word = clean_is (file_state before).is_clean clean in
        let found_trees = (file_state after).committed.trees in
        ∥∥₁_map (next_run before.store leaves.0 leaves.1 left may (file_state after) found) (λ reached. last (kept_at found_trees) (kept_word, found_trees, reached, alike_refl (kept_at found_trees)))
    go true clean false last = tt
    go false doubted true last = tt
    go false doubted false last = tt
