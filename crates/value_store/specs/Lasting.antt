-- What a store keeps lasts.
use Rattle.std.proofs.Common.{◌≡◌, ◌&&◌, Bool, true, false, Some, None, cond, refl, subst}
use Rattle.server_messages.specs.Kept.{AreAlike, IsLasting}
use Rattle.sqlite.specs.State.{State}
use Rattle.sqlite.specs.Tree.{Trees}
use Rattle.value_store.specs.Steps.{IsSettled}
use Rattle.value_store.specs.Keeping.{kept_at, kept_in, MayFind}

-- a crash leaves what the connection shows, and that is what is kept
pub lasts : (s : State) → IsSettled s → IsLasting (kept_in s) (MayFind s)
lasts s settled = go s.is_clean s.is_open refl
  where
    go : (a b : Bool) → s.is_open ≡ b → IsLasting (cond (a && b) (Some (kept_at s.now.trees)) None) (MayFind s)
    go true true is_open = λ found may. subst (λ (trees : Trees). AreAlike (kept_at trees) found) (settled may.1 may.0 is_open may.2) may.3
    go true false is_shut = tt
    go false true is_open = tt
    go false false is_shut = tt
