-- Elements of a list by their place, and the id under which a reference stands.
use Rattle.std.proofs.Common.{◌≡◌, ℕ, zero, suc, ◌<◌, Bool, true, false, cond, ◌&&◌, List, [], ◌∷◌, length, get_or, Some, None, slice_get, refl, arith}
use Rattle.ua_types.specs.NodeIdOrder.{same_id}
use Rattle.ua_types.specs.declared.node_id.NodeId.{NodeId}
use Rattle.ua_space.specs.Indexes.{is_key}

pub at_get : {X : Type 0} (xs : List X) (k : ℕ) (x : X) → Some x ≡ slice_get xs k → (k < length xs) × (x ≡ get_or xs k x)
at_get [] k x e = absurd cc
at_get (y ∷ xs) zero x e = (omega arith, cc)
at_get (y ∷ xs) (suc k) x e = let r = at_get xs k x e in (omega (arith, r.0), r.1)

pub get_there : {X : Type 0} (xs : List X) (k : ℕ) (x : X) → k < length xs → x ≡ get_or xs k x → Some x ≡ slice_get xs k
get_there [] k x lt e = absurd (omega arith)
get_there (y ∷ xs) zero x lt e = rw (← e) refl
get_there (y ∷ xs) (suc k) x lt e = get_there xs k x (omega arith) e

pub none_past : {X : Type 0} (xs : List X) (k : ℕ) → None ≡ slice_get xs k → k < length xs → ⊥
none_past [] k e lt = omega arith
none_past (y ∷ xs) zero e lt = cc
none_past (y ∷ xs) (suc k) e lt = none_past xs k e (omega arith)

pub under : (b : Bool) (key id : NodeId) → is_key id (cond b (Some key) None) ≡ (b && same_id key id)
under true key id = refl
under false key id = refl
