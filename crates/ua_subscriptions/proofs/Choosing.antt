-- What is true of both is true of the one that is chosen.
use Rattle.std.proofs.Common.{◌≡◌, Bool, true, false, cond, refl}

module _ {A : Type 0} (P : A → Type 0) where
  pub either : (b : Bool) (x y : A) → P x → P y → P (cond b x y)
  either true x y p q = p
  either false x y p q = q

  -- what the choice tells is known there
  pub either_by : (b : Bool) (x y : A) → (b ≡ true → P x) → P y → P (cond b x y)
  either_by true x y p q = p refl
  either_by false x y p q = q
