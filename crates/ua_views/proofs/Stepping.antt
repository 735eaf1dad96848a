-- The elements of a list, one after the other.
use Rattle.std.proofs.Common.{◌≡◌, ℕ, ◌-◌, List, [], ◌∷◌, Option, Some, None, refl}
use Rattle.ua_binary.specs.Reading.{Reading}
use Rattle.ua_binary.specs.Arrays.{elements_reading}
use Rattle.ua_views.specs.Views.{or_none, value_or}
use Rattle.ua_views.proofs.Looking.{IsAtEnd, IsNext}

module _ {A : Type 0} where
  -- nothing is yielded at the end
  pub ends : (list : Option (List A)) → IsAtEnd list → (or_none list ≡ []) × (or_none list ≡ [])
  ends None end = (refl, refl)
  ends (Some []) end = (refl, refl)
  ends (Some (x ∷ xs)) end = absurd (let none = end.element in cc)

  -- and the next element before, with the others behind it
  pub yields : (reading : Reading A) (n : ℕ) (x : A) (rest : List ℕ) (list : Option (List A)) → IsNext reading n x rest list
      → or_none list ≡ x ∷ value_or [] (elements_reading reading (n - 1) rest)
  yields reading n x rest None next = absurd (let none = next.element in cc)
  yields reading n x rest (Some []) next = absurd (let none = next.element in cc)
  yields reading n x rest (Some (y ∷ ys)) next = let first = next.element in let others = next.others in cc
