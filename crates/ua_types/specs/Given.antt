-- What counts as given among optional fields of a request.
use Rattle.std.specs.Prelude.{ℕ, Bool, true, false, List, [], ◌∷◌, Option, Some, None}

-- neither null nor empty
abbrev pub is_given : Option (List ℕ) → Bool
is_given None = false
is_given (Some []) = false
is_given (Some (b ∷ bs)) = true
