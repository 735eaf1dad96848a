-- How many elements a flat list has, told by its length and by the number of its dimensions.
use Rattle.std.proofs.Common.{◌≡◌, ◌<◌, ◌≤◌, ℕ, List, [], ◌∷◌, Bool, true, false, length, Option, Some, None, Ok, refl, arith}
use Rattle.std.specs.Prelude.{option_map, is_none}
use Rattle.std.specs.Int.{w32}
use Rattle.std.proofs.lemmas.Result.{IfOk-at_ok}
use Rattle.ua_types.specs.Matrices.{is_shape}
use Rattle.ua_types.specs.Parts.{flat_len_of, flat_len_in}
use Rattle.ua_types.specs.declared.content.Content.TheVariants.{Array}
use Rattle.ua_binary.specs.Numbers.{number_reading}
use Rattle.ua_binary.specs.Arrays.{elements_reading}
use Rattle.ua_binary.proofs.Counts.{counted}
use Rattle.ua_views.specs.Views.{or_none}
use Rattle.ua_views.specs.Shapes.{rank_where_shaped}

-- ---- dimensions, by their number

pub ranked : (bytes rest dimensions : List ℕ) (count rank : ℕ) (b : Bool) → elements_reading (number_reading w32) rank bytes ≡ Ok (dimensions, rest)
    → is_shape dimensions count ≡ b → b ≡ true → rank_where_shaped dimensions count ≡ Some rank
ranked bytes rest dimensions count rank b is shaped fits =
    let many : length dimensions ≡ rank = IfOk-at_ok (λ v. length v.0 ≡ rank) is (counted (number_reading w32) rank bytes) in
    rw (shaped, fits, many) refl

-- ---- lists

pub list_counted : {A : Type 0} (list : Option (List A)) → is_none list ≡ false → option_map length list ≡ Some (length (or_none list))
list_counted None there = absurd (cc)
list_counted (Some xs) there = refl

pub list_told : {A : Type 0} (list : Option (List A)) → flat_len_in (Array list) ≡ option_map length list
list_told None = refl
list_told (Some xs) = refl

pub of_few_dimensions : {A : Type 0} (elements : List A) (dimensions : List ℕ) (rank : ℕ) → length dimensions ≡ rank → rank ≤ 1 → flat_len_of elements dimensions ≡ Some (length elements)
of_few_dimensions elements [] rank many few = refl
of_few_dimensions elements (d ∷ []) rank many few = refl
of_few_dimensions elements (d ∷ e ∷ ds) rank many few = absurd (omega arith)

pub of_more_dimensions : {A : Type 0} (elements : List A) (dimensions : List ℕ) (rank : ℕ) → length dimensions ≡ rank → 1 < rank → flat_len_of elements dimensions ≡ None
of_more_dimensions elements [] rank many more = absurd (omega arith)
of_more_dimensions elements (d ∷ []) rank many more = absurd (omega arith)
of_more_dimensions elements (d ∷ e ∷ ds) rank many more = refl
