-- Lists with dimensions: which elements fit in which dimensions, and how such lists are compared, element
-- by element, and then by the dimensions.
use Rattle.std.specs.Prelude.{◌≡◌, ℕ, ◌*◌, ◌<◌, ◌^◌, List, [], ◌∷◌, length, Bool, true, nat_lt, ◌==◌, ◌&&◌, Option, None, Some}
use Rattle.std.specs.List.{list_all}
use Rattle.std.specs.declared.cmp.Ordering.{Ordering}
use Rattle.std.specs.Cmp.{IsEquivalence, IsTotalOrder, on_equiv, and_equiv, on_total, then_total, both_tied}
use Rattle.std.specs.Cmp.Lexicographic.{pointwise, slice_cmp, lists_equiv, lists_total, lists_ties, nat_list_cmp_total, nat_list_eq_equiv, texts_ties}
use Rattle.std.specs.Ordering.{nat_cmp, ordering_then, eq_by_cmp}

-- of no dimensions it is 1
abbrev pub product : List ℕ → ℕ
product [] = 1
product (d ∷ ds) = d * product ds

-- no dimension is negative, which as an unsigned number is 2 ^ 31 or more, and the product is the number of elements
abbrev pub is_shape : List ℕ → ℕ → Bool
is_shape dimensions count = list_all (λ d. nat_lt d (2 ^ 31)) dimensions && (product dimensions == count)

-- null dimensions are none
abbrev pub or_none : Option (List ℕ) → List ℕ
or_none None = []
or_none (Some dimensions) = dimensions

-- the elements lie in the dimensions, and both are lists that can be written
pub record IsShaped {A : Type 0} (elements : List A) (dimensions : List ℕ) : Type 0 where
  pub few : length elements < 2 ^ 31
  pub rank : length dimensions < 2 ^ 31
  pub shape : is_shape dimensions (length elements) ≡ true

-- ---- how they are compared

abbrev pub same_matrix : {A : Type 0} → (A → A → Bool) → List A × List ℕ → List A × List ℕ → Bool
same_matrix same x y = pointwise same x.0 y.0 && pointwise ◌==◌ x.1 y.1

abbrev pub matrix_cmp : {A : Type 0} → (A → A → Ordering) → List A × List ℕ → List A × List ℕ → Ordering
matrix_cmp cmp x y = ordering_then (slice_cmp cmp x.0 y.0) (slice_cmp nat_cmp x.1 y.1)

-- ---- they are an equality and an order

pub same_matrix_equiv : {A : Type 0} {same : A → A → Bool} → IsEquivalence same → IsEquivalence (same_matrix same)
same_matrix_equiv e = and_equiv (on_equiv (λ m. m.0) (lists_equiv e)) (on_equiv (λ m. m.1) nat_list_eq_equiv)

pub matrix_cmp_total : {A : Type 0} {cmp : A → A → Ordering} → IsTotalOrder cmp → IsTotalOrder (matrix_cmp cmp)
matrix_cmp_total t = then_total (on_total (λ m. m.0) (lists_total t)) (on_total (λ m. m.1) nat_list_cmp_total)

pub matrix_ties : {A : Type 0} {same : A → A → Bool} (cmp : A → A → Ordering) → ((x y : A) → same x y ≡ eq_by_cmp cmp x y) → (x y : List A × List ℕ) → same_matrix same x y ≡ eq_by_cmp (matrix_cmp cmp) x y
matrix_ties cmp ties x y = both_tied _ _ (slice_cmp cmp x.0 y.0) (slice_cmp nat_cmp x.1 y.1) (lists_ties cmp ties x.0 y.0) (texts_ties x.1 y.1)
