-- How contents are compared: which case comes first, then element by element, then by the dimensions.
-- Two are the same where neither comes before the other.
use Rattle.std.specs.Prelude.{◌≡◌, ℕ, ◌==◌, ◌&&◌, Bool, List, [], Option, Some, None, refl}
use Rattle.std.specs.declared.cmp.Ordering.{Ordering}
use Rattle.std.specs.Cmp.{IsEquivalence, IsTotalOrder, on_equiv, and_equiv, on_total, then_total, both_tied, nat_cmp_total, nat_eq_equiv, unsigned_ties}
use Rattle.std.specs.Cmp.Lexicographic.{pointwise, slice_cmp, lists_equiv, lists_total, lists_ties, options_equiv, options_total, nat_list_cmp_total, nat_list_eq_equiv, texts_ties}
use Rattle.std.specs.Ordering.{nat_cmp, ordering_then, is_eq, eq_by_cmp}
use Rattle.std.specs.Option.{option_eq, option_cmp}
use Rattle.ua_types.specs.declared.content.Content.{Content}
use Rattle.ua_types.specs.declared.content.Content.TheVariants.{Scalar, Array, Matrix}

-- a value, the null list, a list, and a list with dimensions
abbrev pub place_of : {A : Type 0} → Content A → ℕ
place_of (Scalar x) = 0
place_of (Array None) = 1
place_of (Array (Some elements)) = 2
place_of (Matrix m) = 3

abbrev pub scalar_of : {A : Type 0} → Content A → Option A
scalar_of (Scalar x) = Some x
scalar_of (Array elements) = None
scalar_of (Matrix m) = None

abbrev pub elements_of : {A : Type 0} → Content A → List A
elements_of (Scalar x) = []
elements_of (Array None) = []
elements_of (Array (Some elements)) = elements
elements_of (Matrix m) = m.0

abbrev pub dimensions_of : {A : Type 0} → Content A → List ℕ
dimensions_of (Scalar x) = []
dimensions_of (Array elements) = []
dimensions_of (Matrix m) = m.1

abbrev pub same_content : {A : Type 0} → (A → A → Bool) → Content A → Content A → Bool
same_content same x y =
    ((place_of x == place_of y && option_eq same (scalar_of x) (scalar_of y))
    && pointwise same (elements_of x) (elements_of y)) && pointwise ◌==◌ (dimensions_of x) (dimensions_of y)

abbrev pub content_cmp : {A : Type 0} → (A → A → Ordering) → Content A → Content A → Ordering
content_cmp cmp x y =
    ordering_then (ordering_then (ordering_then (nat_cmp (place_of x) (place_of y)) (option_cmp cmp (scalar_of x) (scalar_of y)))
    (slice_cmp cmp (elements_of x) (elements_of y))) (slice_cmp nat_cmp (dimensions_of x) (dimensions_of y))

-- ---- they are an equality and an order

pub same_content_equiv : {A : Type 0} {same : A → A → Bool} → IsEquivalence same → IsEquivalence (same_content same)
same_content_equiv e = and_equiv (and_equiv (and_equiv (on_equiv place_of nat_eq_equiv) (on_equiv scalar_of (options_equiv e))) (on_equiv elements_of (lists_equiv e))) (on_equiv dimensions_of nat_list_eq_equiv)

pub content_cmp_total : {A : Type 0} {cmp : A → A → Ordering} → IsTotalOrder cmp → IsTotalOrder (content_cmp cmp)
content_cmp_total t = then_total (then_total (then_total (on_total place_of nat_cmp_total) (on_total scalar_of (options_total t))) (on_total elements_of (lists_total t))) (on_total dimensions_of nat_list_cmp_total)

scalar_ties : {A : Type 0} {same : A → A → Bool} (cmp : A → A → Ordering) → ((x y : A) → same x y ≡ eq_by_cmp cmp x y) → (x y : Option A) → option_eq same x y ≡ is_eq (option_cmp cmp x y)
scalar_ties cmp ties None None = refl
scalar_ties cmp ties None (Some y) = refl
scalar_ties cmp ties (Some x) None = refl
scalar_ties cmp ties (Some x) (Some y) = ties x y

-- contents are the same where the order has neither before the other
pub content_ties : {A : Type 0} {same : A → A → Bool} (cmp : A → A → Ordering) → ((x y : A) → same x y ≡ eq_by_cmp cmp x y) → (x y : Content A) → same_content same x y ≡ eq_by_cmp (content_cmp cmp) x y
content_ties cmp ties x y =
    let place = nat_cmp (place_of x) (place_of y) in
    let scalar = option_cmp cmp (scalar_of x) (scalar_of y) in
    let elements = slice_cmp cmp (elements_of x) (elements_of y) in
    both_tied _ _ (ordering_then (ordering_then place scalar) elements) (slice_cmp nat_cmp (dimensions_of x) (dimensions_of y))
    (both_tied _ _ (ordering_then place scalar) elements
    (both_tied _ _ place scalar (unsigned_ties (place_of x) (place_of y)) (scalar_ties cmp ties (scalar_of x) (scalar_of y)))
    (lists_ties cmp ties (elements_of x) (elements_of y)))
    (texts_ties (dimensions_of x) (dimensions_of y))
