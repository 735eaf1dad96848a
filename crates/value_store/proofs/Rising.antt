-- Numbers that rise are apart.
use Rattle.std.proofs.Common.{◌≡◌, ℤ, arith, ◌≤◌, List, [], ◌∷◌, ◌++◌, length, filter, Bool, true, false, cond, Option, Some, None, refl, sym, ap, subst, ◌∙◌, IsTrue, length-append}
use Rattle.std.specs.Prelude.{◌<ℤ◌, ◌≤ℤ◌}
use Rattle.std.specs.List.{AllByRecursion}
use Rattle.std.proofs.lemmas.Int.{ints}
use Rattle.std.proofs.lemmas.Bool.{false_from_ne_true}
use Rattle.sqlite.specs.declared.types.Value.TheVariants.{Int}
use Rattle.sqlite.specs.Order.{Row, column}
use Rattle.sqlite.specs.Tree.{rowid, has_rowid}
use Rattle.sqlite.specs.View.{is_int}
use Rattle.value_store.specs.Model.{AreNumbered}
use Rattle.value_store.specs.Rows.{IsAbove}
use Rattle.value_store.proofs.Numbers.{number_is}

-- no row has a number above the last
abbrev pub AreUpTo : Option ℤ → List Row → Type 0
AreUpTo None rows = rows ≡ []
AreUpTo (Some last) rows = (n : ℤ) → last <ℤ n → filter (has_rowid n) rows ≡ []

filter_push : (p : Row → Bool) (rows : List Row) (r : Row) → filter p (rows ++ r ∷ []) ≡ filter p rows ++ cond (p r) (r ∷ []) []
filter_push p [] r = refl
filter_push p (x ∷ rows) r = go (p x) (filter_push p rows r)
  where
    go : (b : Bool) → filter p (rows ++ r ∷ []) ≡ filter p rows ++ cond (p r) (r ∷ []) []
        → cond b (x ∷ filter p (rows ++ r ∷ [])) (filter p (rows ++ r ∷ [])) ≡ cond b (x ∷ filter p rows) (filter p rows) ++ cond (p r) (r ∷ []) []
    go true later = ap (λ more. x ∷ more) later
    go false later = later

all_push : (P : Row → Type 0) (rows : List Row) (r : Row) → AllByRecursion P rows → P r → AllByRecursion P (rows ++ r ∷ [])
all_push P [] r all p = (p, tt)
all_push P (x ∷ rows) r all p = (all.0, all_push P rows r all.1 p)

none_at : (last : Option ℤ) (rows : List Row) (number n : ℤ) → AreUpTo last rows → IsAbove last number → number ≤ℤ n → filter (has_rowid n) rows ≡ []
none_at None rows number n all above high = subst (λ rs. filter (has_rowid n) rs ≡ []) (sym all) refl
none_at (Some last) rows number n all above high = all n (omega (arith, ints))

int_inside : (a b : ℤ) → Int a ≡ Int b → a ≡ b
int_inside a b e = cc

pub rises : (last : Option ℤ) (rows : List Row) (r : Row) (number : ℤ) → column r 0 ≡ Int number → AreNumbered rows → AreUpTo last rows → IsAbove last number
    → AreNumbered (rows ++ r ∷ []) × AreUpTo (Some number) (rows ++ r ∷ [])
rises last rows r number is all up above = (
  (all_push (λ r. IsTrue (is_int (rowid r))) rows r all.0 (ap is_int is), λ n. most n (has_rowid n r) refl),
  λ n high.
      let apart = false_from_ne_true (has_rowid n r) (λ same. let e = int_inside number n (sym is ∙ number_is r number n is same) in omega (arith, ints, e)) in
      filter_push (has_rowid n) rows r ∙ (ap (λ b. filter (has_rowid n) rows ++ cond b (r ∷ []) []) apart ∙ ap (λ rs. rs ++ []) (none_at last rows number n up above (omega (arith, ints)))),
)
  where
    most : (n : ℤ) (b : Bool) → has_rowid n r ≡ b → length (filter (has_rowid n) (rows ++ r ∷ [])) ≤ 1
    most n false other =
        let one = filter_push (has_rowid n) rows r ∙ ap (λ b. filter (has_rowid n) rows ++ cond b (r ∷ []) []) other in
        omega (arith, ap length one, length-append (filter (has_rowid n) rows) [], all.1 n)
    most n true ours =
        let same = int_inside number n (sym is ∙ number_is r number n is ours) in
        let none = none_at last rows number n up above (omega (arith, ints, same)) in
        let one = filter_push (has_rowid n) rows r ∙ (ap (λ b. filter (has_rowid n) rows ++ cond b (r ∷ []) []) ours ∙ ap (λ rs. rs ++ r ∷ []) none) in
        omega (arith, ap length one)

pub numbered_none : AreNumbered []
numbered_none = (tt, λ n. omega arith)
