-- Rows keep numbers of their own.
use Rattle.std.proofs.Common.{◌≡◌, inl, inr, ◌≤◌, ℤ, Bool, true, false, not, cond, List, [], ◌∷◌, length, filter, Ordering, Less, Equal, Greater, refl, sym, ap, subst, ◌∙◌, true≢false, IsTrue, arith}
use Rattle.std.specs.List.{AllByRecursion}
use Rattle.std.specs.Ordering.{is_eq}
use Rattle.std.proofs.lemmas.Bool.{or_parts}
use Rattle.std.proofs.lemmas.Cmp.{tied_itself}
use Rattle.sqlite.specs.declared.types.Value.TheVariants.{Int}
use Rattle.sqlite.specs.Order.{Row, value_cmp}
use Rattle.sqlite_value.proofs.OrderLemmas.{value_cmp_total, value_cmp-Int}
use Rattle.std.proofs.lemmas.Map.Lookups.{exact_signed}
use Rattle.sqlite.specs.Tree.{rowid, has_rowid, put_row, without_rowid}
use Rattle.sqlite.specs.Edit.{without_all, is_taken, id_in}
use Rattle.sqlite.specs.View.{is_int}
use Rattle.sqlite_rules.specs.Lists.{Has}
use Rattle.sqlite_rules.proofs.ListLemmas.{has_kept, all_has, all_from}
use Rattle.sqlite_rules.proofs.TableLemmas.{int_is, put_has, without_all_has}
use Rattle.value_store.specs.Model.{AreNumbered}
use Rattle.value_store.proofs.Finds.{Put}

pub equal_of : (o : Ordering) → is_eq o ≡ true → o ≡ Equal
equal_of Less h = absurd (true≢false (sym h))
equal_of Equal h = refl
equal_of Greater h = absurd (true≢false (sym h))

pub has_int : (rows : List Row) → AllByRecursion (λ r. IsTrue (is_int (rowid r))) rows → (r : Row) → Has rows r → is_int (rowid r) ≡ true
has_int rows all r h = all_has (λ r. IsTrue (is_int (rowid r))) rows r all h

pub own_number : (r : Row) → is_int (rowid r) ≡ true → has_rowid (id_in (rowid r)) r ≡ true
own_number r int = ap is_eq (subst (λ v. value_cmp (rowid r) v ≡ Equal) (int_is (rowid r) int) (tied_itself value_cmp_total (rowid r)))

lone : {X : Type 0} (xs : List X) (x y : X) → length xs ≤ 1 → Has xs x → Has xs y → x ≡ y
lone [] x y short hx hy = absurd hx
lone (a ∷ []) x y short (inl ex) (inl ey) = ex ∙ sym ey
lone (a ∷ []) x y short (inr hx) hy = absurd hx
lone (a ∷ []) x y short hx (inr hy) = absurd hy
lone (a ∷ b ∷ more) x y short hx hy = absurd (omega arith)

-- two rows with one number are one
pub same_row : (rows : List Row) → AreNumbered rows → (n : ℤ) (x y : Row) → Has rows x → Has rows y → has_rowid n x ≡ true → has_rowid n y ≡ true → x ≡ y
same_row rows all n x y hx hy px py = lone (filter (has_rowid n) rows) x y (all.1 n) (has_kept (has_rowid n) rows x hx px) (has_kept (has_rowid n) rows y hy py)

fewer : {X : Type 0} (p q : X → Bool) (xs : List X) → length (filter p (filter q xs)) ≤ length (filter p xs)
fewer p q [] = omega arith
fewer p q (x ∷ xs) = go (q x) (p x) refl (fewer p q xs)
  where
    go : (b c : Bool) → p x ≡ c → length (filter p (filter q xs)) ≤ length (filter p xs) → length (filter p (cond b (x ∷ filter q xs) (filter q xs))) ≤ length (cond c (x ∷ filter p xs) (filter p xs))
    go true true is less = subst (λ c. length (cond c (x ∷ filter p (filter q xs)) (filter p (filter q xs))) ≤ length (x ∷ filter p xs)) (sym is) (omega arith)
    go true false is less = subst (λ c. length (cond c (x ∷ filter p (filter q xs)) (filter p (filter q xs))) ≤ length (filter p xs)) (sym is) less
    go false true is less = omega arith
    go false false is less = less

fewer_all : (p : Row → Bool) (ids : List ℤ) (rows : List Row) → length (filter p (without_all rows ids)) ≤ length (filter p rows)
fewer_all p [] rows = omega arith
fewer_all p (i ∷ ids) rows = omega (arith, fewer_all p ids (without_rowid i rows), fewer p (λ r. not (has_rowid i r)) rows)

pub numbered_without : (ids : List ℤ) (rows : List Row) → AreNumbered rows → AreNumbered (without_all rows ids)
numbered_without ids rows all = (
  all_from (λ r. IsTrue (is_int (rowid r))) (without_all rows ids) (λ r h. has_int rows all.0 r (without_all_has ids rows r h)),
  λ n. omega (arith, all.1 n, fewer_all (has_rowid n) ids rows),
)

-- one more, in whatever place
put_count : (p : Row → Bool) (new : Row) (rows : List Row) → is_taken rows new ≡ false → length (filter p (put_row new rows)) ≡ length (filter p (new ∷ rows))
put_count p new [] free = refl
put_count p new (r ∷ rows) free = go (value_cmp (rowid r) (rowid new)) (or_parts _ _ free).0 (p r) (p new) refl refl (put_count p new rows (or_parts _ _ free).1)
  where
    go : (o : Ordering) → is_eq o ≡ false → (a b : Bool) → p r ≡ a → p new ≡ b → length (filter p (put_row new rows)) ≡ length (filter p (new ∷ rows))
        → length (filter p (Put o new r rows)) ≡ length (filter p (new ∷ r ∷ rows))
    go Less e true true is isn later = rw (is, isn) (let more = rw isn at later in omega (arith, more))
    go Less e true false is isn later = rw (is, isn) (let more = rw isn at later in omega (arith, more))
    go Less e false true is isn later = rw (is, isn) (let more = rw isn at later in omega (arith, more))
    go Less e false false is isn later = rw (is, isn) (let more = rw isn at later in omega (arith, more))
    go Equal e a b is isn later = absurd (true≢false e)
    go Greater e a b is isn later = refl

none_kept : (p : Row → Bool) (rows : List Row) → ((r : Row) → Has rows r → p r ≡ false) → filter p rows ≡ []
none_kept p [] each = refl
none_kept p (r ∷ rows) each = ap (λ b. cond b (r ∷ filter p rows) (filter p rows)) (each r (inl refl)) ∙ none_kept p rows (λ x h. each x (inr h))

pub untaken : (rows : List Row) (new : Row) → is_taken rows new ≡ false → (r : Row) → Has rows r → is_eq (value_cmp (rowid r) (rowid new)) ≡ false
untaken [] new free r h = absurd h
untaken (x ∷ rows) new free r (inl same) = ap (λ z. is_eq (value_cmp (rowid z) (rowid new))) same ∙ (or_parts _ _ free).0
untaken (x ∷ rows) new free r (inr h) = untaken rows new (or_parts _ _ free).1 r h

pub number_is : (new : Row) (id n : ℤ) → rowid new ≡ Int id → has_rowid n new ≡ true → rowid new ≡ Int n
number_is new id n is ours =
    let tie : value_cmp (Int id) (Int n) ≡ Equal = subst (λ v. value_cmp v (Int n) ≡ Equal) is (equal_of _ ours) in
    is ∙ ap Int (exact_signed id n (sym (value_cmp-Int id n) ∙ tie))

pub numbered_put : (new : Row) (id : ℤ) → rowid new ≡ Int id → (rows : List Row) → is_taken rows new ≡ false → AreNumbered rows → AreNumbered (put_row new rows)
numbered_put new id is rows free all = (
  all_from (λ r. IsTrue (is_int (rowid r))) (put_row new rows) (λ r h. elim (put_has new rows r h) [
    | inl same ↦ ap (λ z. is_int (rowid z)) same ∙ ap is_int is
    | inr there ↦ has_int rows all.0 r there
  ]),
  λ n. subst (λ k. k ≤ 1) (sym (put_count (has_rowid n) new rows free)) (most n (has_rowid n new) refl),
)
  where
    most : (n : ℤ) (b : Bool) → has_rowid n new ≡ b → length (cond b (new ∷ filter (has_rowid n) rows) (filter (has_rowid n) rows)) ≤ 1
    most n false other = all.1 n
    most n true ours =
        let same = number_is new id n is ours in
        let none = none_kept (has_rowid n) rows (λ r h. subst (λ v. is_eq (value_cmp (rowid r) v) ≡ false) same (untaken rows new free r h)) in
        rw none (omega arith)
