-- Lists and tables from their parts.
use Rattle.std.proofs.Common.{◌≡◌, ◌≤◌, ◌<◌, refl, List, [], ◌∷◌, length, get_or, arith, eqb, true, ap}
use Rattle.std.proofs.lemmas.Bool.Decides.{nat_tests}
use Rattle.sqlite_value.specs.declared.keys.Order.{Order}
use Rattle.sqlite_value.specs.Keys.{plain}
use Rattle.sqlite_schema.specs.declared.schema.Table.{Table}

-- from what it has at each place
pub six : {X : Type 0} (xs : List X) (p q r s t u : X) → 6 ≤ length xs → length xs < 7 → p ≡ get_or xs 0 p → q ≡ get_or xs 1 q → r ≡ get_or xs 2 r → s ≡ get_or xs 3 s
    → t ≡ get_or xs 4 t → u ≡ get_or xs 5 u → xs ≡ p ∷ q ∷ r ∷ s ∷ t ∷ u ∷ []
six (a ∷ b ∷ c ∷ e ∷ f ∷ g ∷ []) p q r s t u least most e1 e2 e3 e4 e5 e6 = rw (e1, e2, e3, e4, e5, e6) refl
six (a ∷ b ∷ c ∷ e ∷ f ∷ g ∷ h ∷ more) p q r s t u least most e1 e2 e3 e4 e5 e6 = absurd (omega arith)
six [] p q r s t u least most e1 e2 e3 e4 e5 e6 = absurd (omega arith)
six (a ∷ []) p q r s t u least most e1 e2 e3 e4 e5 e6 = absurd (omega arith)
six (a ∷ b ∷ []) p q r s t u least most e1 e2 e3 e4 e5 e6 = absurd (omega arith)
six (a ∷ b ∷ c ∷ []) p q r s t u least most e1 e2 e3 e4 e5 e6 = absurd (omega arith)
six (a ∷ b ∷ c ∷ e ∷ []) p q r s t u least most e1 e2 e3 e4 e5 e6 = absurd (omega arith)
six (a ∷ b ∷ c ∷ e ∷ f ∷ []) p q r s t u least most e1 e2 e3 e4 e5 e6 = absurd (omega arith)

pub one : {X : Type 0} (xs : List X) (p : X) → 1 ≤ length xs → length xs < 2 → p ≡ get_or xs 0 p → xs ≡ p ∷ []
one (a ∷ []) p least most e = rw e refl
one (a ∷ b ∷ more) p least most e = absurd (omega arith)
one [] p least most e = absurd (omega arith)

pub same_table : (t u : Table) → t.name ≡ u.name → t.tree ≡ u.tree → t.columns ≡ u.columns → t.key ≡ u.key → t.primary ≡ u.primary → t.uniques ≡ u.uniques → t.orders ≡ u.orders
    → t.checks ≡ u.checks → t.references ≡ u.references → t.computed ≡ u.computed → t.stamps ≡ u.stamps → t.is_counted ≡ u.is_counted → t ≡ u
same_table t u e1 e2 e3 e4 e5 e6 e7 e8 e9 e10 e11 e12 = λ i. record {
  name = e1 i;
  tree = e2 i;
  columns = e3 i;
  key = e4 i;
  primary = e5 i;
  uniques = e6 i;
  orders = e7 i;
  checks = e8 i;
  references = e9 i;
  computed = e10 i;
  stamps = e11 i;
  is_counted = e12 i;
}

pub plain_one : (xs : List Order) → 1 ≤ length xs → length xs < 2 → eqb (get_or xs 0 (record { digits = 0 })).digits 0 ≡ true → xs ≡ plain ∷ []
plain_one (a ∷ []) least most e = let same : a.digits ≡ 0 = grind (arith, nat_tests) in ap (λ n. let o : Order = record { digits = n } in o ∷ []) same
plain_one (a ∷ b ∷ more) least most e = absurd (omega arith)
plain_one [] least most e = absurd (omega arith)
