-- What is left when the rows that pass a test are taken out by their numbers.
use Rattle.std.proofs.Common.{◌≡◌, inl, inr, ℤ, Bool, true, false, List, [], ◌∷◌, sym, refl, ap, subst, ◌∙◌, true≢false}
use Rattle.std.specs.Prelude.{find, None}
use Rattle.std.proofs.lemmas.Bool.{false_from_ne_true}
use Rattle.sqlite.specs.Order.{Row}
use Rattle.sqlite.specs.Tree.{rowid, has_rowid}
use Rattle.sqlite.specs.Edit.{without_all, id_in}
use Rattle.sqlite_rules.specs.Lists.{Has}
use Rattle.sqlite_rules.specs.Calls.{ids_of}
use Rattle.sqlite_rules.proofs.TableLemmas.{without_all_has}
use Rattle.value_store.specs.Model.{AreNumbered}
use Rattle.value_store.proofs.Finds.{keeps_all, all_gone, none_has}
use Rattle.value_store.proofs.Numbers.{has_int, own_number, same_row}

has_id : (found : List Row) (x : Row) → Has found x → Has (ids_of found) (id_in (rowid x))
has_id [] x h = absurd h
has_id (y ∷ found) x (inl same) = inl (ap (λ z. id_in (rowid z)) same)
has_id (y ∷ found) x (inr h) = inr (has_id found x h)

id_of : (found : List Row) (i : ℤ) → Has (ids_of found) i → (x : Row) × Has found x × (i ≡ id_in (rowid x))
id_of [] i h = absurd h
id_of (y ∷ found) i (inl same) = (y, inl refl, same)
id_of (y ∷ found) i (inr h) = let more = id_of found i h in (more.0, inr more.1, more.2)

-- what is shown of the rows that pass, their numbers first, and of no others
pub record AreOf (f : Row → Row) (p : Row → Bool) (rows found : List Row) : Type 0 where
  pub own : (r : Row) → rowid (f r) ≡ rowid r
  pub sound : (x : Row) → Has found x → (r : Row) × Has rows r × (p r ≡ true) × (x ≡ f r)
  pub complete : (r : Row) → Has rows r → p r ≡ true → Has found (f r)

module _ (f : Row → Row) (p : Row → Bool) (rows found : List Row) (numbered : AreNumbered rows) (c : AreOf f p rows found) where
  gone : (r : Row) → Has (without_all rows (ids_of found)) r → p r ≡ false
  gone r there = false_from_ne_true _ (λ passes.
      let was = without_all_has (ids_of found) rows r there in
      let listed : Has (ids_of found) (id_in (rowid r)) = subst (λ v. Has (ids_of found) (id_in v)) (c.own r) (has_id found (f r) (c.complete r was passes)) in
      let out = all_gone p (ids_of found) rows r (id_in (rowid r)) listed there in
      true≢false (sym (own_number r (has_int rows numbered.0 r was)) ∙ out))

  -- none that passes is left
  pub none_left : (q : Row → Bool) → ((r : Row) → q r ≡ true → p r ≡ true) → find q (without_all rows (ids_of found)) ≡ None
  none_left q so = none_has q (without_all rows (ids_of found)) (λ r there. false_from_ne_true _ (λ passes. true≢false (sym (so r passes) ∙ gone r there)))

  -- and each other stays
  pub others_left : (q : Row → Bool) → ((r : Row) → p r ≡ true → q r ≡ false) → find q (without_all rows (ids_of found)) ≡ find q rows
  others_left q apart = keeps_all q (ids_of found) rows (λ i listed r there tied. false_from_ne_true _ (λ passes.
      let y = id_of found i listed in
      let s = c.sound y.0 y.1 in
      let whose : i ≡ id_in (rowid s.0) = y.2 ∙ (ap (λ z. id_in (rowid z)) s.3 ∙ ap id_in (c.own s.0)) in
      let own = subst (λ n. has_rowid n s.0 ≡ true) (sym whose) (own_number s.0 (has_int rows numbered.0 s.0 s.1)) in
      let it = same_row rows numbered i r s.0 there s.1 tied own in
      true≢false (sym passes ∙ (ap q it ∙ apart s.0 s.2))))
