-- What the steps of a statement do to look-ups by a test.
use Rattle.std.proofs.Common.{◌≡◌, inl, inr, ℤ, Bool, true, false, not, cond, List, [], ◌∷◌, Some, None, Ordering, Less, Equal, Greater, refl, sym, ap, subst, ◌∙◌, true≢false}
use Rattle.std.specs.Prelude.{find}
use Rattle.std.specs.Ordering.{is_eq, match_ordering}
use Rattle.std.proofs.lemmas.Bool.{or_parts}
use Rattle.sqlite.specs.Order.{Row, value_cmp}
use Rattle.sqlite.specs.Tree.{rowid, has_rowid, put_row, without_rowid}
use Rattle.sqlite.specs.Edit.{without_all, is_taken}
use Rattle.sqlite_rules.specs.Lists.{Has}

abbrev pub Put : Ordering → Row → Row → List Row → List Row
Put o new r rows = match_ordering o (r ∷ put_row new rows) (new ∷ rows) (new ∷ r ∷ rows)

module _ (p : Row → Bool) (new : Row) where
  -- a row that does not pass comes between
  pub find_beside : p new ≡ false → (rows : List Row) → is_taken rows new ≡ false → find p (put_row new rows) ≡ find p rows
  find_beside other [] free = ap (λ b. cond b (Some new) None) other
  find_beside other (r ∷ rows) free = go (value_cmp (rowid r) (rowid new)) (or_parts _ _ free).0 (find_beside other rows (or_parts _ _ free).1)
    where
      go : (o : Ordering) → is_eq o ≡ false → find p (put_row new rows) ≡ find p rows → find p (Put o new r rows) ≡ find p (r ∷ rows)
      go Less e later = ap (cond (p r) (Some r)) later
      go Equal e later = absurd (true≢false e)
      go Greater e later = ap (λ b. cond b (Some new) (find p (r ∷ rows))) other

  -- the only row that passes
  pub find_new : p new ≡ true → (rows : List Row) → is_taken rows new ≡ false → find p rows ≡ None → find p (put_row new rows) ≡ Some new
  find_new ours [] free none = ap (λ b. cond b (Some new) None) ours
  find_new ours (r ∷ rows) free none = go (value_cmp (rowid r) (rowid new)) (or_parts _ _ free).0 (p r) refl none (find_new ours rows (or_parts _ _ free).1)
    where
      go : (o : Ordering) → is_eq o ≡ false → (b : Bool) → p r ≡ b → cond b (Some r) (find p rows) ≡ None → (find p rows ≡ None → find p (put_row new rows) ≡ Some new) → find p (Put o new r rows) ≡ Some new
      go o e true is some later = absurd (let c = some in cc)
      go Less e false is none later = ap (λ b. cond b (Some r) (find p (put_row new rows))) is ∙ later none
      go Equal e false is none later = absurd (true≢false e)
      go Greater e false is none later = ap (λ b. cond b (Some new) (find p (r ∷ rows))) ours

  pub find_put : (rows : List Row) → is_taken rows new ≡ false → (p new ≡ true → find p rows ≡ None) → find p (put_row new rows) ≡ cond (p new) (Some new) (find p rows)
  find_put rows free none = go (p new) refl
    where
      go : (b : Bool) → p new ≡ b → find p (put_row new rows) ≡ cond b (Some new) (find p rows)
      go true ours = find_new ours rows free (none ours)
      go false other = find_beside other rows free

module _ (p : Row → Bool) where
  keeps_one : (i : ℤ) (rows : List Row) → ((r : Row) → Has rows r → has_rowid i r ≡ true → p r ≡ false) → find p (without_rowid i rows) ≡ find p rows
  keeps_one i [] free = refl
  keeps_one i (r ∷ rows) free = go (has_rowid i r) refl (keeps_one i rows (λ x h. free x (inr h)))
    where
      go : (b : Bool) → has_rowid i r ≡ b → find p (without_rowid i rows) ≡ find p rows → find p (cond (not b) (r ∷ without_rowid i rows) (without_rowid i rows)) ≡ cond (p r) (Some r) (find p rows)
      go true is later = later ∙ ap (λ b. cond b (Some r) (find p rows)) (sym (free r (inl refl) is))
      go false is later = ap (cond (p r) (Some r)) later

  has_left : (i : ℤ) (rows : List Row) (x : Row) → Has (without_rowid i rows) x → Has rows x
  has_left i [] x h = h
  has_left i (r ∷ rows) x h = go (not (has_rowid i r)) h (has_left i rows x)
    where
      go : (b : Bool) → Has (cond b (r ∷ without_rowid i rows) (without_rowid i rows)) x → (Has (without_rowid i rows) x → Has rows x) → Has (r ∷ rows) x
      go true (inl same) later = inl same
      go true (inr h) later = inr (later h)
      go false h later = inr (later h)

  -- none of the rows that are taken out passes
  pub keeps_all : (ids : List ℤ) (rows : List Row) → ((i : ℤ) → Has ids i → (r : Row) → Has rows r → has_rowid i r ≡ true → p r ≡ false) → find p (without_all rows ids) ≡ find p rows
  keeps_all [] rows free = refl
  keeps_all (i ∷ ids) rows free =
      keeps_all ids (without_rowid i rows) (λ j h r there. free j (inr h) r (has_left i rows r there)) ∙ keeps_one i rows (free i (inl refl))

  gone_one : (i : ℤ) (rows : List Row) (x : Row) → Has (without_rowid i rows) x → has_rowid i x ≡ false
  gone_one i [] x h = absurd h
  gone_one i (r ∷ rows) x h = go (has_rowid i r) refl h (gone_one i rows x)
    where
      go : (b : Bool) → has_rowid i r ≡ b → Has (cond (not b) (r ∷ without_rowid i rows) (without_rowid i rows)) x → (Has (without_rowid i rows) x → has_rowid i x ≡ false) → has_rowid i x ≡ false
      go true is h later = later h
      go false is (inl same) later = ap (has_rowid i) same ∙ is
      go false is (inr h) later = later h

  pub all_gone : (ids : List ℤ) (rows : List Row) (x : Row) (i : ℤ) → Has ids i → Has (without_all rows ids) x → has_rowid i x ≡ false
  all_gone [] rows x i h there = absurd h
  all_gone (j ∷ ids) rows x i (inl same) there = subst (λ k. has_rowid k x ≡ false) (sym same) (gone_one j rows x (back ids (without_rowid j rows) there))
    where
      back : (ids : List ℤ) (rows : List Row) → Has (without_all rows ids) x → Has rows x
      back [] rows h = h
      back (k ∷ ids) rows h = has_left k rows x (back ids (without_rowid k rows) h)
  all_gone (j ∷ ids) rows x i (inr h) there = all_gone ids (without_rowid j rows) x i h there

  pub none_has : (rows : List Row) → ((x : Row) → Has rows x → p x ≡ false) → find p rows ≡ None
  none_has [] each = refl
  none_has (r ∷ rows) each = ap (λ b. cond b (Some r) (find p rows)) (each r (inl refl)) ∙ none_has rows (λ x h. each x (inr h))
