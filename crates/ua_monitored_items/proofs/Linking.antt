-- Links, one after the other.
use Rattle.std.proofs.Common.{◌≡◌, ℕ, Bool, true, false, cond, List, [], ◌∷◌, ◌++◌, length, Some, Ok, refl, sym, ap, ◌∙◌, append-nil, arith}
use Rattle.std.proofs.lemmas.List.Sums.{fold-append}
use Rattle.std.specs.Prelude.{filter, fold}
use Rattle.std.specs.BTreeMap.{is_at}
use Rattle.std.specs.BTreeSet.{insert_key}
use Rattle.std.specs.Ordering.{nat_cmp}
use Rattle.ua_types.specs.declared.status.Status.{Status}
use Rattle.ua_monitored_items.specs.Item.{with_links}
use Rattle.ua_monitored_items.specs.ItemTables.{NumberedItems, item_at, with_found}
use Rattle.ua_monitored_items.specs.Items.{ItemsState, own_item, with_change}
use Rattle.ua_monitored_items.specs.Links.{Linking, link_status, may_link, linked, in_order, linked_by, link}
use Rattle.ua_monitored_items.specs.declared.item.Item.{Item}
use Rattle.ua_monitored_items.proofs.Edits.{set_same}
use Rattle.ua_monitored_items.proofs.Runs.{own_is}

module _ (p : ℕ → Bool) where
  filter_more : (front : List ℕ) (n : ℕ) (b : Bool) → p n ≡ b → filter p (front ++ n ∷ []) ≡ filter p front ++ cond b (n ∷ []) []
  filter_more [] n true e = rw e refl
  filter_more [] n false e = rw e refl
  filter_more (k ∷ ks) n b e = by (p k) (filter_more ks n b e)
    where
      by : (c : Bool) → filter p (ks ++ n ∷ []) ≡ filter p ks ++ cond b (n ∷ []) [] → cond c (k ∷ filter p (ks ++ n ∷ [])) (filter p (ks ++ n ∷ [])) ≡ cond c (k ∷ filter p ks) (filter p ks) ++ cond b (n ∷ []) []
      by true rest = ap (λ (ns : List ℕ). k ∷ ns) rest
      by false rest = rest

  -- a number that passes is put in, and another isn't
  pub passing_more : (front : List ℕ) (n : ℕ) → in_order (filter p (front ++ n ∷ [])) ≡ cond (p n) (insert_key nat_cmp (in_order (filter p front)) n) (in_order (filter p front))
  passing_more front n = ap in_order (filter_more front n (p n) refl) ∙ by (p n)
    where
      by : (b : Bool) → in_order (filter p front ++ cond b (n ∷ []) []) ≡ cond b (insert_key nat_cmp (in_order (filter p front)) n) (in_order (filter p front))
      by true = fold-append (insert_key nat_cmp) [] (filter p front) (n ∷ [])
      by false = ap in_order (append-nil (filter p front))

-- ---- a request without entries

-- an item that gets the links that it has stays as it is
links_again : (s : ItemsState) (triggering : ℕ) (item : Item) → item_at triggering s.items ≡ Some item → with_change s triggering (with_links item.links) ≡ s
links_again s triggering item found =
    ap (λ (items : NumberedItems). record s { items = items }) (ap (with_found triggering (with_links item.links) s.items) found ∙ set_same (is_at (nat_cmp triggering)) s.items item found)

-- nothing changes
pub no_entry : (s : ItemsState) (subscription triggering : ℕ) (add remove : List ℕ) (item : Item) → length add ≡ 0 → length remove ≡ 0 → own_item s subscription triggering ≡ Some item
    → link s subscription triggering add remove ≡ Ok (record { added = []; removed = []; state = s })
unfolding link
no_entry s subscription triggering [] [] item none none_too own =
    ap (linked_by s subscription triggering [] []) own
    ∙ ap (λ (state : ItemsState). Ok (record { added = []; removed = []; state = state })) (links_again s triggering item (own_is subscription (item_at triggering s.items) item own))
no_entry s subscription triggering [] (n ∷ ns) item none none_too own = grind arith
no_entry s subscription triggering (n ∷ ns) remove item none none_too own = grind arith

-- ---- entries, one after the other

-- one more item is linked, or refused
module _ (s : ItemsState) (subscription triggering : ℕ) (start : Linking) (front : List ℕ) (number : ℕ) where
  pub statuses_more : (statuses : List Status) (one : Status) → statuses ≡ (fold (linked s subscription triggering) start front).statuses → one ≡ link_status (may_link s subscription triggering number)
      → statuses ++ one ∷ [] ≡ (fold (linked s subscription triggering) start (front ++ number ∷ [])).statuses
  statuses_more statuses one are is =
      ap (λ (xs : List Status). xs ++ one ∷ []) are
      ∙ ap (λ (x : Status). (fold (linked s subscription triggering) start front).statuses ++ x ∷ []) is
      ∙ ap (λ (l : Linking). l.statuses) (sym (fold-append (linked s subscription triggering) start front (number ∷ [])))

  pub numbers_more : (numbers new : List ℕ) → numbers ≡ (fold (linked s subscription triggering) start front).numbers
      → new ≡ cond (may_link s subscription triggering number) (insert_key nat_cmp numbers number) numbers → new ≡ (fold (linked s subscription triggering) start (front ++ number ∷ [])).numbers
  numbers_more numbers new are is =
      is
      ∙ ap (λ (ns : List ℕ). cond (may_link s subscription triggering number) (insert_key nat_cmp ns number) ns) are
      ∙ ap (λ (l : Linking). l.numbers) (sym (fold-append (linked s subscription triggering) start front (number ∷ [])))
