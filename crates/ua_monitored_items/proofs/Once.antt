-- Items are released once, however many others release them: neither the order nor the number of times makes a difference.
use Rattle.std.proofs.Common.{◌≡◌, ℕ, Bool, true, false, cond, List, [], ◌∷◌, Option, Some, None, refl, ap, sym, ◌∙◌}
use Rattle.std.specs.Prelude.{◌==◌, ◌&&◌, length, nat_lt}
use Rattle.std.specs.BTreeMap.{is_at}
use Rattle.std.specs.BTreeSet.{insert_key}
use Rattle.std.specs.Ordering.{nat_cmp, is_eq, match_ordering, ordering_then}
use Rattle.std.specs.declared.cmp.Ordering.{Ordering}
use Rattle.std.specs.declared.cmp.Ordering.TheVariants.{Less, Equal, Greater}
use Rattle.collections.proofs.NumberMaps.{same_number}
use Rattle.ua_monitored_items.specs.Item.{is_sampling, released_in}
use Rattle.ua_monitored_items.specs.ItemTables.{NumberedItems, item_at, with_found, with_item}
use Rattle.ua_monitored_items.specs.Releases.{with_release, all_released, release_cmp, with_releases}
use Rattle.ua_monitored_items.specs.declared.item.Item.{Item}
use Rattle.ua_monitored_items.specs.declared.releases.Release.{Release}

-- ---- one item

abbrev may_be : ℕ → Item → Bool
may_be subscription item = (item.subscription == subscription && is_sampling item.mode) && nat_lt 0 (length item.queue.entries)

abbrev released : Item → Item
released item = record item { released = true }

apart_item : (p q : ℕ) (item : Item) → released_in p (released_in q item) ≡ released_in q (released_in p item)
apart_item p q item = by (may_be p item) (may_be q item) refl refl
  where
    by : (b c : Bool) → may_be p item ≡ b → may_be q item ≡ c → released_in p (cond c (released item) item) ≡ released_in q (cond b (released item) item)
    by true true x y = rw (x, y) refl
    by true false x y = rw (x, y) refl
    by false true x y = rw (x, y) refl
    by false false x y = rw (x, y) refl

twice_item : (q : ℕ) (item : Item) → released_in q (released_in q item) ≡ released_in q item
twice_item q item = by (may_be q item) refl
  where
    by : (c : Bool) → may_be q item ≡ c → released_in q (cond c (released item) item) ≡ cond c (released item) item
    by true y = rw y refl
    by false y = rw y refl

-- ---- items under their numbers

changed_cons : (k : ℕ) (f : Item → Item) (e : ℕ × Item) (es : NumberedItems) → with_item k f (e ∷ es) ≡ cond (is_at (nat_cmp k) e.0) ((e.0, f e.1) ∷ es) (e ∷ with_item k f es)
changed_cons k f e es = by (is_at (nat_cmp k) e.0) refl (item_at k es) refl
  where
    by : (b : Bool) → is_at (nat_cmp k) e.0 ≡ b → (o : Option Item) → item_at k es ≡ o
        → with_found k f (e ∷ es) (cond b (Some e.1) o) ≡ cond b ((e.0, f e.1) ∷ es) (e ∷ with_found k f es o)
    by true x o y = rw x refl
    by false x None y = refl
    by false x (Some item) y = rw x refl

released_cons : (r : Release) (e : ℕ × Item) (es : NumberedItems)
    → with_release (e ∷ es) r ≡ cond (is_at (nat_cmp r.number) e.0) ((e.0, released_in r.subscription e.1) ∷ es) (e ∷ with_release es r)
released_cons r e es = changed_cons r.number (released_in r.subscription) e es

found_here : (r : Release) (e : ℕ × Item) (es : NumberedItems) → is_at (nat_cmp r.number) e.0 ≡ true → with_release (e ∷ es) r ≡ (e.0, released_in r.subscription e.1) ∷ es
found_here r e es here =
    released_cons r e es ∙ ap (λ (b : Bool). cond b ((e.0, released_in r.subscription e.1) ∷ es) (e ∷ with_release es r)) here

found_behind : (r : Release) (e : ℕ × Item) (es : NumberedItems) → is_at (nat_cmp r.number) e.0 ≡ false → with_release (e ∷ es) r ≡ e ∷ with_release es r
found_behind r e es behind =
    released_cons r e es ∙ ap (λ (b : Bool). cond b ((e.0, released_in r.subscription e.1) ∷ es) (e ∷ with_release es r)) behind

apart : (r s : Release) (es : NumberedItems) → with_release (with_release es r) s ≡ with_release (with_release es s) r
apart r s [] = refl
apart r s (e ∷ es) =
    ap (λ (fs : NumberedItems). with_release fs s) (released_cons r e es)
    ∙ by (apart r s es) (is_at (nat_cmp r.number) e.0) (is_at (nat_cmp s.number) e.0) refl refl
    ∙ sym (ap (λ (fs : NumberedItems). with_release fs r) (released_cons s e es))
  where
    first : Release → ℕ × Item
    first t = (e.0, released_in t.subscription e.1)

    by : with_release (with_release es r) s ≡ with_release (with_release es s) r → (b c : Bool) → is_at (nat_cmp r.number) e.0 ≡ b → is_at (nat_cmp s.number) e.0 ≡ c
        → with_release (cond b (first r ∷ es) (e ∷ with_release es r)) s ≡ with_release (cond c (first s ∷ es) (e ∷ with_release es s)) r
    by rest true true x y =
        found_here s (first r) es y ∙ ap (λ (i : Item). (e.0, i) ∷ es) (apart_item s.subscription r.subscription e.1) ∙ sym (found_here r (first s) es x)
    by rest true false x y = found_behind s (first r) es y ∙ sym (found_here r e (with_release es s) x)
    by rest false true x y = found_here s e (with_release es r) y ∙ sym (found_behind r (first s) es x)
    by rest false false x y =
        found_behind s e (with_release es r) y ∙ ap (λ (fs : NumberedItems). e ∷ fs) rest ∙ sym (found_behind r e (with_release es s) x)

twice : (r : Release) (es : NumberedItems) → with_release (with_release es r) r ≡ with_release es r
twice r [] = refl
twice r (e ∷ es) = ap (λ (fs : NumberedItems). with_release fs r) (released_cons r e es) ∙ by (twice r es) (is_at (nat_cmp r.number) e.0) refl ∙ sym (released_cons r e es)
  where
    first : ℕ × Item
    first = (e.0, released_in r.subscription e.1)

    by : with_release (with_release es r) r ≡ with_release es r → (b : Bool) → is_at (nat_cmp r.number) e.0 ≡ b → with_release (cond b (first ∷ es) (e ∷ with_release es r)) r ≡ cond b (first ∷ es) (e ∷ with_release es r)
    by rest true x = found_here r first es x ∙ ap (λ (i : Item). (e.0, i) ∷ es) (twice_item r.subscription e.1)
    by rest false x = found_behind r e (with_release es r) x ∙ ap (λ (fs : NumberedItems). e ∷ fs) rest

-- ---- releases, each once

same_release : (r s : Release) → release_cmp r s ≡ Equal → r ≡ s
same_release r s is = by (nat_cmp r.subscription s.subscription) (nat_cmp r.number s.number) refl refl is
  where
    both : r.subscription ≡ s.subscription → r.number ≡ s.number → r ≡ s
    both x y = ap (λ (n : ℕ). record { subscription = n; number = r.number }) x ∙ ap (λ (n : ℕ). record { subscription = s.subscription; number = n }) y

    by : (o p : Ordering) → nat_cmp r.subscription s.subscription ≡ o → nat_cmp r.number s.number ≡ p → ordering_then o p ≡ Equal → r ≡ s
    by Less p x y same = absurd cc
    by Greater p x y same = absurd cc
    by Equal Less x y same = absurd cc
    by Equal Greater x y same = absurd cc
    by Equal Equal x y same = both (same_number r.subscription s.subscription (ap is_eq x)) (same_number r.number s.number (ap is_eq y))

later : (items : NumberedItems) (rs : List Release) (r : Release) → all_released (with_release items r) rs ≡ with_release (all_released items rs) r
later items [] r = refl
later items (s ∷ rs) r = ap (λ (es : NumberedItems). all_released es rs) (apart r s items) ∙ later (with_release items s) rs r

one_put : (items : NumberedItems) (rs : List Release) (r : Release) → all_released items (insert_key release_cmp rs r) ≡ with_release (all_released items rs) r
one_put items [] r = refl
one_put items (s ∷ rs) r = by (one_put (with_release items s) rs r) (release_cmp r s) refl
  where
    by : all_released (with_release items s) (insert_key release_cmp rs r) ≡ with_release (all_released (with_release items s) rs) r → (o : Ordering) → release_cmp r s ≡ o → all_released items (match_ordering o (r ∷ s ∷ rs) (s ∷ rs) (s ∷ insert_key release_cmp rs r)) ≡ with_release (all_released items (s ∷ rs)) r
    by rest Less x = later items (s ∷ rs) r
    by rest Equal x =
        sym (ap (λ (es : NumberedItems). all_released es rs) (twice s items)) ∙ later (with_release items s) rs s
        ∙ ap (with_release (all_released items (s ∷ rs))) (sym (same_release r s x))
    by rest Greater x = rest

each_once : (items : NumberedItems) (before more : List Release) → all_released items (with_releases before more) ≡ all_released (all_released items before) more
each_once items before [] = refl
each_once items before (r ∷ more) =
    each_once items (insert_key release_cmp before r) more ∙ ap (λ (es : NumberedItems). all_released es more) (one_put items before r)

-- what is released by many is released once
pub once : (items : NumberedItems) (releases : List Release) → all_released items (with_releases [] releases) ≡ all_released items releases
once items releases = each_once items [] releases
