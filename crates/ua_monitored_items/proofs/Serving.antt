-- Entries that are served one after the other.
use Rattle.std.proofs.Common.{◌≡◌, List, [], ◌∷◌, ◌++◌, Result, Ok, Err, append_assoc, refl, sym, ap, subst, ◌∙◌, ℕ, zero, suc, ◌<◌, ◌-◌, arith, map, take, drop, length, get_or, Option, Some, None, append-nil, Bool, true, false, cond, leb}
use Rattle.std.proofs.lemmas.Bool.{leb-false, leb-true}
use Rattle.std.proofs.lemmas.List.Sums.{fold-append}
use Rattle.std.proofs.lemmas.List.Concat.{flat_map-cons}
use Rattle.std.specs.Prelude.{◌&&◌, ◌||◌, flat_map, fold, nat_lt}
use Rattle.ua_types.specs.declared.data_value.DataValue.{DataValue}
use Rattle.ua_subscription_messages.specs.DataChangeMessages.{MessageDraft, with_note, with_notes}
use Rattle.ua_monitored_items.specs.Item.{seen, with_sent, gave, notes_of, waiting_in}
use Rattle.ua_monitored_items.specs.Sampling.{visits_by}
use Rattle.std.specs.Result.{OnErr}
use Rattle.ua_monitored_items.specs.ItemTables.{NumberedItems, item_at, with_item}
use Rattle.ua_monitored_items.specs.Items.{ItemsState, One, Served, nothing_served, with_one, all_served, Visit, visited, sampled_items, visit_takes, VisitedSome, waits_in, any_waits, Taking, nat_least, taken_from, with_taken, nothing_taken, taken_of}
use Rattle.ua_monitored_items.specs.declared.item.Item.{Item}
use Rattle.ua_monitored_items.proofs.Edits.{set_same}
use Rattle.std.specs.BTreeMap.{is_at}
use Rattle.std.specs.Map.{set_value}
use Rattle.std.specs.Ordering.{nat_cmp}

pub on_any : {T E P : Type 0} (r : Result T E) → P → OnErr r P
on_any (Ok x) p = tt
on_any (Err e) p = p

module _ {A R : Type 0} (serve : ItemsState → A → One R) (s : ItemsState) (xs : List A) (x : A) where
  whole : all_served serve s (xs ++ x ∷ []) ≡ with_one serve (all_served serve s xs) x
  whole = fold-append (with_one serve) (nothing_served s) xs (x ∷ [])

  pub results_more : (all_served serve s (xs ++ x ∷ [])).results ≡ (all_served serve s xs).results ++ (serve (all_served serve s xs).state x).result ∷ []
  results_more = ap (λ (w : Served R). w.results) whole

  pub state_more : (all_served serve s (xs ++ x ∷ [])).state ≡ (serve (all_served serve s xs).state x).state
  state_more = ap (λ (w : Served R). w.state) whole

-- one more entry is served, from the state that the others left
module _ {A R : Type 0} (serve : ItemsState → A → One R) (old mid : ItemsState) (front : List A) (x : A) where
  pub results_then : (results : List R) (result : R) → results ≡ (all_served serve old front).results → mid ≡ (all_served serve old front).state → result ≡ (serve mid x).result
      → results ++ result ∷ [] ≡ (all_served serve old (front ++ x ∷ [])).results
  results_then results result are left is =
      ap (λ (rs : List R). rs ++ result ∷ []) are
      ∙ ap (λ (r : R). (all_served serve old front).results ++ r ∷ []) (is ∙ ap (λ (s : ItemsState). (serve s x).result) left)
      ∙ sym (results_more serve old front x)

  pub state_then : (new : ItemsState) → mid ≡ (all_served serve old front).state → new ≡ (serve mid x).state → new ≡ (all_served serve old (front ++ x ∷ [])).state
  state_then new left is = is ∙ ap (λ (s : ItemsState). (serve s x).state) left ∙ sym (state_more serve old front x)

-- ---- visits

fold_map_more : {A B S : Type 0} (f : S → B → S) (h : A → B) (s : S) (xs : List A) (x : A) → fold f s (map h (xs ++ x ∷ [])) ≡ f (fold f s (map h xs)) (h x)
fold_map_more f h s [] x = refl
fold_map_more f h s (y ∷ ys) x = fold_map_more f h (f s (h y)) ys x

map_split : {A B : Type 0} (h : A → B) (xs ys : List A) → map h xs ++ map h ys ≡ map h (xs ++ ys)
map_split h [] ys = refl
map_split h (x ∷ xs) ys = ap (λ zs. h x ∷ zs) (map_split h xs ys)

module _ (items : NumberedItems) (value : DataValue) (front : List ℕ) (number : ℕ) where
  pub visits_more : sampled_items items (visits_by value (front ++ number ∷ [])) ≡ with_item number (seen value) (sampled_items items (visits_by value front))
  visits_more = fold_map_more visited (λ n. record { number = n; value = value }) items front number

  pub visits_before : (rest all : List ℕ) (new mid : NumberedItems) → front ++ number ∷ rest ≡ all → mid ≡ sampled_items items (visits_by value front) → new ≡ mid
      → visit_takes (record { number = number; value = value }) (item_at number mid) ≡ true → VisitedSome items new (visits_by value all)
  visits_before rest all new mid split is same takes =
      let visit : Visit = record { number = number; value = value } in (
        visits_by value front,
        visit,
        visits_by value rest,
        map_split (λ n. record { number = n; value = value }) front (number ∷ rest) ∙ ap (visits_by value) split,
        same ∙ is,
        subst (λ (es : NumberedItems). visit_takes visit (item_at number es) ≡ true) (sym same) takes,
      )

flat_split : {A B : Type 0} (f : A → List B) (xs ys : List A) (x : A) → flat_map f xs ++ (f x ++ flat_map f ys) ≡ flat_map f (xs ++ x ∷ ys)
flat_split f [] ys x = sym (flat_map-cons f x ys)
flat_split f (z ∷ zs) ys x =
    ap (λ bs. bs ++ (f x ++ flat_map f ys)) (flat_map-cons f z zs) ∙ append_assoc (f z) (flat_map f zs) (f x ++ flat_map f ys)
    ∙ ap (λ bs. f z ++ bs) (flat_split f zs ys x) ∙ sym (flat_map-cons f z (zs ++ x ∷ ys))

-- ---- what a message takes

pub taken_more : (items : NumberedItems) (n : ℕ) (front : List ℕ) (number : ℕ) → taken_of items n (front ++ number ∷ []) ≡ with_taken (taken_of items n front) number
taken_more items n front number = fold-append with_taken (nothing_taken items n) front (number ∷ [])

-- ---- entries of a slice

pub split_at : {A : Type 0} (xs : List A) (i : ℕ) (x : A) → i < length xs → x ≡ get_or xs i x → take i xs ++ x ∷ drop (suc i) xs ≡ xs
split_at [] i x less is = absurd (omega (arith, less))
split_at (y ∷ ys) zero x less is = ap (λ z. z ∷ ys) is
split_at (y ∷ ys) (suc i) x less is = ap (λ zs. y ∷ zs) (split_at ys i x (omega (arith, less)) is)

pub flat_at : {A B : Type 0} (f : A → List B) (xs : List A) (i : ℕ) (x : A) → i < length xs → x ≡ get_or xs i x → flat_map f (take i xs) ++ (f x ++ flat_map f (drop (suc i) xs)) ≡ flat_map f xs
flat_at f xs i x less here = flat_split f (take i xs) (drop (suc i) xs) x ∙ ap (flat_map f) (split_at xs i x less here)

-- ---- what a message takes, item after item

taking_is : (t u : Taking) → u.notes ≡ t.notes → u.items ≡ t.items → u.left ≡ t.left → u ≡ t
taking_is t u notes items left = rw (notes, items, left) refl

-- what is told of an item is of no account for what it gives
pub gives_alike : (t : Taking) (number : ℕ) → ((with_taken (nothing_taken t.items t.left) number).items ≡ (with_taken t number).items) × ((with_taken (nothing_taken t.items t.left) number).left ≡ (with_taken t number).left)
gives_alike t number = by (item_at number t.items)
  where
    by : (found : Option Item) → ((taken_from (nothing_taken t.items t.left) number found).items ≡ (taken_from t number found).items) × ((taken_from (nothing_taken t.items t.left) number found).left ≡ (taken_from t number found).left)
    by None = (refl, refl)
    by (Some item) = (refl, refl)

-- it is written behind what the items before it gave
pub written_alike : (message : MessageDraft) (t : Taking) (number : ℕ) → with_notes (with_notes message t.notes) (with_taken (nothing_taken t.items t.left) number).notes ≡ with_notes message (with_taken t number).notes
written_alike message t number = by (item_at number t.items)
  where
    by : (found : Option Item) → with_notes (with_notes message t.notes) (taken_from (nothing_taken t.items t.left) number found).notes ≡ with_notes message (taken_from t number found).notes
    by None = refl
    by (Some item) = sym (fold-append with_note message t.notes (take (nat_least t.left (waiting_in item)) (notes_of item)))

-- nothing is wanted any more
least_zero : (w : ℕ) → nat_least 0 w ≡ 0
least_zero w = by (leb 0 w) refl
  where
    by : (b : Bool) → leb 0 w ≡ b → cond b 0 w ≡ 0
    by true e = refl
    by false e = omega (arith, leb-false 0 w e)

gave_nothing : (t : Taking) (number k : ℕ) (item : Item) → item_at number t.items ≡ Some item → k ≡ 0
    → record { notes = t.notes ++ take k (notes_of item); items = with_item number (gave k) t.items; left = t.left - k } ≡ t
gave_nothing t number k item found none =
    let notes : t.notes ++ take k (notes_of item) ≡ t.notes = rw none (append-nil t.notes) in
    let same : gave 0 item ≡ item = by item.released in
    let items : with_item number (gave k) t.items ≡ t.items = rw (none, found) (ap (set_value (is_at (nat_cmp number)) t.items) same ∙ set_same (is_at (nat_cmp number)) t.items item found) in
    let left : t.left - k ≡ t.left = omega (arith, none) in
    taking_is t _ notes items left
  where
    by : (b : Bool) → record (with_sent 0 item) { released = b && true } ≡ record item { released = b }
    by true = refl
    by false = refl

one_full : (t : Taking) (number : ℕ) → t.left ≡ 0 → with_taken t number ≡ t
one_full t number none = by (item_at number t.items) refl
  where
    by : (found : Option Item) → item_at number t.items ≡ found → taken_from t number found ≡ t
    by None e = refl
    by (Some item) e = gave_nothing t number (nat_least t.left (waiting_in item)) item e (ap (λ (l : ℕ). nat_least l (waiting_in item)) none ∙ least_zero (waiting_in item))

all_full : (t : Taking) (numbers : List ℕ) → t.left ≡ 0 → fold with_taken t numbers ≡ t
all_full t [] none = refl
all_full t (n ∷ ns) none = ap (λ (u : Taking). fold with_taken u ns) (one_full t n none) ∙ all_full t ns none

pub taken_full : (items : NumberedItems) (n : ℕ) (front rest all : List ℕ) (before : Taking) → front ++ rest ≡ all → before ≡ taken_of items n front → before.left ≡ 0 → taken_of items n all ≡ before
taken_full items n front rest all before split is none =
    ap (taken_of items n) (sym split) ∙ fold-append with_taken (nothing_taken items n) front rest
    ∙ ap (λ (t : Taking). fold with_taken t rest) (sym is) ∙ all_full before rest none

pub taken_end : (items : NumberedItems) (n : ℕ) (front rest all : List ℕ) (before : Taking) → front ++ rest ≡ all → before ≡ taken_of items n front → rest ≡ [] → taken_of items n all ≡ before
taken_end items n front rest all before split is none =
    let same : all ≡ front = sym split ∙ ap (λ (ns : List ℕ). front ++ ns) none ∙ append-nil front in
    ap (taken_of items n) same ∙ sym is

-- ---- where none has a value to send

least_of_none : (l : ℕ) → nat_least l 0 ≡ 0
least_of_none l = by (leb l 0) refl
  where
    by : (b : Bool) → leb l 0 ≡ b → cond b l 0 ≡ 0
    by true e = omega (arith, leb-true l 0 e)
    by false e = refl

neither : (a b : Bool) → (a || b) ≡ false → (a ≡ false) × (b ≡ false)
neither true b h = absurd cc
neither false b h = (refl, h)

no_waiting : (n : ℕ) → nat_lt 0 n ≡ false → n ≡ 0
no_waiting n h = grind (arith, h)

one_idle : (t : Taking) (number : ℕ) → waits_in (item_at number t.items) ≡ false → with_taken t number ≡ t
one_idle t number idle = by (item_at number t.items) refl idle
  where
    by : (found : Option Item) → item_at number t.items ≡ found → waits_in found ≡ false → taken_from t number found ≡ t
    by None e h = refl
    by (Some item) e h = gave_nothing t number (nat_least t.left (waiting_in item)) item e (ap (nat_least t.left) (no_waiting (waiting_in item) h) ∙ least_of_none t.left)

all_idle : (t : Taking) (numbers : List ℕ) → any_waits t.items numbers ≡ false → fold with_taken t numbers ≡ t
all_idle t [] idle = refl
all_idle t (n ∷ ns) idle =
    let both = neither (waits_in (item_at n t.items)) (any_waits t.items ns) idle in
    ap (λ (u : Taking). fold with_taken u ns) (one_idle t n both.0) ∙ all_idle t ns both.1

-- nothing is taken
pub none_taken : (items : NumberedItems) (n : ℕ) (numbers : List ℕ) → any_waits items numbers ≡ false → taken_of items n numbers ≡ nothing_taken items n
none_taken items n numbers idle = all_idle (nothing_taken items n) numbers idle
