-- What an item tells, value after value.
use Rattle.std.proofs.Common.{◌≡◌, ℕ, ◌+◌, suc, zero, List, [], ◌∷◌, ◌++◌, map, take, Some, None, refl, sym, ap, ◌∙◌, add-one, arith}
use Rattle.std.specs.Prelude.{slice_get}
use Rattle.ua_item_queue.specs.declared.entry.Entry.{Entry}
use Rattle.ua_types.specs.declared.data_value.DataValue.{DataValue}
use Rattle.ua_monitored_items.specs.Item.{notes_of, note_of}
use Rattle.ua_monitored_items.specs.declared.item.Item.{Item}

one_more : {A B : Type 0} (f : A → B) (n : ℕ) (xs : List A) (x : A) → Some x ≡ slice_get xs n → take n (map f xs) ++ f x ∷ [] ≡ take (suc n) (map f xs)
one_more f n [] x is = absurd cc
one_more f zero (y ∷ ys) x is = let same : x ≡ y = cc in ap (λ z. f z ∷ []) same
one_more f (suc n) (y ∷ ys) x is = ap (λ zs. f y ∷ zs) (one_more f n ys x is)

take_none : {A : Type 0} (n : ℕ) → take {A = A} n [] ≡ []
take_none zero = refl
take_none (suc n) = refl

none_left : {A B : Type 0} (f : A → B) (n k : ℕ) (xs : List A) → None ≡ slice_get xs n → take n (map f xs) ≡ take (n + k) (map f xs)
none_left f n k [] is = take_none n ∙ sym (take_none (n + k))
none_left f zero k (y ∷ ys) is = absurd cc
none_left f (suc n) k (y ∷ ys) is =
    let more : suc n + k ≡ suc (n + k) = omega arith in
    rw more (ap (λ zs. f y ∷ zs) (none_left f n k ys is))

-- one value more is told
pub notes_more : (n : ℕ) (item : Item) (e : Entry DataValue) → Some e ≡ slice_get item.queue.entries n → take n (notes_of item) ++ note_of item.client_handle item.timestamps e ∷ [] ≡ take (n + 1) (notes_of item)
notes_more n item e is = rw (add-one n) (one_more (note_of item.client_handle item.timestamps) n item.queue.entries e is)

-- all are told
pub notes_end : (n k : ℕ) (item : Item) → None ≡ slice_get item.queue.entries n → take n (notes_of item) ≡ take (n + k) (notes_of item)
notes_end n k item is = none_left (note_of item.client_handle item.timestamps) n k item.queue.entries is
