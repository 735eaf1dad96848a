-- Messages one after the other, and among others.
use Rattle.std.proofs.Common.{◌≡◌, ◌≢◌, inl, inr, ℕ, zero, suc, ◌+◌, Bool, true, false, cond, List, [], ◌∷◌, ◌++◌, take, drop, length, Option, Some, None, refl, ap, ◌∙◌, append-nil}
use Rattle.std.proofs.lemmas.Bool.{ne_eqb, eq-eqb}
use Rattle.std.specs.List.{position}
use Rattle.std.specs.Prelude.{◌==◌, nat_lt}
use Rattle.ua_subscriptions.specs.declared.messages.KeptMessage.{KeptMessage}
use Rattle.ua_subscriptions.specs.Messages.{has_number}
use Rattle.subscription_laws.specs.Messaging.{Made, made_of, messages_for, IsAmong, AreAmong}
use Rattle.subscription_laws.specs.Numbering.{AreNumbered, last_number, all_kept}
use Rattle.ua_subscriptions.specs.Publishing.{without_at, forgotten}
use Rattle.ua_subscriptions.specs.Scenes.{kept_with}
use Rattle.ua_subscriptions.proofs.OwingRows.{all_append}
use Rattle.subscription_laws.proofs.Folds.{all_so}

-- ---- more numbers

pub numbered_on : (n : ℕ) (xs ys : List KeptMessage) → AreNumbered n xs → AreNumbered (last_number n xs) ys → AreNumbered n (xs ++ ys)
numbered_on n [] ys h k = k
numbered_on n (x ∷ xs) ys h k = (h.0, numbered_on x.number xs ys h.1 k)

pub last_on : (n : ℕ) (xs ys : List KeptMessage) → last_number n (xs ++ ys) ≡ last_number (last_number n xs) ys
last_on n [] ys = refl
last_on n (x ∷ xs) ys = last_on x.number xs ys

-- ---- one subscription's

for_by : (b : Bool) (m : KeptMessage) (xs ys zs : List KeptMessage) → xs ≡ ys ++ zs → cond b (m ∷ xs) xs ≡ cond b (m ∷ ys) ys ++ zs
for_by true m xs ys zs e = ap (λ (l : List KeptMessage). m ∷ l) e
for_by false m xs ys zs e = e

for_append : (n : ℕ) (xs ys : List Made) → messages_for n (xs ++ ys) ≡ messages_for n xs ++ messages_for n ys
for_append n [] ys = refl
for_append n (x ∷ xs) ys = for_by (x.subscription == n) x.message (messages_for n (xs ++ ys)) (messages_for n xs) (messages_for n ys) (for_append n xs ys)

for_own : (n : ℕ) (ms : List KeptMessage) → messages_for n (made_of n ms) ≡ ms
for_own n [] = refl
for_own n (m ∷ ms) = rw (eq-eqb n n refl) (ap (λ (l : List KeptMessage). m ∷ l) (for_own n ms))

skipped : (b : Bool) (m : KeptMessage) (xs : List KeptMessage) → b ≡ false → xs ≡ [] → cond b (m ∷ xs) xs ≡ []
skipped true m xs e f = absurd (cc)
skipped false m xs e f = f

for_other : (n k : ℕ) (ms : List KeptMessage) → k ≢ n → messages_for n (made_of k ms) ≡ []
for_other n k [] other = refl
for_other n k (m ∷ ms) other = skipped (k == n) m (messages_for n (made_of k ms)) (ne_eqb k n other) (for_other n k ms other)

pub more_own : (n : ℕ) (ms : List Made) (made : List KeptMessage) → messages_for n (ms ++ made_of n made) ≡ messages_for n ms ++ made
more_own n ms made = for_append n ms (made_of n made) ∙ ap (λ (l : List KeptMessage). messages_for n ms ++ l) (for_own n made)

pub more_other : (n k : ℕ) (ms : List Made) (made : List KeptMessage) → k ≢ n → messages_for n (ms ++ made_of k made) ≡ messages_for n ms
more_other n k ms made other = for_append n ms (made_of k made) ∙ ap (λ (l : List KeptMessage). messages_for n ms ++ l) (for_other n k made other) ∙ append-nil (messages_for n ms)

-- ---- messages among others

among_left : (m : KeptMessage) (xs ys : List KeptMessage) → IsAmong m xs → IsAmong m (xs ++ ys)
among_left m [] ys h = absurd h
among_left m (x ∷ xs) ys (inl e) = inl e
among_left m (x ∷ xs) ys (inr h) = inr (among_left m xs ys h)

among_right : (m : KeptMessage) (xs ys : List KeptMessage) → IsAmong m ys → IsAmong m (xs ++ ys)
among_right m [] ys h = h
among_right m (x ∷ xs) ys h = inr (among_right m xs ys h)

all_left : (ms xs ys : List KeptMessage) → AreAmong ms xs → AreAmong ms (xs ++ ys)
all_left ms xs ys = all_so (λ m. IsAmong m xs) (λ m. IsAmong m (xs ++ ys)) (λ m h. among_left m xs ys h) ms

all_right : (ms xs ys : List KeptMessage) → AreAmong ms ys → AreAmong ms (xs ++ ys)
all_right ms xs ys = all_so (λ m. IsAmong m ys) (λ m. IsAmong m (xs ++ ys)) (λ m h. among_right m xs ys h) ms

all_itself : (ms : List KeptMessage) → AreAmong ms ms
all_itself [] = tt
all_itself (m ∷ ms) = (inl refl, all_so (λ k. IsAmong k ms) (λ k. IsAmong k (m ∷ ms)) (λ k h. inr h) ms (all_itself ms))

both_among : (ks ls xs : List KeptMessage) → AreAmong ks xs → AreAmong ls xs → AreAmong (ks ++ ls) xs
both_among ks ls xs = all_append (λ m. IsAmong m xs) ks ls

drop_among : (i : ℕ) (ms xs : List KeptMessage) → AreAmong ms xs → AreAmong (drop i ms) xs
drop_among zero ms xs h = h
drop_among (suc i) [] xs h = tt
drop_among (suc i) (m ∷ ms) xs h = drop_among i ms xs h.1

take_among : (i : ℕ) (ms xs : List KeptMessage) → AreAmong ms xs → AreAmong (take i ms) xs
take_among zero ms xs h = tt
take_among (suc i) [] xs h = tt
take_among (suc i) (m ∷ ms) xs h = (h.0, take_among i ms xs h.1)

kept_if : (b : Bool) (bound : ℕ) (ms xs : List KeptMessage) → AreAmong ms xs → AreAmong (cond b (drop 1 ms) ms) xs
kept_if true bound ms xs h = drop_among 1 ms xs h
kept_if false bound ms xs h = h

kept_among : (bound : ℕ) (kept made xs : List KeptMessage) → AreAmong kept xs → AreAmong made xs → AreAmong (all_kept bound kept made) xs
kept_among bound kept [] xs h k = h
kept_among bound kept (m ∷ made) xs h k =
    kept_among bound (kept_with bound kept m) made xs (kept_if (nat_lt bound (length kept + 1)) bound (kept ++ m ∷ []) xs (both_among kept (m ∷ []) xs h (k.0, tt))) k.1

-- what is kept once more were made was made
pub more_kept : (bound : ℕ) (kept before made : List KeptMessage) → AreAmong kept before → AreAmong (all_kept bound kept made) (before ++ made)
more_kept bound kept before made h = kept_among bound kept made (before ++ made) (all_left kept before made h) (all_right made before made (all_itself made))

-- and so is what isn't acknowledged
pub forgotten_among : (number : ℕ) (kept xs : List KeptMessage) → AreAmong kept xs → AreAmong (forgotten number kept) xs
forgotten_among number kept xs h = by (position (has_number number) kept)
  where
    by : (o : Option ℕ) → AreAmong (without_at kept o) xs
    by None = h
    by (Some i) = both_among (take i kept) (drop (suc i) kept) xs (take_among i kept xs h) (drop_among (suc i) kept xs h)
