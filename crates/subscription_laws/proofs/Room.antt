-- What isn't full has room for one more, and a map has at most one entry more once one was put.
use Rattle.std.proofs.Common.{◌≡◌, ◌≤◌, ℕ, ◌+◌, arith, Bool, false, List, [], ◌∷◌, length}
use Rattle.std.specs.Prelude.{filter, nat_le}
use Rattle.std.specs.BTreeMap.{insert_entry}
use Rattle.std.specs.Map.{remove_entry}
use Rattle.std.specs.Ordering.{nat_cmp, match_ordering}
use Rattle.std.specs.declared.cmp.Ordering.{Ordering}
use Rattle.std.specs.declared.cmp.Ordering.TheVariants.{Less, Equal, Greater}
use Rattle.ua_subscriptions.proofs.Choosing.{either}

pub room : (most n : ℕ) → nat_le most n ≡ false → n + 1 ≤ most
room most n is = grind (arith, is)

module _ {X : Type 0} where
  pub length_inserted : (k : ℕ) (v : X) (es : List (ℕ × X)) → length (insert_entry nat_cmp es k v) ≤ length es + 1
  length_inserted k v [] = omega arith
  length_inserted k v (e ∷ es) = by (nat_cmp k e.0) (length_inserted k v es)
    where
      by : (o : Ordering) → length (insert_entry nat_cmp es k v) ≤ length es + 1 → length (match_ordering o ((k, v) ∷ e ∷ es) ((e.0, v) ∷ es) (e ∷ insert_entry nat_cmp es k v)) ≤ length (e ∷ es) + 1
      by Less h = omega arith
      by Equal h = omega arith
      by Greater h = omega (arith, h)

  pub length_removed : (test : ℕ → Bool) (es : List (ℕ × X)) → length (remove_entry test es) ≤ length es
  length_removed test [] = omega arith
  length_removed test (e ∷ es) =
      let h = length_removed test es in
      either (λ (fs : List (ℕ × X)). length fs ≤ length (e ∷ es)) (test e.0) es (e ∷ remove_entry test es) (omega arith) (omega (arith, h))

  pub length_filtered : (test : X → Bool) (xs : List X) → length (filter test xs) ≤ length xs
  length_filtered test [] = omega arith
  length_filtered test (x ∷ xs) =
      let h = length_filtered test xs in
      either (λ (ys : List X). length ys ≤ length (x ∷ xs)) (test x) (x ∷ filter test xs) (filter test xs) (omega (arith, h)) (omega (arith, h))
