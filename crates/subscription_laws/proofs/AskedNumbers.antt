-- What holds of the subscriptions of a session holds of those that its Publish request comes to.
use Rattle.std.proofs.Common.{◌≡◌, ◌≢◌, ◌⊎◌, inl, inr, ℕ, Bool, true, false, cond, ◌||◌, List, [], ◌∷◌, map, fold, Option, Some, None, refl, sym, ap, ◌∙◌, subst}
use Rattle.std.proofs.lemmas.Bool.{false≢true, or_left, or_right}
use Rattle.std.specs.BTreeMap.{is_at}
use Rattle.std.specs.BTreeSet.{insert_key}
use Rattle.std.specs.List.{AllByRecursion, list_any}
use Rattle.std.specs.Ordering.{nat_cmp, match_ordering}
use Rattle.std.specs.declared.cmp.Ordering.{Ordering}
use Rattle.std.specs.declared.cmp.Ordering.TheVariants.{Less, Equal, Greater}
use Rattle.ua_subscriptions.specs.declared.ranks.Rank.{Rank}
use Rattle.ua_subscriptions.specs.declared.subscription.Subscription.{Subscription}
use Rattle.ua_subscriptions.specs.Queues.{first_of}
use Rattle.ua_subscriptions.specs.Ranks.{rank_cmp, rank_of, number_of, with_rank, is_waiting, waiting_by, waiting_of}
use Rattle.ua_subscriptions.specs.Tables.{Stage, subscription_at}
use Rattle.subscription_laws.specs.Calm.{is_listed}
use Rattle.subscription_laws.specs.Precedence.{and_then}
use Rattle.ua_subscriptions.specs.Publishing.{best_or_all, asked_numbers}
use Rattle.subscription_laws.proofs.Entries.{at_itself, equal_is, same_or_not, behind_it, among, listed_first, some_same}
use Rattle.subscription_laws.proofs.Folds.{all_so}

-- what holds of each rank holds once one more stands among them, and of all that are put there
module _ (Of : Rank → Type 0) where
  pub put_are : (ranks : List Rank) (rank : Rank) → AllByRecursion Of ranks → Of rank → AllByRecursion Of (insert_key rank_cmp ranks rank)
  put_are [] rank all one = (one, tt)
  put_are (r ∷ rs) rank all one = by (rank_cmp rank r) (put_are rs rank all.1 one)
    where
      by : (o : Ordering) → AllByRecursion Of (insert_key rank_cmp rs rank) → AllByRecursion Of (match_ordering o (rank ∷ r ∷ rs) (r ∷ rs) (r ∷ insert_key rank_cmp rs rank))
      by Less rest = (one, (all.0, all.1))
      by Equal rest = (all.0, all.1)
      by Greater rest = (all.0, rest)

  one_is : (o : Option Rank) (ranks : List Rank) → ((rank : Rank) → o ≡ Some rank → Of rank) → AllByRecursion Of ranks → AllByRecursion Of (with_rank ranks o)
  unfolding with_rank
  one_is None ranks its all = all
  one_is (Some rank) ranks its all = put_are ranks rank all (its rank refl)

  pub ranks_are : {A : Type 0} (rank_at : A → Option Rank) (es : List A) (ranks : List Rank) → AllByRecursion (λ (e : A). (rank : Rank) → rank_at e ≡ Some rank → Of rank) es → AllByRecursion Of ranks →
      AllByRecursion Of (fold (λ (rs : List Rank) (e : A). with_rank rs (rank_at e)) ranks es)
  ranks_are rank_at [] ranks its all = all
  ranks_are rank_at (e ∷ es) ranks its all = ranks_are rank_at es (with_rank ranks (rank_at e)) its.1 (one_is (rank_at e) ranks its.0 all)

-- ---- one rank more is listed

last_equal : (p q r : Ordering) → and_then p (and_then q r) ≡ Equal → r ≡ Equal
last_equal Equal Equal r e = e
last_equal p q r e = absurd (cc)

-- equal ones are of one subscription
pub equal_number : (a b : Rank) → rank_cmp a b ≡ Equal → a.number ≡ b.number
equal_number a b e = equal_is a.number b.number (last_equal (nat_cmp b.priority.0 a.priority.0) (nat_cmp a.message_count b.message_count) (nat_cmp a.number b.number) e)

abbrev pub put : List Rank → Rank → List Rank
put ranks rank = insert_key rank_cmp ranks rank

abbrev pub numbers : List Rank → List ℕ
numbers ranks = map number_of ranks

twice : (a x : Bool) → (a || (a || x)) ≡ true → (a || x) ≡ true
twice true x h = refl
twice false x h = h

either_further : (a b x y : Bool) → ((a || x) ≡ true → y ≡ true) → (a || (b || x)) ≡ true → (b || y) ≡ true
either_further a true x y f h = refl
either_further true false x y f h = f refl
either_further false false x y f h = f h

put_in : (m : ℕ) (ranks : List Rank) (rank : Rank) → is_listed m (numbers (rank ∷ ranks)) ≡ true → is_listed m (numbers (put ranks rank)) ≡ true
put_in m [] rank h = h
put_in m (r ∷ rs) rank h = by (rank_cmp rank r) refl (put_in m rs rank)
  where
    by : (o : Ordering) → rank_cmp rank r ≡ o → (is_listed m (numbers (rank ∷ rs)) ≡ true → is_listed m (numbers (put rs rank)) ≡ true) → is_listed m (numbers (match_ordering o (rank ∷ r ∷ rs) (r ∷ rs) (r ∷ put rs rank))) ≡ true
    by Less e f = h
    by Equal e f = twice (is_at (nat_cmp m) r.number) (is_listed m (numbers rs)) (subst (λ (n : ℕ). is_listed m (n ∷ numbers (r ∷ rs)) ≡ true) (equal_number rank r e) h)
    by Greater e f = either_further (is_at (nat_cmp m) rank.number) (is_at (nat_cmp m) r.number) (is_listed m (numbers rs)) (is_listed m (numbers (put rs rank))) f h

-- a rank, if there is one, is that of a number
abbrev pub is_of : ℕ → Option Rank → Bool
is_of m None = false
is_of m (Some rank) = is_at (nat_cmp m) rank.number

one_in : (m : ℕ) (o : Option Rank) (ranks : List Rank) → (is_of m o || is_listed m (numbers ranks)) ≡ true → is_listed m (numbers (with_rank ranks o)) ≡ true
unfolding with_rank
one_in m None ranks h = h
one_in m (Some rank) ranks h = put_in m ranks rank h

module _ {A : Type 0} (rank_at : A → Option Rank) where
  abbrev with_one : List Rank → A → List Rank
  with_one ranks e = with_rank ranks (rank_at e)

  -- one that has a rank is among them
  pub all_in : (m : ℕ) (es : List A) (ranks : List Rank) → (list_any (λ e. is_of m (rank_at e)) es || is_listed m (numbers ranks)) ≡ true → is_listed m (numbers (fold with_one ranks es)) ≡ true
  all_in m [] ranks h = h
  all_in m (e ∷ es) ranks h = all_in m es (with_one ranks e) (further (is_of m (rank_at e)) (list_any (λ x. is_of m (rank_at x)) es) (is_listed m (numbers ranks)) (is_listed m (numbers (with_one ranks e))) (one_in m (rank_at e) ranks) h)
    where
      further : (a b x y : Bool) → ((a || x) ≡ true → y ≡ true) → ((a || b) || x) ≡ true → (b || y) ≡ true
      further a true x y f h = refl
      further true false x y f h = f refl
      further false false x y f h = f h

-- ---- those that wait

module _ (subscriptions : List (ℕ × Subscription)) where
  abbrev pub waiting_at : ℕ → Option Rank
  waiting_at n = waiting_by n (subscription_at n subscriptions)

  waiting_in : (number : ℕ) (s : Subscription) (ns : List ℕ) → is_listed number ns ≡ true → subscription_at number subscriptions ≡ Some s → is_waiting s ≡ true → list_any (λ n. is_of number (waiting_at n)) ns ≡ true
  unfolding waiting_by
  waiting_in number s [] listed found waits = absurd (false≢true listed)
  waiting_in number s (n ∷ ns) listed found waits = by (same_or_not number n) (λ rest. waiting_in number s ns rest found waits)
    where
      by : (number ≡ n) ⊎ (number ≢ n) → (is_listed number ns ≡ true → list_any (λ k. is_of number (waiting_at k)) ns ≡ true) → list_any (λ k. is_of number (waiting_at k)) (n ∷ ns) ≡ true
      by (inl same) rest = subst (λ (k : ℕ). list_any (λ x. is_of number (waiting_at x)) (k ∷ ns) ≡ true) same (or_left _ _ (ap (λ (o : Option Subscription). is_of number (waiting_by number o)) found ∙ ap (λ (b : Bool). is_of number (cond b (Some (rank_of number s)) None)) waits ∙ at_itself number))
      by (inr other) rest = or_right (is_of number (waiting_at n)) _ (rest (behind_it number n ns other listed))

pub no_waiting_passed_over : (subscriptions : List (ℕ × Subscription)) (ns : List ℕ) (number : ℕ) (s : Subscription) → is_listed number ns ≡ true → subscription_at number subscriptions ≡ Some s → is_waiting s ≡ true →
    is_listed number (map number_of (waiting_of subscriptions ns)) ≡ true
no_waiting_passed_over subscriptions ns number s listed found waits = all_in (waiting_at subscriptions) number ns [] (or_left _ false (waiting_in subscriptions number s ns listed found waits))

-- one that has a rank among those that wait does wait
pub ranked_waits : (n : ℕ) (o : Option Subscription) (rank : Rank) → waiting_by n o ≡ Some rank → (s : Subscription) × (o ≡ Some s) × (is_waiting s ≡ true) × (rank ≡ rank_of n s)
unfolding waiting_by
ranked_waits n None rank e = absurd (cc)
ranked_waits n (Some s) rank e = by (is_waiting s) refl e
  where
    by : (b : Bool) → is_waiting s ≡ b → cond b (Some (rank_of n s)) None ≡ Some rank → (t : Subscription) × (Some s ≡ Some t) × (is_waiting t ≡ true) × (rank ≡ rank_of n t)
    by true waits e = (s, refl, waits, sym (some_same e))
    by false waits e = absurd (cc)

-- of a list, where it holds of each that is listed
pub listed_are : (R : ℕ → Type 0) (ns : List ℕ) → ((m : ℕ) → is_listed m ns ≡ true → R m) → AllByRecursion R ns
listed_are R [] h = tt
listed_are R (n ∷ ns) h = (h n (listed_first n ns), listed_are R ns (λ m listed. h m (among m n ns listed)))

module _ (R : ℕ → Type 0) where
  abbrev OfRank : Rank → Type 0
  OfRank rank = R rank.number

  -- it holds of one that waits
  abbrev pub IfWaits : List (ℕ × Subscription) → ℕ → Type 0
  IfWaits subscriptions n = (s : Subscription) → subscription_at n subscriptions ≡ Some s → is_waiting s ≡ true → R n

  all_are : (subscriptions : List (ℕ × Subscription)) (ns : List ℕ) → AllByRecursion (IfWaits subscriptions) ns → AllByRecursion OfRank (waiting_of subscriptions ns)
  all_are subscriptions ns its =
      ranks_are OfRank (λ (n : ℕ). waiting_by n (subscription_at n subscriptions)) ns []
      (all_so (IfWaits subscriptions) (λ (n : ℕ). (rank : Rank) → waiting_by n (subscription_at n subscriptions) ≡ Some rank → R rank.number) (λ n holds rank has. let x = ranked_waits n (subscription_at n subscriptions) rank has in subst OfRank (sym x.3) (holds x.0 x.1 x.2)) ns its) tt

  best_is : (ranks : List Rank) (ns : List ℕ) → AllByRecursion OfRank ranks → AllByRecursion R ns → AllByRecursion R (best_or_all (first_of ranks) ns)
  best_is [] ns all its = its
  best_is (r ∷ rs) ns all its = (all.0, tt)

  pub asked_are : (w : Stage) (ns : List ℕ) → AllByRecursion R ns → AllByRecursion R (asked_numbers w ns)
  asked_are w ns its = best_is (waiting_of w.table.subscriptions ns) ns (all_are w.table.subscriptions ns (all_so R (IfWaits w.table.subscriptions) (λ n its s found waits. its) ns its)) its

  -- of the best that waits
  pub first_is : (subscriptions : List (ℕ × Subscription)) (ns : List ℕ) (rank : Rank) → ((n : ℕ) → IfWaits subscriptions n) → first_of (waiting_of subscriptions ns) ≡ Some rank → R rank.number
  first_is subscriptions ns rank any is = by (waiting_of subscriptions ns) (all_are subscriptions ns (listed_are (IfWaits subscriptions) ns (λ n listed. any n))) is
    where
      by : (ranks : List Rank) → AllByRecursion OfRank ranks → first_of ranks ≡ Some rank → R rank.number
      by [] all e = absurd (cc)
      by (r ∷ rs) all e = let it : r ≡ rank = cc in subst OfRank it all.0
