-- The ends of segments: an entry before all or past all, and the first that goes.
use Rattle.std.proofs.Common.{◌≡◌, ◌≤◌, ◌<◌, ◌+◌, ◌-◌, ℕ, zero, suc, ℤ, true, false, eqb, List, [], ◌∷◌, ◌++◌, length, get_or, slice_get, drop, Option, Some, None, IsSome, IsSomeAnd, IfSome, refl, sym, ap, subst, ◌∙◌, arith, append_assoc, append-nil, length-append}
use borrow.Author.Tests.{eqb-true}
use Rattle.std.specs.BTreeMap.{insert_entry, is_at}
use Rattle.std.specs.BTreeMap.Range.{IsLeBy, IsLtBy}
use Rattle.std.specs.List.{AllByRecursion}
use Rattle.std.specs.List.Sorted.{IsStrictlySortedBy}
use Rattle.std.specs.Map.{keys_of, values_of, lookup, set_value}
use Rattle.std.specs.Option.{option_to_list}
use Rattle.std.specs.Ordering.{int_cmp}
use Rattle.std.specs.declared.collections.VecDeque.{VecDeque}
use Rattle.collections.proofs.Lists.{all_joined, all_left, all_right, all_so}
use Rattle.collections.proofs.Segmented.{sorted_before, joined-append, joined_from, lookup_past, lookup_none, insert_past, insert_first, laid_joined, laid_ordered, joined_kept, laid_kept, own, changed}
use Rattle.collections.proofs.Times.{le_self, same_equal, less_le, le_lt, lt_lt}
use Rattle.collections.specs.Laid.{AllFrom, AllBefore, joined, IsSegment, IsLaid}
use Rattle.collections.specs.Places.{BelongsToNone, HasRoomAtEnd}

-- no entry past all of a time that lies past them
pub none_past : {V : Type 0} (time : ℤ) (es : List (ℤ × V)) → AllBefore time es → lookup (is_at (int_cmp time)) es ≡ None
none_past time es h = ap (lookup (is_at (int_cmp time))) (sym (append-nil es)) ∙ lookup_past time es [] h

last_there : {X : Type 0} (xs : List X) (x : X) → slice_get xs (length xs - 1) ≡ Some x → (ys : List X) × (xs ≡ ys ++ x ∷ [])
last_there [] x e = absurd cc
last_there (y ∷ []) x e = let same : y ≡ x = cc in ([], ap (λ z. z ∷ []) same)
last_there (y ∷ z ∷ xs) x e =
    let few : length (y ∷ z ∷ xs) - 1 ≡ suc (length (z ∷ xs) - 1) = omega arith in
    let rest = last_there (z ∷ xs) x (ap (slice_get (y ∷ z ∷ xs)) (sym few) ∙ e) in
    (y ∷ rest.0, ap (λ l. y ∷ l) rest.1)

pub last_got : {X : Type 0} (xs : List X) (x : X) → 0 < length xs → x ≡ get_or xs (length xs - 1) x → (ys : List X) × (xs ≡ ys ++ x ∷ [])
last_got [] x some e = absurd (omega (arith, some))
last_got (y ∷ []) x some e = ([], ap (λ z. z ∷ []) (sym e))
last_got (y ∷ z ∷ xs) x some e =
    let few : length (y ∷ z ∷ xs) - 1 ≡ suc (length (z ∷ xs) - 1) = omega arith in
    let rest = last_got (z ∷ xs) x (omega arith) (e ∙ ap (λ n. get_or (y ∷ z ∷ xs) n x) few) in
    (y ∷ rest.0, ap (λ l. y ∷ l) rest.1)

module _ {V Z : Type 0} where
  -- no segment stands under this time, or the entries before all others
  pub none_there : (time : ℤ) (ss : List (ℤ × VecDeque (ℤ × V) Z)) → IsLaid ss → BelongsToNone time ss → lookup (is_at (int_cmp time)) (joined ss) ≡ None
  none_there time ss l n = lookup_none time (joined ss) (joined_from time ss l n)

  one_segment : (start time : ℤ) (value : V) (q : VecDeque (ℤ × V) Z) → IsLeBy int_cmp start time → q.items ≡ (time, value) ∷ [] → IsSegment (start, q)
  one_segment start time value q from is = subst (λ (l : List (ℤ × V)). (0 < length l) × (length l ≤ 64) × AllFrom start l) (sym is) (omega arith, omega arith, (from, tt))

  starts_later : (start time : ℤ) (ss : List (ℤ × VecDeque (ℤ × V) Z)) → IsLeBy int_cmp start time → BelongsToNone time ss → AllByRecursion (λ s. IsLtBy int_cmp start s.0) ss
  starts_later start time ss from n = all_so (λ s. IsLtBy int_cmp time s.0) (λ s. IsLtBy int_cmp start s.0) (λ s h. le_lt start time s.0 from h) ss n

  one_before : (time : ℤ) (value : V) (ss : List (ℤ × VecDeque (ℤ × V) Z)) → BelongsToNone time ss → AllByRecursion (λ s. AllBefore s.0 ((time, value) ∷ [])) ss
  one_before time value [] n = tt
  one_before time value (s ∷ ss) n = ((n.0, tt), one_before time value ss n.1)

  -- a first segment of one entry
  pub first_opened : (start time : ℤ) (value : V) (q : VecDeque (ℤ × V) Z) (ss : List (ℤ × VecDeque (ℤ × V) Z)) → IsLeBy int_cmp start time → q.items ≡ (time, value) ∷ [] → BelongsToNone time ss → IsLaid ss →
      record { ok : joined (insert_entry int_cmp ss start q) ≡ insert_entry int_cmp (joined ss) time value; laid : IsLaid (insert_entry int_cmp ss start q) }
  first_opened start time value q ss from is n l =
      let at : insert_entry int_cmp ss start q ≡ (start, q) ∷ ss = insert_first start q ss (starts_later start time ss from n) in
      record {
        ok = ap joined at ∙ ap (λ (l : List (ℤ × V)). l ++ joined ss) is ∙ sym (insert_first time value (joined ss) (joined_from time ss l n));
        laid = subst IsLaid (sym at) (one_segment start time value q from is, subst (λ (l : List (ℤ × V)). AllByRecursion (λ s. AllBefore s.0 l) ss) (sym is) (one_before time value ss n), l);
      }

  -- each segment stands under a time before what lies past its entries
  starts_before : (time : ℤ) (ss : List (ℤ × VecDeque (ℤ × V) Z)) → IsLaid ss → AllBefore time (joined ss) → AllByRecursion (λ s. IsLtBy int_cmp s.0 time) ss
  starts_before time [] l h = tt
  starts_before time (s ∷ ss) l h =
      (by s.1.items l.0.0 l.0.2 (all_left (λ e. IsLtBy int_cmp e.0 time) s.1.items (joined ss) h), starts_before time ss l.2 (all_right (λ e. IsLtBy int_cmp e.0 time) s.1.items (joined ss) h))
    where
      by : (es : List (ℤ × V)) → 0 < length es → AllFrom s.0 es → AllBefore time es → IsLtBy int_cmp s.0 time
      by [] some f b = absurd (omega (arith, some))
      by (e ∷ es) some f b = le_lt s.0 e.0 time f.0 b.0

  -- a last segment of one entry
  pub last_opened : (time : ℤ) (value : V) (q : VecDeque (ℤ × V) Z) (ss : List (ℤ × VecDeque (ℤ × V) Z)) → q.items ≡ (time, value) ∷ [] → AllBefore time (joined ss) → IsLaid ss →
      record { ok : joined (insert_entry int_cmp ss time q) ≡ insert_entry int_cmp (joined ss) time value; laid : IsLaid (insert_entry int_cmp ss time q) }
  last_opened time value q ss is h l =
      let at : insert_entry int_cmp ss time q ≡ ss ++ (time, q) ∷ [] =
      ap (λ (l : List (ℤ × VecDeque (ℤ × V) Z)). insert_entry int_cmp l time q) (sym (append-nil ss)) ∙ insert_past time q ss [] (starts_before time ss l h) in
      let last : insert_entry int_cmp (joined ss) time value ≡ joined ss ++ (time, value) ∷ [] =
      ap (λ (l : List (ℤ × V)). insert_entry int_cmp l time value) (sym (append-nil (joined ss))) ∙ insert_past time value (joined ss) [] h in
      record {
        ok = ap joined at ∙ joined-append ss ((time, q) ∷ []) ∙ ap (λ (l : List (ℤ × V)). joined ss ++ l) (append-nil q.items ∙ is) ∙ sym last;
        laid = subst IsLaid (sym at) (laid_joined time ss ((time, q) ∷ []) l h (one_segment time time value q (le_self time) is, tt, tt) (le_self time, tt));
      }

  -- what lies past the last entry lies past all
  pub past_last : (time : ℤ) (s : ℤ × VecDeque (ℤ × V) Z) (e : ℤ × V) (ss : List (ℤ × VecDeque (ℤ × V) Z)) → slice_get ss (length ss - 1) ≡ Some s → 0 < length s.1.items → e ≡ get_or s.1.items (length s.1.items - 1) e →
      IsStrictlySortedBy int_cmp (keys_of (joined ss)) → IsLtBy int_cmp e.0 time → AllBefore time (joined ss)
  past_last time s e ss at some last sorted h =
      let x = last_there ss s at in
      let y = last_got s.1.items e some last in
      let all : joined ss ≡ (joined x.0 ++ y.0) ++ e ∷ [] =
      ap joined x.1 ∙ joined-append x.0 (s ∷ []) ∙ ap (λ (l : List (ℤ × V)). joined x.0 ++ l) (append-nil s.1.items ∙ y.1) ∙ sym (append_assoc (joined x.0) y.0 (e ∷ [])) in
      let order : IsStrictlySortedBy int_cmp (keys_of ((joined x.0 ++ y.0) ++ e ∷ [])) = subst (λ (l : List (ℤ × V)). IsStrictlySortedBy int_cmp (keys_of l)) all sorted in
      subst (AllBefore time) (sym all)
      (all_joined (λ f. IsLtBy int_cmp f.0 time) (joined x.0 ++ y.0) (e ∷ [])
      (all_so (λ f. IsLtBy int_cmp f.0 e.0) (λ f. IsLtBy int_cmp f.0 time) (λ f k. lt_lt f.0 e.0 time k h) (joined x.0 ++ y.0) (sorted_before (joined x.0 ++ y.0) e [] order)) (h, tt))

-- ---- the last segment takes one more

pub some_there : {V Z : Type 0} (ss : List (ℤ × VecDeque (ℤ × V) Z)) → HasRoomAtEnd ss → 0 < length ss
some_there [] h = absurd h
some_there (s ∷ ss) h = omega arith

pub room_there : {V Z : Type 0} (ss : List (ℤ × VecDeque (ℤ × V) Z)) (s : ℤ × VecDeque (ℤ × V) Z) → slice_get ss (length ss - 1) ≡ Some s → HasRoomAtEnd ss → length s.1.items < 64
room_there {V} {Z} ss s at h = subst (λ (o : Option (ℤ × VecDeque (ℤ × V) Z)). IsSomeAnd o (λ x. length x.1.items < 64)) at h

pub entry_at : {X : Type 0} (es : List (ℤ × X)) (n : ℕ) (k : ℤ) (x : X) → slice_get (keys_of es) n ≡ Some k → Some x ≡ slice_get (values_of es) n → slice_get es n ≡ Some (k, x)
entry_at [] n k x e f = absurd cc
entry_at (y ∷ es) zero k x e f = let a : y.0 ≡ k = cc in let b : x ≡ y.1 = cc in ap Some (ap (λ t. (t, y.1)) a ∙ ap (λ v. (k, v)) (sym b))
entry_at (y ∷ es) (suc n) k x e f = entry_at es n k x e f

module _ {V Z : Type 0} where
  module _ (ss : List (ℤ × VecDeque (ℤ × V) Z)) (k : ℤ) (q p : VecDeque (ℤ × V) Z) (at : slice_get ss (length ss - 1) ≡ Some (k, q)) (laid : IsLaid ss) where
    others : List (ℤ × VecDeque (ℤ × V) Z)
    others = (last_there ss (k, q) at).0

    whole : ss ≡ others ++ (k, q) ∷ []
    unfolding others
    whole = (last_there ss (k, q) at).1

    all_laid : IsLaid (others ++ (k, q) ∷ [])
    all_laid = subst IsLaid whole laid

    order : IsStrictlySortedBy int_cmp (keys_of (others ++ (k, q) ∷ []))
    order = laid_ordered (others ++ (k, q) ∷ []) all_laid

    put_same_key : (es : List (ℤ × VecDeque (ℤ × V) Z)) → AllByRecursion (λ s. IsLtBy int_cmp s.0 k) es → insert_entry int_cmp (es ++ (k, q) ∷ []) k p ≡ es ++ (k, p) ∷ []
    put_same_key es h = insert_past k p es ((k, q) ∷ []) h ∙ ap (λ (l : List (ℤ × VecDeque (ℤ × V) Z)). es ++ l) (rw (same_equal k k refl) refl)

    last_written : insert_entry int_cmp ss k p ≡ others ++ (k, p) ∷ []
    last_written = ap (λ (l : List (ℤ × VecDeque (ℤ × V) Z)). insert_entry int_cmp l k p) whole ∙ put_same_key others (sorted_before others (k, q) [] order)

    pub last_kept : p.items ≡ q.items → record { same : joined (insert_entry int_cmp ss k p) ≡ joined ss; laid : IsLaid (insert_entry int_cmp ss k p) }
    last_kept is = record {
      same = ap joined last_written ∙ joined_kept others k q [] all_laid order k (le_self k) tt p is ∙ ap joined (sym whole);
      laid = subst IsLaid (sym last_written) (laid_kept others k q [] all_laid order k (le_self k) tt p is);
    }

    pub last_extended : (time : ℤ) (value : V) → AllBefore time (joined ss) → length q.items < 64 → p.items ≡ q.items ++ (time, value) ∷ [] →
        record { ok : joined (insert_entry int_cmp ss k p) ≡ insert_entry int_cmp (joined ss) time value; laid : IsLaid (insert_entry int_cmp ss k p) }
    last_extended time value past few is =
        let last : insert_entry int_cmp (joined ss) time value ≡ joined ss ++ (time, value) ∷ [] =
        ap (λ (l : List (ℤ × V)). insert_entry int_cmp l time value) (sym (append-nil (joined ss))) ∙ insert_past time value (joined ss) [] past in
        let all : joined ss ≡ joined others ++ q.items = ap joined whole ∙ joined-append others ((k, q) ∷ []) ∙ ap (λ (l : List (ℤ × V)). joined others ++ l) (append-nil q.items) in
        let segment = (own others k q [] all_laid order).0 in
        let size : length (q.items ++ (time, value) ∷ []) ≡ length q.items + 1 = length-append q.items ((time, value) ∷ []) in
        let starts = starts_before time (others ++ (k, q) ∷ []) all_laid (subst (λ (l : List (ℤ × VecDeque (ℤ × V) Z)). AllBefore time (joined l)) whole past) in
        let start : IsLeBy int_cmp k time = less_le k time (all_right (λ s. IsLtBy int_cmp s.0 time) others ((k, q) ∷ []) starts).0 in
        record {
          ok =
              ap joined last_written ∙ joined-append others ((k, p) ∷ []) ∙ ap (λ (l : List (ℤ × V)). joined others ++ l) (append-nil p.items ∙ is)
              ∙ sym (append_assoc (joined others) q.items ((time, value) ∷ [])) ∙ ap (λ (l : List (ℤ × V)). l ++ (time, value) ∷ []) (sym all) ∙ sym last;
          laid =
              subst IsLaid (sym last_written)
              (changed others k q [] all_laid order p
              (subst (λ (l : List (ℤ × V)). (0 < length l) × (length l ≤ 64) × AllFrom k l) (sym is)
              (omega (arith, size), omega (arith, size, few), all_joined (λ e. IsLeBy int_cmp k e.0) q.items ((time, value) ∷ []) segment.2 (start, tt))) tt);
        }

-- ---- the first entry goes

pub first_there : {X : Type 0} (xs : List X) (x : X) → slice_get xs 0 ≡ Some x → xs ≡ x ∷ drop 1 xs
first_there [] x e = absurd cc
first_there (y ∷ xs) x e = let same : y ≡ x = cc in ap (λ z. z ∷ xs) same

pub rest_there : {X : Type 0} (r : Option X) (x : X) (xs ys zs : List X) → xs ≡ x ∷ ys → IfSome r (λ p. xs ≡ p ∷ zs) → (0 < length xs → IsSome r) → zs ≡ ys
rest_there None x xs ys zs is e some = absurd (let n = ap length is in let h = some (omega (arith, n)) in cc)
rest_there (Some p) x xs ys zs is e some = let both : x ∷ ys ≡ p ∷ zs = sym is ∙ e in cc

pub taken_first : {X : Type 0} (r : Option X) (es fs : List X) → es ≡ option_to_list r ++ fs → IsSome r → r ≡ slice_get es 0
taken_first None es fs e some = absurd cc
taken_first (Some x) es fs e some = sym (ap (λ l. slice_get l 0) e)

pub taken_rest : {X : Type 0} (r : Option X) (es fs : List X) → es ≡ option_to_list r ++ fs → IsSome r → fs ≡ drop 1 es
taken_rest None es fs e some = absurd cc
taken_rest (Some x) es fs e some = sym (ap (drop 1) e)

pub some_left : (n : ℕ) → eqb n 0 ≡ false → 0 < n
some_left zero e = absurd cc
some_left (suc n) e = omega arith

pub none_left : {X : Type 0} (xs : List X) → eqb (length xs) 0 ≡ true → xs ≡ []
none_left [] e = refl
none_left (x ∷ xs) e = absurd (omega (arith, eqb-true (length (x ∷ xs)) 0 e))

module _ {V Z : Type 0} where
  pub first_found : (start : ℤ) (q : VecDeque (ℤ × V) Z) (ss rs : List (ℤ × VecDeque (ℤ × V) Z)) → ss ≡ (start, q) ∷ rs → lookup (is_at (int_cmp start)) ss ≡ Some q
  first_found start q ss rs first = ap (lookup (is_at (int_cmp start))) first ∙ rw (same_equal start start refl) refl

  module _ (start : ℤ) (q p : VecDeque (ℤ × V) Z) (ss rs : List (ℤ × VecDeque (ℤ × V) Z)) (first : ss ≡ (start, q) ∷ rs) (es : List (ℤ × V)) (items : q.items ≡ es ++ p.items) (laid : IsLaid ss) where
    pub first_set : set_value (is_at (int_cmp start)) ss p ≡ (start, p) ∷ rs
    first_set = ap (λ (l : List (ℤ × VecDeque (ℤ × V) Z)). set_value (is_at (int_cmp start)) l p) first ∙ rw (same_equal start start refl) refl

    there : IsLaid ((start, q) ∷ rs)
    there = subst IsLaid first laid

    pub first_some : 0 < length q.items
    first_some = there.0.0

    pub rest_laid : IsLaid rs
    rest_laid = there.2

    pub first_joined : joined ss ≡ es ++ joined ((start, p) ∷ rs)
    first_joined = ap joined first ∙ ap (λ (l : List (ℤ × V)). l ++ joined rs) items ∙ append_assoc es p.items (joined rs)

    pub first_emptied : p.items ≡ [] → joined ss ≡ es ++ joined rs
    first_emptied none = first_joined ∙ ap (λ (l : List (ℤ × V)). es ++ (l ++ joined rs)) none

    pub first_laid : 0 < length p.items → IsLaid ((start, p) ∷ rs)
    first_laid some = (
      (
        some,
        (let all = ap length items in let sum = length-append es p.items in let most = there.0.1 in omega (arith, all, sum, most)),
        all_right (λ e. IsLeBy int_cmp start e.0) es p.items (subst (AllFrom start) items there.0.2),
      ),
      all_so (λ later. AllBefore later.0 q.items) (λ later. AllBefore later.0 p.items) (λ later h. all_right (λ e. IsLtBy int_cmp e.0 later.0) es p.items (subst (AllBefore later.0) items h)) rs there.1,
      there.2,
    )
