-- Pages of a history, one past the other.
use Rattle.std.proofs.Common.{◌≡◌, ◌<◌, ◌≤◌, ◌-◌, ℕ, zero, suc, ℤ, int_lt, Bool, true, false, cond, not, ◌&&◌, [], ◌∷◌, ◌++◌, length, reverse, take, drop, filter, slice_get, nat_lt, option_map, Option, Some, None, refl, sym, ap, subst, ◌∙◌, arith, inl, inr, append-nil, length-append, length-drop}
use Rattle.std.proofs.lemmas.Bool.{cases_Bool, ltb-true, ltb-false}
use Rattle.std.proofs.lemmas.List.{take-append-drop, drop_all, reverse-append}
use Rattle.std.proofs.lemmas.List.Elements.{filter-append}
use Rattle.std.specs.BTreeMap.Range.{entries_between, range_contains, is_from_start, is_past_end}
use Rattle.std.specs.List.{AllByRecursion}
use Rattle.std.specs.List.Sorted.{IsStrictlySortedBy}
use Rattle.std.specs.Map.{keys_of}
use Rattle.std.specs.Ordering.{int_cmp, is_lt, is_le}
use Rattle.std.specs.declared.ops.Bound.{Bound}
use Rattle.std.specs.declared.ops.Bound.TheVariants.{Included, Excluded, Unbounded}
use Rattle.std.specs.declared.cmp.Ordering.TheVariants.{Less}
use Rattle.ua_types.specs.declared.moment.Moment.{Moment}
use Rattle.ua_types.specs.declared.data_value.DataValue.{DataValue}
use Rattle.ua_history.specs.HistoryLaws.{IsByTime, is_past, GoesPastTheLast, left_past, NextIsWhatFollows, joined_past, joined, PagesJoinToAll}
use Rattle.ua_history.specs.Histories.{Values}
use Rattle.ua_history.specs.Intervals.{past, raw}
use Rattle.ua_history.specs.Pages.{shown_of, last_time, last_given}
use Rattle.ua_history.specs.declared.intervals.Interval.{Interval}

abbrev Entry : Type 0
Entry = ℤ × DataValue

-- ---- lists

filter_same : (p q : Entry → Bool) → ((e : Entry) → p e ≡ q e) → (es : Values) → filter p es ≡ filter q es
filter_same p q same [] = refl
filter_same p q same (e ∷ es) = ap (λ (b : Bool). cond b (e ∷ filter p es) (filter p es)) (same e) ∙ ap (λ (l : Values). cond (q e) (e ∷ l) l) (filter_same p q same es)

filter_twice : (p q : Entry → Bool) (es : Values) → filter p (filter q es) ≡ filter (λ e. q e && p e) es
filter_twice p q [] = refl
filter_twice p q (e ∷ es) = let rest = filter_twice p q es in elim (cases_Bool (q e)) [ inl pass ↦ rw pass (ap (λ (l : Values). cond (p e) (e ∷ l) l) rest) | inr fails ↦ rw fails rest ]

filter_whole : (p : Entry → Bool) (es : Values) → AllByRecursion (λ e. p e ≡ true) es → filter p es ≡ es
filter_whole p [] h = refl
filter_whole p (e ∷ es) h = rw h.0 (ap (λ (l : Values). e ∷ l) (filter_whole p es h.1))

passing : (p : Entry → Bool) (es : Values) → AllByRecursion (λ e. p e ≡ true) (filter p es)
passing p [] = tt
passing p (e ∷ es) = elim (cases_Bool (p e)) [ inl pass ↦ rw pass (pass, passing p es) | inr fails ↦ rw fails (passing p es) ]

filter_keeps : (P : Entry → Type 0) (p : Entry → Bool) (es : Values) → AllByRecursion P es → AllByRecursion P (filter p es)
filter_keeps P p [] h = tt
filter_keeps P p (e ∷ es) h = elim (cases_Bool (p e)) [ inl pass ↦ rw pass (h.0, filter_keeps P p es h.1) | inr fails ↦ rw fails (filter_keeps P p es h.1) ]

each_at : (P : Entry → Type 0) (es : Values) (n : ℕ) (e : Entry) → AllByRecursion P es → slice_get es n ≡ Some e → P e
each_at P [] n e h is = absurd cc
each_at P (x ∷ es) zero e h is = let same : x ≡ e = cc in subst P same h.0
each_at P (x ∷ es) (suc n) e h is = each_at P es n e h.1 is

all_joined : (P : Entry → Type 0) (es fs : Values) → AllByRecursion P es → AllByRecursion P fs → AllByRecursion P (es ++ fs)
all_joined P [] fs h k = k
all_joined P (e ∷ es) fs h k = (h.0, all_joined P es fs h.1 k)

turned : (e : Entry) (es : Values) → reverse (e ∷ es) ≡ reverse es ++ e ∷ []
turned e es = reverse-append (e ∷ []) es

all_turned : (P : Entry → Type 0) (es : Values) → AllByRecursion P es → AllByRecursion P (reverse es)
all_turned P [] h = tt
all_turned P (e ∷ es) h = subst (AllByRecursion P) (sym (turned e es)) (all_joined P (reverse es) (e ∷ []) (all_turned P es h.1) (h.0, tt))

filter_turned : (p : Entry → Bool) (es : Values) → reverse (filter p es) ≡ filter p (reverse es)
filter_turned p [] = refl
filter_turned p (e ∷ es) = by (p e) (filter_turned p es) ∙ sym (ap (filter p) (turned e es) ∙ filter-append p (reverse es) (e ∷ []))
  where
    by : (b : Bool) → reverse (filter p es) ≡ filter p (reverse es) → reverse (cond b (e ∷ filter p es) (filter p es)) ≡ filter p (reverse es) ++ cond b (e ∷ []) []
    by true rest = turned e (filter p es) ∙ ap (λ (l : Values). l ++ e ∷ []) rest
    by false rest = rest ∙ sym (append-nil (filter p (reverse es)))

length_taken : (n : ℕ) (es : Values) → n ≤ length es → length (take n es) ≡ n
length_taken n es few =
    let all = ap length (take-append-drop n es) in
    let sum = length-append (take n es) (drop n es) in
    let rest = length-drop n es in
    omega (arith, all, sum, rest, few)

taken_at : (n : ℕ) (es : Values) → slice_get (take (suc n) es) n ≡ slice_get es n
taken_at n [] = refl
taken_at zero (e ∷ es) = refl
taken_at (suc n) (e ∷ es) = taken_at n es

-- ---- order

-- each time comes before those after it
abbrev Ordered : (ℤ → ℤ → Bool) → Values → Type 0
Ordered before [] = Unit {0}
Ordered before (e ∷ es) = AllByRecursion (λ f. before e.0 f.0 ≡ true) es × Ordered before es

is_less : (a b : ℤ) → int_cmp a b ≡ Less → int_lt a b ≡ true
is_less a b e = grind (arith, e)

rising_from : (a : ℤ) (es : Values) → AllByRecursion (λ b. int_cmp a b ≡ Less) (keys_of es) → AllByRecursion (λ f. int_lt a f.0 ≡ true) es
rising_from a [] h = tt
rising_from a (e ∷ es) h = (is_less a e.0 h.0, rising_from a es h.1)

ordered_by_time : (es : Values) → IsByTime es → Ordered int_lt es
unfolding IsStrictlySortedBy
ordered_by_time [] h = tt
ordered_by_time (e ∷ es) h = (rising_from e.0 es h.0, ordered_by_time es h.1)

ordered_more : (before : ℤ → ℤ → Bool) (es : Values) (e : Entry) → Ordered before es → AllByRecursion (λ f. before f.0 e.0 ≡ true) es → Ordered before (es ++ e ∷ [])
ordered_more before [] e o h = (tt, tt)
ordered_more before (x ∷ xs) e o h = (all_joined (λ f. before x.0 f.0 ≡ true) xs (e ∷ []) o.0 (h.0, tt), ordered_more before xs e o.1 h.1)

ordered_turned : (before : ℤ → ℤ → Bool) (es : Values) → Ordered before es → Ordered (λ a b. before b a) (reverse es)
ordered_turned before [] o = tt
ordered_turned before (e ∷ es) o =
    subst (Ordered (λ a b. before b a)) (sym (turned e es))
    (ordered_more (λ a b. before b a) (reverse es) e (ordered_turned before es o.1) (all_turned (λ f. before e.0 f.0 ≡ true) es o.0))

ordered_kept : (before : ℤ → ℤ → Bool) (p : Entry → Bool) (es : Values) → Ordered before es → Ordered before (filter p es)
ordered_kept before p [] o = tt
ordered_kept before p (e ∷ es) o =
    elim (cases_Bool (p e)) [ inl pass ↦ rw pass (filter_keeps (λ f. before e.0 f.0 ≡ true) p es o.0, ordered_kept before p es o.1) | inr fails ↦ rw fails (ordered_kept before p es o.1) ]

-- ---- the last one of a page

record LastAt (size : ℕ) (es : Values) (last : Moment) : Type 0 where
  place : ℕ
  entry : Entry
  is_size : size ≡ suc place
  at : slice_get es place ≡ Some entry
  time : entry.0 ≡ last.0
  more : size < length es

last_of : (size : ℕ) (es : Values) (last : Moment) → size < length es → last_time (take size es) ≡ Some last → LastAt size es last
last_of zero es last few e = absurd cc
last_of (suc n) es last few e =
    let one : length (take (suc n) es) - 1 ≡ n = let m = length_taken (suc n) es (omega (arith, few)) in omega (arith, m) in
    by (slice_get es n) refl
    (sym (ap (λ (k : ℕ). option_map (λ (x : Entry). record { 0 = x.0 }) (slice_get (take (suc n) es) k)) one ∙ ap (option_map (λ (x : Entry). record { 0 = x.0 })) (taken_at n es)) ∙ e)
  where
    by : (found : Option Entry) → slice_get es n ≡ found → option_map (λ (x : Entry). record { 0 = x.0 }) found ≡ Some last → LastAt (suc n) es last
    by None at f = absurd cc
    by (Some x) at f = record { place = n; entry = x; is_size = refl; at = at; time = let g : record { 0 = x.0 } ≡ last = cc in ap (λ (m : Moment). m.0) g; more = few }

-- ---- what follows a page

-- What lies past the last one of a page is what follows the page, in any order in which each time comes before those after it.
module _ (before : ℤ → ℤ → Bool) (apart : (a : ℤ) → before a a ≡ false) (one_way : (a b : ℤ) → before a b ≡ true → before b a ≡ false) where
  rest_after : (n : ℕ) (es : Values) (e : Entry) → Ordered before es → slice_get es n ≡ Some e → filter (λ f. before e.0 f.0) es ≡ drop (suc n) es
  rest_after n [] e o is = absurd cc
  rest_after zero (x ∷ xs) e o is =
      let same : x ≡ e = cc in
      subst (λ (y : Entry). filter (λ f. before y.0 f.0) (x ∷ xs) ≡ xs) same (rw (apart x.0) (filter_whole (λ f. before x.0 f.0) xs o.0))
  rest_after (suc n) (x ∷ xs) e o is =
      let below : before x.0 e.0 ≡ true = each_at (λ f. before x.0 f.0 ≡ true) xs n e o.0 is in
      rw (one_way x.0 e.0 below) (rest_after n xs e o.1 is)

  follows : (within further : ℤ → Bool) (es : Values) (size : ℕ) (last : Moment) → Ordered before es →
      ((q : ℤ) → within last.0 ≡ true → further q ≡ within q && before last.0 q) →
      LastAt size (filter (λ e. within e.0) es) last →
      filter (λ e. further e.0) es ≡ drop size (filter (λ e. within e.0) es)
  follows within further es size last o split l =
      let shown = filter (λ e. within e.0) es in
      let inside : within last.0 ≡ true = subst (λ (t : ℤ). within t ≡ true) l.time (each_at (λ e. within e.0 ≡ true) shown l.place l.entry (passing (λ e. within e.0) es) l.at) in
      filter_same (λ e. further e.0) (λ e. within e.0 && before last.0 e.0) (λ e. split e.0 inside) es
      ∙ sym (filter_twice (λ e. before last.0 e.0) (λ e. within e.0) es)
      ∙ subst (λ (t : ℤ). filter (λ e. before t e.0) shown ≡ drop (suc l.place) shown) l.time (rest_after l.place shown l.entry (ordered_kept before (λ e. within e.0) es o) l.at)
      ∙ ap (λ (n : ℕ). drop n shown) (sym l.is_size)

start_split : (low : Bound ℤ) (last q : ℤ) → is_from_start int_cmp low last ≡ true → is_lt (int_cmp last q) ≡ is_from_start int_cmp low q && int_lt last q
start_split Unbounded last q h = grind arith
start_split (Included a) last q h = grind arith
start_split (Excluded a) last q h = grind arith

end_split : (high : Bound ℤ) (last q : ℤ) → not (is_past_end int_cmp high last) ≡ true → not (is_le (int_cmp last q)) ≡ not (is_past_end int_cmp high q) && int_lt q last
end_split Unbounded last q h = grind arith
end_split (Included b) last q h = grind arith
end_split (Excluded b) last q h = grind arith

firsts : (a b : Bool) → a && b ≡ true → a ≡ true
firsts true b e = refl
firsts false b e = absurd cc

seconds : (a b : Bool) → a && b ≡ true → b ≡ true
seconds true b e = e
seconds false b e = absurd cc

swapped : (a b c : Bool) → (a && c) && b ≡ (a && b) && c
swapped true true true = refl
swapped true true false = refl
swapped true false true = refl
swapped true false false = refl
swapped false b c = refl

grouped : (a b c : Bool) → a && (b && c) ≡ (a && b) && c
grouped true b c = refl
grouped false b c = refl

split_rising : (low high : Bound ℤ) (last q : ℤ) → range_contains int_cmp low high last ≡ true → range_contains int_cmp (Excluded last) high q ≡ range_contains int_cmp low high q && int_lt last q
split_rising low high last q h =
    ap (λ (b : Bool). b && not (is_past_end int_cmp high q)) (start_split low last q (firsts (is_from_start int_cmp low last) (not (is_past_end int_cmp high last)) h))
    ∙ swapped (is_from_start int_cmp low q) (not (is_past_end int_cmp high q)) (int_lt last q)

split_falling : (low high : Bound ℤ) (last q : ℤ) → range_contains int_cmp low high last ≡ true → range_contains int_cmp low (Excluded last) q ≡ range_contains int_cmp low high q && int_lt q last
split_falling low high last q h =
    ap (λ (b : Bool). is_from_start int_cmp low q && b) (end_split high last q (seconds (is_from_start int_cmp low last) (not (is_past_end int_cmp high last)) h))
    ∙ grouped (is_from_start int_cmp low q) (not (is_past_end int_cmp high q)) (int_lt q last)

-- ---- the laws

less_apart : (a : ℤ) → int_lt a a ≡ false
less_apart a = grind arith

less_one_way : (a b : ℤ) → int_lt a b ≡ true → int_lt b a ≡ false
less_one_way a b h = grind (arith, h)

found_last : (size : ℕ) (es : Values) (last : Moment) → last_given size es ≡ Some last → LastAt size es last
found_last size es last e = by (nat_lt size (length es)) refl e
  where
    by : (b : Bool) → nat_lt size (length es) ≡ b → cond b (last_time (take size es)) None ≡ Some last → LastAt size es last
    by true more f = last_of size es last (ltb-true size (length es) more) f
    by false more f = absurd cc

-- of an interval's three parts
next_follows : (is_falling : Bool) (low high : Bound ℤ) (values : Values) (size : ℕ) (last : Moment) → IsByTime values →
    let i : Interval = record { low = low; high = high; is_falling = is_falling } in
    last_given size (raw values i) ≡ Some last → raw values (past i last) ≡ drop size (raw values i)
next_follows false low high values size last o e =
    follows int_lt less_apart less_one_way (range_contains int_cmp low high) (range_contains int_cmp (Excluded last.0) high) values size last (ordered_by_time values o)
    (split_rising low high last.0) (found_last size (entries_between int_cmp low high values) last e)
next_follows true low high values size last o e =
    let turn = filter_turned (λ x. range_contains int_cmp low high x.0) values in
    filter_turned (λ x. range_contains int_cmp low (Excluded last.0) x.0) values
    ∙ follows (λ a b. int_lt b a) less_apart (λ a b. less_one_way b a) (range_contains int_cmp low high) (range_contains int_cmp low (Excluded last.0)) (reverse values) size last
    (ordered_turned int_lt values (ordered_by_time values o))
    (split_falling low high last.0) (found_last size (filter (λ x. range_contains int_cmp low high x.0) (reverse values)) last (subst (λ (l : Values). last_given size l ≡ Some last) turn e))
    ∙ ap (λ (l : Values). drop size l) (sym turn)

past_twice : (is_falling : Bool) (low high : Bound ℤ) (given last : Moment) →
    let i : Interval = record { low = low; high = high; is_falling = is_falling } in past (past i given) last ≡ past i last
past_twice true low high given last = refl
past_twice false low high given last = refl

pub next_is_what_follows : NextIsWhatFollows
next_is_what_follows values i size None last o e = next_follows i.is_falling i.low i.high values size last o e
next_is_what_follows values i size (Some given) last o e =
    let j = past i given in
    ap (raw values) (sym (past_twice i.is_falling i.low i.high given last)) ∙ next_follows j.is_falling j.low j.high values size last o e

all_so : (P Q : Entry → Type 0) → ((e : Entry) → P e → Q e) → (es : Values) → AllByRecursion P es → AllByRecursion Q es
all_so P Q f [] h = tt
all_so P Q f (e ∷ es) h = (f e h.0, all_so P Q f es h.1)

below_end : (last q : ℤ) → not (is_le (int_cmp last q)) ≡ true → int_lt q last ≡ true
below_end last q h = grind arith

above_start : (last q : ℤ) → is_lt (int_cmp last q) ≡ true → int_lt last q ≡ true
above_start last q h = grind arith

inside_past : (is_falling : Bool) (low high : Bound ℤ) (last : Moment) (values : Values) →
    let i : Interval = record { low = low; high = high; is_falling = is_falling } in
    AllByRecursion (λ e. is_past is_falling last.0 e.0 ≡ true) (raw values (past i last))
inside_past true low high last values =
    all_turned (λ e. int_lt e.0 last.0 ≡ true) (entries_between int_cmp low (Excluded last.0) values)
    (all_so (λ e. range_contains int_cmp low (Excluded last.0) e.0 ≡ true) (λ e. int_lt e.0 last.0 ≡ true)
    (λ e h. below_end last.0 e.0 (seconds (is_from_start int_cmp low e.0) (not (is_le (int_cmp last.0 e.0))) h))
    (entries_between int_cmp low (Excluded last.0) values) (passing (λ e. range_contains int_cmp low (Excluded last.0) e.0) values))
inside_past false low high last values =
    all_so (λ e. range_contains int_cmp (Excluded last.0) high e.0 ≡ true) (λ e. int_lt last.0 e.0 ≡ true)
    (λ e h. above_start last.0 e.0 (firsts (is_lt (int_cmp last.0 e.0)) (not (is_past_end int_cmp high e.0)) h))
    (entries_between int_cmp (Excluded last.0) high values) (passing (λ e. range_contains int_cmp (Excluded last.0) high e.0) values)

pub goes_past_the_last : GoesPastTheLast
goes_past_the_last values i last = inside_past i.is_falling i.low i.high last values

found_at : (n : ℕ) (es : Values) → n < length es → slice_get es n ≡ None → ⊥
found_at n [] few e = omega (arith, few)
found_at zero (x ∷ xs) few e = cc
found_at (suc n) (x ∷ xs) few e = found_at n xs (omega (arith, few)) e

has_last : (size : ℕ) (es : Values) → 0 < size → size < length es → last_time (take size es) ≡ None → ⊥
has_last zero es some few e = omega (arith, some)
has_last (suc n) es some few e =
    let one : length (take (suc n) es) - 1 ≡ n = let m = length_taken (suc n) es (omega (arith, few)) in omega (arith, m) in
    by (slice_get es n) refl
    (sym (ap (λ (k : ℕ). option_map (λ (x : Entry). record { 0 = x.0 }) (slice_get (take (suc n) es) k)) one ∙ ap (option_map (λ (x : Entry). record { 0 = x.0 })) (taken_at n es)) ∙ e)
  where
    none : Option Moment
    none = None

    by : (found : Option Entry) → slice_get es n ≡ found → option_map (λ (x : Entry). record { 0 = x.0 }) found ≡ none → ⊥
    by None at f = found_at n es (omega (arith, few)) at
    by (Some x) at f = cc

-- the last page, and one that another follows
page_ends : (size : ℕ) (left : Values) (further : Option Moment → Values) → 0 < size →
    ((last : Moment) → last_given size left ≡ Some last → further (Some last) ≡ drop size left) →
    shown_of size left ++ joined_past further (last_given size left) ≡ left
page_ends size left further some rest = by (nat_lt size (length left)) refl
  where
    to : (last : Option Moment) → nat_lt size (length left) ≡ true → last_time (take size left) ≡ last → take size left ++ joined_past further last ≡ left
    to None more e = absurd (has_last size left some (ltb-true size (length left) more) e)
    to (Some last) more e =
        ap (λ (l : Values). take size left ++ l) (rest last (ap (λ (b : Bool). cond b (last_time (take size left)) None) more ∙ e)) ∙ take-append-drop size left

    by : (b : Bool) → nat_lt size (length left) ≡ b → take size left ++ joined_past further (cond b (last_time (take size left)) None) ≡ left
    by false few =
        let all : length left ≤ size = ltb-false size (length left) few in
        ap (λ (l : Values). take size left ++ l) (sym (drop_all size left all)) ∙ take-append-drop size left
    by true more = to (last_time (take size left)) more refl

pub pages_join_to_all : PagesJoinToAll
pages_join_to_all values i size zero given o some few = absurd (omega (arith, few))
pages_join_to_all values i size (suc pages) given o some few =
    page_ends size (left_past values i given) (joined values i size pages) some
    (λ last e.
    let after = next_is_what_follows values i size given last o e in
    let l = found_last size (left_past values i given) last e in
    let shorter : length (left_past values i (Some last)) < pages = let n = ap length after ∙ length-drop size (left_past values i given) in let more = l.more in omega (arith, n, some, few, more) in
    pages_join_to_all values i size pages (Some last) o some shorter ∙ after)
