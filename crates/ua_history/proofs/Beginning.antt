-- What the history of a node is that begins with values.
use Rattle.std.proofs.Common.{◌≡◌, ◌≤◌, ◌-◌, ◌+◌, ℕ, suc, ℤ, pos, int_lt, Bool, true, false, cond, ◌&&◌, List, [], ◌∷◌, ◌++◌, length, drop, nat_lt, Option, Some, None, is_some, unwrap_or, refl, sym, ap, subst, ◌∙◌, arith, append_assoc, append-nil, length-append, length-drop}
use Rattle.std.proofs.lemmas.Bool.{and_parts, false≢true, ltb-true}
use Rattle.std.proofs.lemmas.List.{drop-drop, drop-append-le}
use Rattle.std.proofs.lemmas.Map.{lookup-set_value}
use Rattle.std.specs.BTreeMap.{is_at, insert_entry}
use Rattle.std.specs.Cmp.{IsEquivalence, int_cmp_total, eq_by_cmp_equiv}
use Rattle.std.specs.List.{AllByRecursion}
use Rattle.std.specs.Map.{lookup}
use Rattle.std.specs.Ordering.{int_cmp, is_eq, eq_by_cmp, ordering_reverse, match_ordering}
use Rattle.std.specs.declared.cmp.Ordering.{Ordering}
use Rattle.std.specs.declared.cmp.Ordering.TheVariants.{Less, Equal, Greater}
use Rattle.ua_types.specs.NodeIdOrder.{id_cmp}
use Rattle.ua_types.specs.contracts.node_id.NodeIdOrd.TheImpl.Laws.{total-law}
use Rattle.ua_types.specs.declared.moment.Moment.{Moment}
use Rattle.ua_types.specs.declared.node_id.NodeId.{NodeId}
use Rattle.ua_types.specs.declared.data_value.DataValue.{DataValue}
use Rattle.ua_space.proofs.Soundness.{tied}
use Rattle.ua_space.specs.Histories.{rises, are_later}
use Rattle.ua_history.specs.Histories.{Values, HistoryState, history_of, put_in, latest, kept_in, with_one, kept_at, kept, with_all}
use Rattle.ua_history.specs.HistoryLaws.{time_of, timed, BeginsWithTheLast, BeginsApart}
use Rattle.ua_history.proofs.Keeping.{keeps_within_bounds}

-- ---- what is found under an id

abbrev alike : IsEquivalence (eq_by_cmp id_cmp)
alike = eq_by_cmp_equiv total-law

itself : (id : NodeId) → is_at (id_cmp id) id ≡ true
itself id = alike.refl id

same_test : (id x y : NodeId) → is_at (id_cmp id) x ≡ true → is_at (id_cmp id) y ≡ eq_by_cmp id_cmp x y
same_test id x y h = let P : NodeId → Type 0 = λ z. is_at (id_cmp id) y ≡ eq_by_cmp id_cmp z y in subst P (tied id x h) refl

abbrev found : NodeId → List (NodeId × Values) → Option Values
found id es = lookup (is_at (id_cmp id)) es

put_itself : (id : NodeId) (w : Values) (es : List (NodeId × Values)) → found id (insert_entry id_cmp es id w) ≡ Some w
put_itself id w [] = ap (λ (b : Bool). cond b (Some w) None) (itself id)
put_itself id w (e ∷ es) = by (id_cmp id e.0) refl (put_itself id w es)
  where
    by : (r : Ordering) → id_cmp id e.0 ≡ r → found id (insert_entry id_cmp es id w) ≡ Some w
        → found id (match_ordering r ((id, w) ∷ e ∷ es) ((e.0, w) ∷ es) (e ∷ insert_entry id_cmp es id w)) ≡ Some w
    by Less is rest = ap (λ (b : Bool). cond b (Some w) (found id (e ∷ es))) (itself id)
    by Equal is rest = ap (λ (b : Bool). cond b (Some w) (found id es)) (ap is_eq is)
    by Greater is rest = ap (λ (b : Bool). cond b (Some e.1) (found id (insert_entry id_cmp es id w))) (ap is_eq is) ∙ rest

put_other : (id q : NodeId) (w : Values) → is_at (id_cmp q) id ≡ false → (es : List (NodeId × Values)) → found q (insert_entry id_cmp es id w) ≡ found q es
put_other id q w apart [] = ap (λ (b : Bool). cond b (Some w) None) apart
put_other id q w apart (e ∷ es) = by (id_cmp id e.0) refl (put_other id q w apart es)
  where
    by : (r : Ordering) → id_cmp id e.0 ≡ r → found q (insert_entry id_cmp es id w) ≡ found q es
        → found q (match_ordering r ((id, w) ∷ e ∷ es) ((e.0, w) ∷ es) (e ∷ insert_entry id_cmp es id w)) ≡ found q (e ∷ es)
    by Less is rest = ap (λ (b : Bool). cond b (Some w) (found q (e ∷ es))) apart
    by Equal is rest =
        let P : NodeId → Type 0 = λ z. is_at (id_cmp q) z ≡ false in
        let not_here : is_at (id_cmp q) e.0 ≡ false = subst P (tied id e.0 (ap is_eq is)) apart in
        rw not_here refl
    by Greater is rest = ap (λ (o : Option Values). cond (is_at (id_cmp q) e.0) (Some e.1) o) rest

-- ---- one more value

pub kept_itself : (h : HistoryState) (id : NodeId) (time : ℤ) (value : DataValue) (o : Option Values) → found id h.nodes ≡ o
    → history_of id (with_one h id time value o) ≡ kept_in h.most time value (unwrap_or o [])
kept_itself h id time value None is = ap (λ (o : Option Values). unwrap_or o []) (put_itself id (kept_in h.most time value []) h.nodes)
kept_itself h id time value (Some values) is =
    let w = kept_in h.most time value values in
    let there : is_some (found id h.nodes) ≡ true = ap is_some is in
    ap (λ (o : Option Values). unwrap_or o []) (lookup-set_value alike (is_at (id_cmp id)) (same_test id) id w h.nodes there ∙ ap (λ (b : Bool). cond b (Some w) (found id h.nodes)) (itself id))

pub kept_other : (h : HistoryState) (id q : NodeId) (time : ℤ) (value : DataValue) (o : Option Values) → found id h.nodes ≡ o → is_at (id_cmp q) id ≡ false → is_at (id_cmp id) q ≡ false
    → history_of q (with_one h id time value o) ≡ history_of q h
kept_other h id q time value None is apart away = ap (λ (o : Option Values). unwrap_or o []) (put_other id q (kept_in h.most time value []) apart h.nodes)
kept_other h id q time value (Some values) is apart away =
    let w = kept_in h.most time value values in
    let there : is_some (found id h.nodes) ≡ true = ap is_some is in
    ap (λ (o : Option Values). unwrap_or o []) (lookup-set_value alike (is_at (id_cmp id)) (same_test id) q w h.nodes there ∙ ap (λ (b : Bool). cond b (Some w) (found q h.nodes)) away)

same_most : (h : HistoryState) (id : NodeId) (time : ℤ) (value : DataValue) (o : Option Values) → (with_one h id time value o).most ≡ h.most
same_most h id time value None = refl
same_most h id time value (Some values) = refl

-- ---- a later value comes last

greater : (a b : ℤ) → int_lt a b ≡ true → int_cmp b a ≡ Greater
greater a b h = let less : int_cmp a b ≡ Less = rw h refl in int_cmp_total.antisymm b a ∙ ap ordering_reverse less

put_last : (time : ℤ) (value : DataValue) (values : Values) → AllByRecursion (λ e. int_lt e.0 time ≡ true) values → put_in time value values ≡ values ++ (time, value) ∷ []
put_last time value [] h = refl
put_last time value (e ∷ es) h =
    ap (λ (r : Ordering). match_ordering r ((time, value) ∷ e ∷ es) ((e.0, value) ∷ es) (e ∷ put_in time value es)) (greater e.0 time h.0)
    ∙ ap (λ (xs : Values). e ∷ xs) (put_last time value es h.1)

-- what is kept comes before all of these values
abbrev IsBefore : Values → List DataValue → Type 0
IsBefore values more = AllByRecursion (λ e. are_later (Some (record { 0 = e.0 })) more ≡ true) values

later_parts : (last : Moment) (time : Moment) (value : DataValue) (more : List DataValue) → value.source_time ≡ Some time → are_later (Some last) (value ∷ more) ≡ true
    → (int_lt last.0 time.0 ≡ true) × (are_later (Some last) more ≡ true)
later_parts last time value more timed h = let h : int_lt last.0 time.0 && are_later (Some last) more ≡ true = rw timed at h in and_parts (int_lt last.0 time.0) (are_later (Some last) more) h

before_first : (time : Moment) (value : DataValue) (more : List DataValue) (values : Values) → value.source_time ≡ Some time → IsBefore values (value ∷ more)
    → AllByRecursion (λ e. int_lt e.0 time.0 ≡ true) values
before_first time value more [] is h = tt
before_first time value more (e ∷ es) is h = ((later_parts (record { 0 = e.0 }) time value more is h.0).0, before_first time value more es is h.1)

before_rest : (time : Moment) (value : DataValue) (more : List DataValue) (values : Values) → value.source_time ≡ Some time → IsBefore values (value ∷ more) → IsBefore values more
before_rest time value more [] is h = tt
before_rest time value more (e ∷ es) is h = ((later_parts (record { 0 = e.0 }) time value more is h.0).1, before_rest time value more es is h.1)

before_joined : (more : List DataValue) (xs ys : Values) → IsBefore xs more → IsBefore ys more → IsBefore (xs ++ ys) more
before_joined more [] ys h k = k
before_joined more (x ∷ xs) ys h k = (h.0, before_joined more xs ys h.1 k)

before_latest : (most : ℕ) (more : List DataValue) (values : Values) → IsBefore values more → IsBefore (latest most values) more
before_latest most more values h = by (nat_lt most (length values)) values h
  where
    by : (b : Bool) (values : Values) → IsBefore values more → IsBefore (cond b (drop 1 values) values) more
    by true [] h = tt
    by true (e ∷ es) h = h.1
    by false values h = h

-- ---- all values

shorter : (most n : ℕ) (xs more : Values) → length xs ≤ most + 1 → 1 ≤ length xs
    → drop (length (latest most xs) + n - most) (latest most xs ++ more) ≡ drop (length xs + n - most) (xs ++ more)
shorter most n xs more few some = by (nat_lt most (length xs)) refl
  where
    by : (b : Bool) → nat_lt most (length xs) ≡ b → (let kept : Values = cond b (drop 1 xs) xs in drop (length kept + n - most) (kept ++ more) ≡ drop (length xs + n - most) (xs ++ more))
    by true above =
        let over : suc most ≤ length xs = ltb-true most (length xs) above in
        let one_less : length (drop 1 xs) ≡ length xs - 1 = length-drop 1 xs in
        let count : 1 + (length (drop 1 xs) + n - most) ≡ length xs + n - most = omega (arith, over, one_less, few, some) in
        ap (λ (ys : Values). drop (length (drop 1 xs) + n - most) ys) (sym (drop-append-le 1 xs more some))
        ∙ drop-drop (length (drop 1 xs) + n - most) 1 (xs ++ more)
        ∙ ap (λ (k : ℕ). drop k (xs ++ more)) count
    by false within = refl

-- what the other values come to, once one more is kept
abbrev AllKept : List DataValue → Type 0
AllKept values = (h : HistoryState) (id : NodeId) (before : Values) → history_of id h ≡ before → length before ≤ h.most → IsBefore before values → rises values ≡ true
    → history_of id (with_all h id values) ≡ drop (length before + length values - h.most) (before ++ timed values)

one_kept : (value : DataValue) (values : List DataValue) → AllKept values → (o : Option Moment) → value.source_time ≡ o
    → (h : HistoryState) (id : NodeId) (before : Values) → history_of id h ≡ before → length before ≤ h.most → IsBefore before (value ∷ values)
    → (is_some value.source_time && are_later value.source_time values ≡ true) → rises values ≡ true
    → history_of id (with_all h id (value ∷ values)) ≡ drop (length before + length (value ∷ values) - h.most) (before ++ timed (value ∷ values))
one_kept value values others None timeless h id before is few first dated up = absurd (let gone : false ≡ true = rw timeless at dated in false≢true gone)
one_kept value values others (Some time) at h id before is few first dated up =
    let later : are_later (Some time) values ≡ true = rw at at dated in
    let o = found id h.nodes in
    let g = with_one h id time.0 value o in
    let longer = before ++ (time.0, value) ∷ [] in
    let goes_on : kept h id value ≡ g = ap (λ (t : Option Moment). kept_at h id value t) at in
    let most_is : g.most ≡ h.most = same_most h id time.0 value o in
    let put_is = put_last time.0 value before (before_first time value values before at first) in
    let here : history_of id g ≡ latest h.most longer =
    kept_itself h id time.0 value o refl ∙ ap (λ (vs : Values). kept_in h.most time.0 value vs) is ∙ ap (λ (vs : Values). latest h.most vs) put_is in
    let within : length (latest h.most longer) ≤ h.most = subst (λ (vs : Values). length (latest h.most vs) ≤ h.most) put_is (keeps_within_bounds h.most time.0 value before few) in
    let rest_first : IsBefore (latest h.most longer) values =
    before_latest h.most values longer (before_joined values before ((time.0, value) ∷ []) (before_rest time value values before at first) (later, tt)) in
    let rest = others g id (latest h.most longer) here (subst (λ (m : ℕ). length (latest h.most longer) ≤ m) (sym most_is) within) rest_first up in
    let long : length longer ≡ length before + 1 = length-append before ((time.0, value) ∷ []) in
    let time_is : time_of value ≡ time.0 = ap (λ (t : Option Moment). (unwrap_or t (record { 0 = pos 0 })).0) at in
    let counted : length longer + length values ≡ length before + suc (length values) = omega (arith, long) in
    ap (λ (k : HistoryState). history_of id (with_all k id values)) goes_on
    ∙ rest
    ∙ ap (λ (m : ℕ). drop (length (latest h.most longer) + length values - m) (latest h.most longer ++ timed values)) most_is
    ∙ shorter h.most (length values) longer (timed values) (omega (arith, long, few)) (omega (arith, long))
    ∙ ap (λ (k : ℕ). drop (k - h.most) (longer ++ timed values)) counted
    ∙ ap (λ (vs : Values). drop (length before + suc (length values) - h.most) vs) (append_assoc before ((time.0, value) ∷ []) (timed values) ∙ ap (λ (t : ℤ). before ++ (t, value) ∷ timed values) (sym time_is))

all_kept : (values : List DataValue) → AllKept values
unfolding rises
all_kept [] h id before is few first up =
    let none : length before + 0 - h.most ≡ 0 = omega (arith, few) in
    is ∙ sym (append-nil before) ∙ ap (λ (k : ℕ). drop k (before ++ [])) (sym none)
all_kept (value ∷ values) h id before is few first up =
    let parts = and_parts (is_some value.source_time && are_later value.source_time values) (rises values) up in
    one_kept value values (all_kept values) value.source_time refl h id before is few first parts.0 parts.1

pub begins_with_the_last : BeginsWithTheLast
begins_with_the_last h id values none up =
    let count : 0 + length values ≡ length values = omega arith in
    all_kept values h id [] none (omega arith) tt up ∙ ap (λ (n : ℕ). drop (n - h.most) (timed values)) count

pub begins_apart : BeginsApart
begins_apart h id other [] apart away = refl
begins_apart h id other (value ∷ values) apart away = begins_apart (kept h id value) id other values apart away ∙ by value.source_time
  where
    by : (o : Option Moment) → history_of other (kept_at h id value o) ≡ history_of other h
    by None = refl
    by (Some time) = kept_other h id other time.0 value (found id h.nodes) refl apart away
