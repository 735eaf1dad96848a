-- Walking up from a type: each of its supertypes is marked, and nothing else.
use Rattle.std.proofs.Common.{◌≡◌, ◌≢◌, ℕ, replicate, zero, suc, ◌+◌, ◌*◌, ◌-◌, ◌≤◌, ◌<◌, max, Bool, true, false, cond, List, [], ◌∷◌, ◌++◌, length, get_or, set, take, filter, Option, Some, None, slice_get, refl, sym, ap, subst, ◌∙◌, ◌⊎◌, inl, inr, arith, get_or-set_same, get_or-set_other}
use Rattle.std.proofs.lemmas.Bool.{cases_Bool, cases_eq, and_parts, false≢true}
use Rattle.std.proofs.lemmas.List.{take_more, length-set}
use Rattle.ua_types.specs.NodeIdOrder.{same_id}
use Rattle.ua_types.specs.declared.node_id.NodeId.{NodeId}
use Rattle.ua_types.proofs.SameIds.{same_id_true, same_id_itself}
use Rattle.ua_space.specs.declared.triple.Triple.{Triple}
use Rattle.ua_space.specs.declared.index.Key.TheVariants as keys
use Rattle.ua_space.specs.Indexes.{stands_under}
use Rattle.ua_space.specs.Marks.{is_marked, mark, marked}
use Rattle.ua_space.specs.Numbers.{number_at, AreNumbers, AreNumbered}
use Rattle.ua_space.specs.Subtypes.{is_subtyping, leads_to, is_subtype}
use Rattle.ua_space.proofs.Chains.{Has, Walk, contains_from_has, walk_found, walk_taken}
use Rattle.ua_space.proofs.Places.{at_get, under}
use Rattle.ua_space.proofs.Counting.{Numbers, Has_number, some_same, some_number, not_both}
use Rattle.ua_space.proofs.Walking.{in_filter, to_filter, both_ways}

-- ---- one reference more

after_last : (number : NodeId → Option ℕ) (s : List Bool × ℕ) (xs : List Triple) (t : Triple) → marked number s (xs ++ t ∷ []) ≡ mark (marked number s xs) (number t.source)
unfolding marked
after_last number s [] t = refl
after_last number s (x ∷ xs) t = after_last number (mark s (number x.source)) xs t

pub marked_more : (number : NodeId → Option ℕ) (s now : List Bool × ℕ) (list : List Triple) (k : ℕ) (t : Triple) → now ≡ marked number s (take k list) → Some t ≡ slice_get list k → mark now (number t.source) ≡ marked number s (take (k + 1) list)
marked_more number s now list k t so_far e =
    let at = at_get list k t e in
    ap (λ x. mark x (number t.source)) so_far ∙ sym (ap (marked number s) (take_more list k t at.0 ∙ ap (λ y. take k list ++ y ∷ []) (sym at.1)) ∙ after_last number s (take k list) t)

pub marked_none : (number : NodeId → Option ℕ) (s : List Bool × ℕ) → s ≡ marked number s []
unfolding marked
marked_none number s = refl

-- a type without a number, a type that is marked already, and one that isn't
pub mark_unknown : (s : List Bool × ℕ) (o : Option ℕ) → None ≡ o → mark s o ≡ s
mark_unknown s None e = refl
mark_unknown s (Some n) e = absurd cc

pub mark_old : (s : List Bool × ℕ) (o : Option ℕ) (n : ℕ) → Some n ≡ o → is_marked s.0 n ≡ true → mark s o ≡ s
mark_old s o n e old = rw (← e, old) refl

pub mark_new : (s : List Bool × ℕ) (o : Option ℕ) (n : ℕ) → Some n ≡ o → is_marked s.0 n ≡ false → mark s o ≡ (set s.0 n true, max s.1 (n + 1))
mark_new s o n e new = rw (← e, new) refl

-- ---- what one mark changes

mark_length : (s : List Bool × ℕ) (o : Option ℕ) → length (mark s o).0 ≡ length s.0
mark_length s None = refl
mark_length s (Some n) =
    elim (cases_Bool (is_marked s.0 n)) [ inl old ↦ rw old refl | inr new ↦ rw new (length-set s.0 n true) ]

mark_keeps : (s : List Bool × ℕ) (o : Option ℕ) (n : ℕ) → is_marked s.0 n ≡ true → is_marked (mark s o).0 n ≡ true
mark_keeps s None n h = h
mark_keeps s (Some m) n h =
    elim (cases_Bool (is_marked s.0 m)) [
      | inl old ↦ rw old h
      | inr new ↦
          let ne : n ≢ m = λ e. let P : ℕ → Type 0 = λ k. is_marked s.0 k ≡ true in false≢true (sym new ∙ subst P e h) in
          rw (new, get_or-set_other s.0 m n true false ne) h
    ]

mark_here : (s : List Bool × ℕ) (n : ℕ) → n < length s.0 → is_marked (mark s (Some n)).0 n ≡ true
mark_here s n lt =
    elim (cases_Bool (is_marked s.0 n)) [ inl old ↦ rw old old | inr new ↦ rw (new, get_or-set_same s.0 n true false lt) refl ]

mark_from : (s : List Bool × ℕ) (o : Option ℕ) (n : ℕ) → is_marked (mark s o).0 n ≡ true → (is_marked s.0 n ≡ true) ⊎ ((o ≡ Some n) × (n < (mark s o).1))
mark_from s None n h = inl h
mark_from s (Some m) n h =
    elim (cases_Bool (is_marked s.0 m)) [
      | inl old ↦ inl (rw old at h)
      | inr new ↦
          elim (cases_eq n m) [
            | inl e ↦ inr (ap Some (sym e), rw new (omega (arith, e)))
            | inr ne ↦ inl (sym (get_or-set_other s.0 m n true false ne) ∙ (rw new at h))
          ]
    ]

mark_rises : (s : List Bool × ℕ) (o : Option ℕ) → s.1 ≤ (mark s o).1
mark_rises s None = omega arith
mark_rises s (Some m) = elim (cases_Bool (is_marked s.0 m)) [ inl old ↦ rw old (omega arith) | inr new ↦ rw new (omega arith) ]

mark_within : (s : List Bool × ℕ) (o : Option ℕ) (k : ℕ) → ((n : ℕ) → o ≡ Some n → n < k) → s.1 ≤ k → (mark s o).1 ≤ k
mark_within s None k few le = le
mark_within s (Some m) k few le =
    let lt = few m refl in
    elim (cases_Bool (is_marked s.0 m)) [ inl old ↦ rw old le | inr new ↦ rw new (omega arith) ]

-- how many aren't marked
abbrev pub unmarked : List Bool → ℕ
unmarked [] = 0
unmarked (b ∷ bs) = cond b 0 1 + unmarked bs

unmarked_less : (bs : List Bool) (n : ℕ) → n < length bs → get_or bs n false ≡ false → unmarked (set bs n true) + 1 ≡ unmarked bs
unmarked_less [] n lt new = absurd (omega arith)
unmarked_less (b ∷ bs) zero lt new = rw new (omega arith)
unmarked_less (b ∷ bs) (suc n) lt new = let rest = unmarked_less bs n (omega arith) new in omega arith

product_less : (u v a b k : ℕ) → v + 1 ≡ u → b ≤ a + k → v * k + b ≤ u * k + a
product_less u v a b k e le = grind arith

mark_fewer : (s : List Bool × ℕ) (o : Option ℕ) (k : ℕ) → ((n : ℕ) → o ≡ Some n → (n < length s.0) × (n < k)) → unmarked (mark s o).0 * k + (mark s o).1 ≤ unmarked s.0 * k + s.1
mark_fewer s None k few = omega arith
mark_fewer s (Some m) k few =
    let lt = few m refl in
    elim (cases_Bool (is_marked s.0 m)) [
      | inl old ↦ rw old (omega arith)
      | inr new ↦ rw new (product_less (unmarked s.0) (unmarked (set s.0 m true)) s.1 (max s.1 (m + 1)) k (unmarked_less s.0 m lt.0 new) (omega (arith, lt.1)))
    ]

-- ---- and all of them

pub marked_length : (number : NodeId → Option ℕ) (s : List Bool × ℕ) (ts : List Triple) → length (marked number s ts).0 ≡ length s.0
unfolding marked
marked_length number s [] = refl
marked_length number s (t ∷ ts) = marked_length number (mark s (number t.source)) ts ∙ mark_length s (number t.source)

marked_keeps : (number : NodeId → Option ℕ) (s : List Bool × ℕ) (ts : List Triple) (n : ℕ) → is_marked s.0 n ≡ true → is_marked (marked number s ts).0 n ≡ true
unfolding marked
marked_keeps number s [] n h = h
marked_keeps number s (t ∷ ts) n h = marked_keeps number (mark s (number t.source)) ts n (mark_keeps s (number t.source) n h)

marked_all : (number : NodeId → Option ℕ) (s : List Bool × ℕ) (ts : List Triple) (t : Triple) (n : ℕ) → Has ts t → number t.source ≡ Some n → n < length s.0 → is_marked (marked number s ts).0 n ≡ true
unfolding marked
marked_all number s [] t n h e lt = absurd h
marked_all number s (x ∷ ts) t n (inl is) e lt =
    let same : number x.source ≡ Some n = ap (λ (y : Triple). number y.source) is ∙ e in
    let P : Option ℕ → Type 0 = λ o. is_marked (mark s o).0 n ≡ true in
    marked_keeps number (mark s (number x.source)) ts n (subst P (sym same) (mark_here s n lt))
marked_all number s (x ∷ ts) t n (inr h) e lt =
    let len = mark_length s (number x.source) in
    marked_all number (mark s (number x.source)) ts t n h e (omega (arith, len, lt))

marked_rises : (number : NodeId → Option ℕ) (s : List Bool × ℕ) (ts : List Triple) → s.1 ≤ (marked number s ts).1
unfolding marked
marked_rises number s [] = omega arith
marked_rises number s (t ∷ ts) = let one = mark_rises s (number t.source) in let rest = marked_rises number (mark s (number t.source)) ts in omega (arith, one, rest)

marked_from : (number : NodeId → Option ℕ) (s : List Bool × ℕ) (ts : List Triple) (n : ℕ) → is_marked (marked number s ts).0 n ≡ true
    → (is_marked s.0 n ≡ true) ⊎ ((n < (marked number s ts).1) × ((t : Triple) × Has ts t × (number t.source ≡ Some n)))
unfolding marked
marked_from number s [] n h = inl h
marked_from number s (x ∷ ts) n h =
    elim (marked_from number (mark s (number x.source)) ts n h) [
      | inl before ↦
          elim (mark_from s (number x.source) n before) [
            | inl first ↦ inl first
            | inr here ↦ let rise = marked_rises number (mark s (number x.source)) ts in inr (omega (arith, here.1, rise), (x, inl refl, here.0))
          ]
      | inr later ↦ inr (later.0, (later.1.0, inr later.1.1, later.1.2))
    ]

marked_within : (number : NodeId → Option ℕ) (s : List Bool × ℕ) (ts : List Triple) (k : ℕ) → ((id : NodeId) (n : ℕ) → number id ≡ Some n → n < k) → s.1 ≤ k → (marked number s ts).1 ≤ k
unfolding marked
marked_within number s [] k few le = le
marked_within number s (t ∷ ts) k few le = marked_within number (mark s (number t.source)) ts k few (mark_within s (number t.source) k (few t.source) le)

pub marked_fewer : (number : NodeId → Option ℕ) (s : List Bool × ℕ) (ts : List Triple) (k : ℕ) → ((id : NodeId) (n : ℕ) → number id ≡ Some n → (n < length s.0) × (n < k))
    → unmarked (marked number s ts).0 * k + (marked number s ts).1 ≤ unmarked s.0 * k + s.1
unfolding marked
marked_fewer number s [] k few = omega arith
marked_fewer number s (t ∷ ts) k few =
    let len = mark_length s (number t.source) in
    let rest = marked_fewer number (mark s (number t.source)) ts k (λ id n e. let f = few id n e in (omega (arith, len, f.0), f.1)) in
    let one = mark_fewer s (number t.source) k (few t.source) in
    omega (arith, rest, one)

-- ---- walks

walk_more : (ts : List Triple) (k : ℕ) (lower x : NodeId) (t : Triple) → Walk ts k lower x → Has ts t → leads_to x t ≡ true → Walk ts (suc k) lower t.source
walk_more ts zero lower x t w h leads = let P : NodeId → Type 0 = λ y. leads_to y t ≡ true in (t, h, subst P (sym w) leads, refl)
walk_more ts (suc k) lower x t w h leads = (w.0, w.1, w.2, walk_more ts k w.0.source x t w.3 h leads)

under_leads : (lower : NodeId) (t : Triple) → stands_under keys.Subtype lower t ≡ leads_to lower t
under_leads lower t = under (is_subtyping t) t.target lower

same_number : (types : List NodeId) (numbers : Numbers) (a b : NodeId) (n : ℕ) → AreNumbers types numbers → number_at numbers a ≡ Some n → number_at numbers b ≡ Some n → a ≡ b
same_number types numbers a b n are one two = some_same a b (are.known a n one ∙ sym (are.known b n two))

below_end : {X : Type 0} (xs : List X) (n : ℕ) (x : X) → Some x ≡ slice_get xs n → n < length xs
below_end xs n x e = (at_get xs n x e).0

pub number_below : (types : List NodeId) (numbers : Numbers) (id : NodeId) (n : ℕ) → AreNumbers types numbers → number_at numbers id ≡ Some n → n < length types
number_below types numbers id n are e = below_end types n id (are.known id n e)

has_number : (ts : List Triple) (types : List NodeId) (numbers : Numbers) (t : Triple) → AreNumbered ts types numbers → Has ts t → is_subtyping t ≡ true → (n : ℕ) × (number_at numbers t.source ≡ Some n)
has_number ts types numbers t are h kind =
    let c = contains_from_has ts t h in
    let P : Triple → Type 0 = Has_number numbers in
    some_number (number_at numbers t.source) (subst P c.2 (are.complete c.0 t c.1) kind)

-- a type has a number, and is marked
abbrev pub Met : Numbers → List Bool → NodeId → Type 0
Met numbers marks id = (n : ℕ) × (number_at numbers id ≡ Some n) × (is_marked marks n ≡ true)

-- each marked type is a supertype, those of the lower type are marked, and so are those of the marked types from a number on
pub record Climbed (ts : List Triple) (types : List NodeId) (numbers : Numbers) (lower : NodeId) (marks : List Bool) (next : ℕ) : Type 0 where
  sound : (id : NodeId) (n : ℕ) → number_at numbers id ≡ Some n → is_marked marks n ≡ true → (k : ℕ) × Walk ts k lower id
  first : (t : Triple) → Has ts t → leads_to lower t ≡ true → Met numbers marks t.source
  closed : (t : Triple) → Has ts t → is_subtyping t ≡ true → (n : ℕ) → number_at numbers t.target ≡ Some n → is_marked marks n ≡ true → next ≤ n → Met numbers marks t.source
  pub low : next ≤ length types
  pub size : length types ≤ length marks

-- what one type's references change
record Followed (ts : List Triple) (types : List NodeId) (numbers : Numbers) (lower x : NodeId) (marks new : List Bool) (next after : ℕ) : Type 0 where
  kept : (id : NodeId) → Met numbers marks id → Met numbers new id
  all : (t : Triple) → Has ts t → leads_to x t ≡ true → Met numbers new t.source
  from : (id : NodeId) (n : ℕ) → number_at numbers id ≡ Some n → is_marked new n ≡ true → (is_marked marks n ≡ true) ⊎ ((n < after) × ((k : ℕ) × Walk ts k lower id))
  rises : next ≤ after
  low : after ≤ length types
  size : length types ≤ length new

follow : (ts : List Triple) (types : List NodeId) (numbers : Numbers) (lower x : NodeId) (marks : List Bool) (next : ℕ) → AreNumbered ts types numbers → length types ≤ length marks → next ≤ length types → (k : ℕ) × Walk ts k lower x
    → let r = marked (number_at numbers) (marks, next) (filter (stands_under keys.Subtype x) ts) in Followed ts types numbers lower x marks r.0 next r.1
follow ts types numbers lower x marks next are size low up =
    let list = filter (stands_under keys.Subtype x) ts in
    let number = number_at numbers in
    let few : (id : NodeId) (n : ℕ) → number id ≡ Some n → n < length types = λ id n e. number_below types numbers id n are.each e in
    record {
      kept = λ id met. (met.0, met.1, marked_keeps number (marks, next) list met.0 met.2);
      all = λ t h leads.
          let kind = (and_parts (is_subtyping t) (same_id t.target x) leads).0 in
          let n = has_number ts types numbers t are h kind in
          (n.0, n.1, marked_all number (marks, next) list t n.0 (to_filter (stands_under keys.Subtype x) ts t h (under_leads x t ∙ leads)) n.1 (omega (arith, few t.source n.0 n.1)));
      from = λ id n e h.
          elim (marked_from number (marks, next) list n h) [
            | inl before ↦ inl before
            | inr new ↦
                let t = new.1.0 in
                let there = in_filter (stands_under keys.Subtype x) ts t new.1.1 in
                let walk = walk_more ts up.0 lower x t up.1 there.0 (sym (under_leads x t) ∙ there.1) in
                let P : NodeId → Type 0 = Walk ts (suc up.0) lower in
                inr (new.0, (suc up.0, subst P (same_number types numbers t.source id n are.each new.1.2 e) walk))
          ];
      rises = marked_rises number (marks, next) list;
      low = marked_within number (marks, next) list (length types) few low;
      size = let len = marked_length number (marks, next) list in omega (arith, len, size);
    }

-- the lower type's own references, when nothing is marked
pub climb_begins : (ts : List Triple) (types : List NodeId) (numbers : Numbers) (lower : NodeId) (marks : List Bool) → AreNumbered ts types numbers → length types ≤ length marks → ((n : ℕ) → is_marked marks n ≡ false)
    → let r = marked (number_at numbers) (marks, 0) (filter (stands_under keys.Subtype lower) ts) in Climbed ts types numbers lower r.0 r.1
climb_begins ts types numbers lower marks are size none =
    let f = follow ts types numbers lower lower marks 0 are size (omega arith) (0, refl) in
    record {
      sound = λ id n e h. elim (f.from id n e h) [ inl before ↦ absurd (false≢true (sym (none n) ∙ before)) | inr new ↦ new.1 ];
      first = f.all;
      closed = λ t h kind n e met le. elim (f.from t.target n e met) [ inl before ↦ absurd (false≢true (sym (none n) ∙ before)) | inr new ↦ absurd (omega (arith, new.0, le)) ];
      low = f.low;
      size = f.size;
    }

-- the next type isn't marked
pub climb_passes : (ts : List Triple) (types : List NodeId) (numbers : Numbers) (lower : NodeId) (marks : List Bool) (next : ℕ) → Climbed ts types numbers lower marks next → 0 < next → is_marked marks (next - 1) ≡ false
    → Climbed ts types numbers lower marks (next - 1)
climb_passes ts types numbers lower marks next so_far lt none = record {
  sound = so_far.sound;
  first = so_far.first;
  closed = λ t h kind n e met le.
      elim (cases_eq n (next - 1)) [
        | inl is ↦ let P : ℕ → Type 0 = λ m. is_marked marks m ≡ true in absurd (false≢true (sym none ∙ subst P is met))
        | inr ne ↦ so_far.closed t h kind n e met (omega arith)
      ];
  low = let l = so_far.low in omega (arith, l);
  size = so_far.size;
}

-- the next type is marked, and its references are followed
pub climb_goes_on : (ts : List Triple) (types : List NodeId) (numbers : Numbers) (lower x : NodeId) (marks : List Bool) (next : ℕ) → AreNumbered ts types numbers → Climbed ts types numbers lower marks next → 0 < next
    → is_marked marks (next - 1) ≡ true → Some x ≡ slice_get types (next - 1)
    → let r = marked (number_at numbers) (marks, next - 1) (filter (stands_under keys.Subtype x) ts) in Climbed ts types numbers lower r.0 r.1
climb_goes_on ts types numbers lower x marks next are so_far lt here item =
    let own = are.each.own x (next - 1) item in
    let l = so_far.low in
    let f = follow ts types numbers lower x marks (next - 1) are so_far.size (omega (arith, l)) (so_far.sound x (next - 1) own here) in
    record {
      sound = λ id n e h. elim (f.from id n e h) [ inl before ↦ so_far.sound id n e before | inr new ↦ new.1 ];
      first = λ t h leads. f.kept t.source (so_far.first t h leads);
      closed = λ t h kind n e met le.
          elim (f.from t.target n e met) [
            | inl before ↦
                elim (cases_eq n (next - 1)) [
                  | inl is ↦
                      let Q : ℕ → Type 0 = λ m. number_at numbers t.target ≡ Some m in
                      let same = same_number types numbers t.target x (next - 1) are.each (subst Q is e) own in
                      let P : NodeId → Type 0 = λ y. leads_to y t ≡ true in
                      f.all t h (subst P same (rw (kind, same_id_itself t.target) refl))
                  | inr ne ↦ let rise = f.rises in f.kept t.source (so_far.closed t h kind n e before (omega (arith, rise, le)))
                ]
            | inr new ↦ absurd (omega (arith, new.0, le))
          ];
      low = f.low;
      size = f.size;
    }

-- ---- the end

met_above : (ts : List Triple) (types : List NodeId) (numbers : Numbers) (lower : NodeId) (marks : List Bool) → Climbed ts types numbers lower marks 0 → (k : ℕ) (id upper : NodeId) → Met numbers marks id → Walk ts k id upper → Met numbers marks upper
met_above ts types numbers lower marks done zero id upper met w = subst (Met numbers marks) w met
met_above ts types numbers lower marks done (suc k) id upper met w =
    let t = w.0 in
    let ends = and_parts (is_subtyping t) (same_id t.target id) w.2 in
    let same = sym (same_id_true t.target id ends.1) in
    let at = subst (Met numbers marks) same met in
    met_above ts types numbers lower marks done k t.source upper (done.closed t w.1 ends.0 at.0 at.1 at.2 (omega arith)) w.3

all_met : (ts : List Triple) (types : List NodeId) (numbers : Numbers) (lower : NodeId) (marks : List Bool) → Climbed ts types numbers lower marks 0 → (k : ℕ) (upper : NodeId) → (lower ≡ upper → ⊥) → Walk ts k lower upper → Met numbers marks upper
all_met ts types numbers lower marks done zero upper apart w = absurd (apart w)
all_met ts types numbers lower marks done (suc k) upper apart w = met_above ts types numbers lower marks done k w.0.source upper (done.first w.0 w.1 w.2) w.3

pub climb_ends : (ts : List Triple) (types : List NodeId) (numbers : Numbers) (lower upper : NodeId) (marks : List Bool) (next n : ℕ) → Climbed ts types numbers lower marks next → number_at numbers upper ≡ Some n → (lower ≡ upper → ⊥)
    → (is_marked marks n ≡ false → next ≡ 0) → is_marked marks n ≡ is_subtype ts lower upper
climb_ends ts types numbers lower upper marks next n so_far e apart over =
    both_ways (is_marked marks n) (is_subtype ts lower upper)
    (λ h. let w = so_far.sound upper n e h in walk_found ts w.0 lower upper w.1)
    (λ h.
    let w = walk_taken ts lower upper h in
    elim (cases_Bool (is_marked marks n)) [
      | inl there ↦ there
      | inr none ↦
          let met = all_met ts types numbers lower marks (subst (Climbed ts types numbers lower marks) (over none) so_far) w.0 upper apart w.1 in
          let P : ℕ → Type 0 = λ m. is_marked marks m ≡ true in
          subst P (some_same met.0 n (sym met.1 ∙ e)) met.2
    ])

-- a type without a number has no subtypes but itself
pub no_subtypes : (ts : List Triple) (types : List NodeId) (numbers : Numbers) → AreNumbered ts types numbers → (k : ℕ) (lower upper : NodeId) → (lower ≡ upper → ⊥) → None ≡ number_at numbers upper → Walk ts k lower upper → ⊥
no_subtypes ts types numbers are zero lower upper apart none w = apart w
no_subtypes ts types numbers are (suc k) lower upper apart none w =
    elim (cases_Bool (same_id w.0.source upper)) [
      | inl same ↦
          let n = has_number ts types numbers w.0 are w.1 (and_parts (is_subtyping w.0) (same_id w.0.target lower) w.2).0 in
          let P : NodeId → Type 0 = λ id. number_at numbers id ≡ Some n.0 in
          not_both n.0 (number_at numbers upper) (subst P (same_id_true w.0.source upper same) n.1) none
      | inr other ↦ no_subtypes ts types numbers are k w.0.source upper (λ e. let P : NodeId → Type 0 = λ y. same_id w.0.source y ≡ true in false≢true (sym other ∙ subst P e (same_id_itself w.0.source))) none w.3
    ]

pub none_marked : (k n : ℕ) → is_marked (replicate k false) n ≡ false
none_marked zero n = refl
none_marked (suc k) zero = refl
none_marked (suc k) (suc n) = none_marked k n
