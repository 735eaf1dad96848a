-- Pages of a list, and the calls that give them.
use Rattle.std.proofs.Common.{◌≡◌, ℕ, zero, suc, ◌+◌, ◌-◌, ◌<◌, ◌≤◌, ◌^◌, Bool, true, false, cond, List, [], ◌∷◌, ◌++◌, length, take, drop, filter, map, slice_get, Some, None, Result, Ok, Err, refl, sym, ap, subst, ◌∙◌, arith, inl, inr, append-nil, length-append}
use Rattle.std.proofs.lemmas.Bool.{cases_Bool}
use Rattle.std.proofs.lemmas.List.{take-append-drop, length-drop, drop_all}
use Rattle.std.specs.Result.{result_map_both}
use Rattle.ua_types.specs.Answers.{Step, step}
use Rattle.ua_types.specs.declared.refusal.Refusal.{Refusal}
use Rattle.ua_types.specs.declared.refusal.Refusal.TheVariants.{Service, Memory, Exhausted}
use Rattle.ua_types.specs.declared.status.Status.{Status}
use Rattle.ua_service_messages.specs.declared.browsing.BrowseDescription.{BrowseDescription}
use Rattle.ua_service_messages.specs.declared.browsing.ReferenceDescription.{ReferenceDescription}
use Rattle.ua_session.specs.Points.{PointsState, TakesSerial}
use Rattle.ua_types.specs.NodeIdOrder.{same_id}
use Rattle.ua_types.specs.declared.node_id.NodeId.{NodeId}
use Rattle.ua_space.specs.Nodes.{SpaceState}
use Rattle.ua_space.specs.References.{Directed, references_of, forward_of, inverse_of, outwards, inwards}
use Rattle.ua_space.specs.Spaces.{IsSpace}
use Rattle.ua_space.specs.declared.triple.Triple.{Triple}
use Rattle.ua_browse.specs.Describing.{described}
use Rattle.ua_browse.specs.Browsing.{place_of_first, shown_of, next_of, descriptions_of, page_of, with_point}
use Rattle.ua_browse.specs.BrowsingLaws.{plain, joined, joined_from, BrowsesByFilter, NextIsTheSliceAfter, PagesJoinToAll}
use Rattle.ua_browse.specs.Wanted.{Placed, placed, left_of, wanted_from, is_wanted}

-- ---- lists

drop_one : {A : Type 0} (xs : List A) (i : ℕ) (x : A) → slice_get xs i ≡ Some x → drop i xs ≡ x ∷ drop (suc i) xs
drop_one [] i x e = absurd cc
drop_one (y ∷ ys) zero x e = cc
drop_one (y ∷ ys) (suc i) x e = drop_one ys i x e

drop_nil : {A : Type 0} (n : ℕ) → ◌≡◌ {A = List A} (drop n []) []
drop_nil zero = refl
drop_nil (suc n) = refl

drop_twice : {A : Type 0} (a b : ℕ) (xs : List A) → drop a (drop b xs) ≡ drop (b + a) xs
drop_twice a zero xs = let e : a ≡ 0 + a = omega arith in ap (λ (n : ℕ). drop n xs) e
drop_twice a (suc b) [] = drop_nil a ∙ sym (drop_nil (suc b + a))
drop_twice a (suc b) (x ∷ xs) = let e : suc (b + a) ≡ suc b + a = omega arith in drop_twice a b xs ∙ ap (λ (n : ℕ). drop n (x ∷ xs)) e

take_one_more : {A : Type 0} (xs ys : List A) (n : ℕ) (y : A) → drop n xs ≡ y ∷ ys → take (suc n) xs ≡ take n xs ++ y ∷ []
take_one_more [] ys zero y e = absurd cc
take_one_more [] ys (suc n) y e = absurd cc
take_one_more (x ∷ xs) ys zero y e = cc
take_one_more (x ∷ xs) ys (suc n) y e = ap (λ l. x ∷ l) (take_one_more xs ys n y e)

drop_one_more : {A : Type 0} (xs ys : List A) (n : ℕ) (y : A) → drop n xs ≡ y ∷ ys → drop (suc n) xs ≡ ys
drop_one_more [] ys zero y e = absurd cc
drop_one_more [] ys (suc n) y e = absurd cc
drop_one_more (x ∷ xs) ys zero y e = cc
drop_one_more (x ∷ xs) ys (suc n) y e = drop_one_more xs ys n y e

map_one_more : {A B : Type 0} (f : A → B) (xs : List A) (y : A) → map f (xs ++ y ∷ []) ≡ map f xs ++ f y ∷ []
map_one_more f [] y = refl
map_one_more f (x ∷ xs) y = ap (λ l. f x ∷ l) (map_one_more f xs y)

length_one_more : {B : Type 0} (xs : List B) (y : B) → length (xs ++ y ∷ []) ≡ suc (length xs)
length_one_more [] y = refl
length_one_more (x ∷ xs) y = ap suc (length_one_more xs y)

-- ---- the references that are left

module _ (such : Directed → Bool) (rs : List Directed) where
  left_with : (i : ℕ) (r : Directed) → slice_get rs i ≡ Some r → such r ≡ true → left_of such rs i ≡ record { place = i; reference = r } ∷ left_of such rs (suc i)
  left_with i r at is =
      ap (λ (xs : List Directed). filter (λ (p : Placed). such p.reference) (placed i xs)) (drop_one rs i r at)
      ∙ ap (λ (b : Bool). cond b (record { place = i; reference = r } ∷ left_of such rs (suc i)) (left_of such rs (suc i))) is

  left_without : (i : ℕ) (r : Directed) → slice_get rs i ≡ Some r → such r ≡ false → left_of such rs i ≡ left_of such rs (suc i)
  left_without i r at is =
      ap (λ (xs : List Directed). filter (λ (p : Placed). such p.reference) (placed i xs)) (drop_one rs i r at)
      ∙ ap (λ (b : Bool). cond b (record { place = i; reference = r } ∷ left_of such rs (suc i)) (left_of such rs (suc i))) is

  left_past : (i : ℕ) → length rs ≤ i → left_of such rs i ≡ []
  left_past i past = ap (λ (xs : List Directed). filter (λ (p : Placed). such p.reference) (placed i xs)) (drop_all i rs past)

-- ---- the loop: what was taken so far is the front of what was left at first, and the rest is still left

pub record IsFront {B : Type 0} (f : Placed → B) (all left : List Placed) (page : List B) : Type 0 where
  pub front : page ≡ map f (take (length page) all)
  pub rest : drop (length page) all ≡ left

module _ {B : Type 0} (f : Placed → B) where
  pub front_of_all : (all : List Placed) → IsFront f all all []
  front_of_all all = record { front = refl; rest = refl }

  front_grown : (all left : List Placed) (page : List B) (p : Placed) → IsFront f all (p ∷ left) page → IsFront f all left (page ++ f p ∷ [])
  front_grown all left page p is =
      let n = length page in
      let more = length_one_more page (f p) in
      record {
        front =
            ap (λ (l : List B). l ++ f p ∷ []) is.front
            ∙ sym (map_one_more f (take n all) p)
            ∙ ap (map f) (sym (take_one_more all left n p is.rest))
            ∙ ap (λ (k : ℕ). map f (take k all)) (sym more);
        rest = ap (λ (k : ℕ). drop k all) more ∙ drop_one_more all left n p is.rest;
      }

  module _ (such : Directed → Bool) (rs : List Directed) (all : List Placed) (page : List B) (i : ℕ) where
    pub front_with : (j : ℕ) (r : Directed) (after : List B) → suc i ≡ j → Some r ≡ slice_get rs i → such r ≡ true → after ≡ page ++ f (record { place = i; reference = r }) ∷ [] →
        IsFront f all (left_of such rs i) page → IsFront f all (left_of such rs j) after
    front_with j r after step at is e h =
        subst (λ (k : ℕ). IsFront f all (left_of such rs k) after) step
        (subst (IsFront f all (left_of such rs (suc i))) (sym e)
        (front_grown all (left_of such rs (suc i)) page (record { place = i; reference = r }) (subst (λ (l : List Placed). IsFront f all l page) (left_with such rs i r (sym at) is) h)))

    pub front_without : (j : ℕ) (r : Directed) → suc i ≡ j → Some r ≡ slice_get rs i → such r ≡ false → IsFront f all (left_of such rs i) page → IsFront f all (left_of such rs j) page
    front_without j r step at is h = subst (λ (k : ℕ). IsFront f all (left_of such rs k) page) step (subst (λ (l : List Placed). IsFront f all l page) (left_without such rs i r (sym at) is) h)

    -- a full page, and one more that is left
    pub full_page : (size : ℕ) → length page ≡ size → IsFront f all (left_of such rs i) page → page ≡ map f (shown_of size all)
    full_page size full h = h.front ∙ ap (λ (k : ℕ). map f (take k all)) full

    pub full_next : (size : ℕ) (r : Directed) → length page ≡ size → Some r ≡ slice_get rs i → such r ≡ true → IsFront f all (left_of such rs i) page → Some i ≡ next_of size all
    full_next size r full at is h =
        sym (ap (λ (k : ℕ). place_of_first (drop k all)) (sym full) ∙ ap place_of_first (h.rest ∙ left_with such rs i r (sym at) is))

    -- all were looked at
    module _ (size : ℕ) (few : length page ≤ size) (past : length rs ≤ i) (h : IsFront f all (left_of such rs i) page) where
      none_left : drop (length page) all ≡ []
      none_left = h.rest ∙ left_past such rs i past

      no_more : length all ≤ size
      no_more = let e : length all - length page ≡ 0 = sym (length-drop (length page) all) ∙ ap length none_left in omega (arith, e, few)

      pub last_page : page ≡ map f (shown_of size all)
      last_page =
          h.front
          ∙ ap (map f) (sym (append-nil (take (length page) all)) ∙ ap (λ (l : List Placed). take (length page) all ++ l) (sym none_left) ∙ take-append-drop (length page) all
          ∙ sym (sym (append-nil (take size all)) ∙ ap (λ (l : List Placed). take size all ++ l) (sym (drop_all size all no_more)) ∙ take-append-drop size all))

      pub last_next : None ≡ next_of size all
      last_next = sym (ap place_of_first (drop_all size all no_more))

-- ---- the laws

plain_of : (such : Directed → Bool) (k : ℕ) (rs : List Directed) → plain (filter (λ (p : Placed). such p.reference) (placed k rs)) ≡ filter such rs
plain_of such k [] = refl
plain_of such k (r ∷ rs) = by (such r) (plain_of such (suc k) rs)
  where
    by : (b : Bool) → plain (filter (λ (p : Placed). such p.reference) (placed (suc k) rs)) ≡ filter such rs →
        plain (cond b (record { place = k; reference = r } ∷ filter (λ (p : Placed). such p.reference) (placed (suc k) rs)) (filter (λ (p : Placed). such p.reference) (placed (suc k) rs)))
        ≡ cond b (r ∷ filter such rs) (filter such rs)
    by true rest = ap (λ (l : List Directed). r ∷ l) rest
    by false rest = rest

pub browses_by_filter : BrowsesByFilter
browses_by_filter space d = plain_of (is_wanted space d) 0 (references_of d.node_id space.triples)

module _ (such : Directed → Bool) where
  abbrev of_list : ℕ → List Directed → List Placed
  of_list k rs = filter (λ (p : Placed). such p.reference) (placed k rs)

  -- the slice after the first `size` begins at the place of its first
  abbrev Goes : ℕ → ℕ → ℕ → List Directed → Type 0
  Goes size k next rs = (k ≤ next) × (of_list next (drop (next - k) rs) ≡ drop size (of_list k rs))

  slice_after : (rs : List Directed) (size k next : ℕ) → place_of_first (drop size (of_list k rs)) ≡ Some next → Goes size k next rs
  slice_after [] zero k next e = absurd cc
  slice_after [] (suc size) k next e = absurd cc
  slice_after (r ∷ rs) size k next e = by (λ s f. slice_after rs s (suc k) next f) (such r) refl size e
    where
      deeper : (s : ℕ) → Goes s (suc k) next rs → (k ≤ next) × (of_list next (drop (next - k) (r ∷ rs)) ≡ drop s (of_list (suc k) rs))
      deeper s g =
          let below = g.0 in
          let one : next - k ≡ suc (next - suc k) = omega (arith, below) in
          (omega (arith, below), ap (λ (n : ℕ). of_list next (drop n (r ∷ rs))) one ∙ g.1)

      by : ((s : ℕ) → place_of_first (drop s (of_list (suc k) rs)) ≡ Some next → Goes s (suc k) next rs) → (b : Bool) → such r ≡ b → (s : ℕ) → place_of_first (drop s (of_list k (r ∷ rs))) ≡ Some next →
          Goes s k next (r ∷ rs)
      by rest true is zero f =
          let here : k ≡ next = let g = sym (ap (λ (t : Bool). place_of_first (cond t (record { place = k; reference = r } ∷ of_list (suc k) rs) (of_list (suc k) rs))) is) ∙ f in cc in
          let none : next - k ≡ 0 = omega (arith, here) in
          (omega (arith, here), ap (λ (n : ℕ). of_list next (drop n (r ∷ rs))) none ∙ ap (λ (n : ℕ). of_list n (r ∷ rs)) (sym here))
      by rest true is (suc s) f =
          let e : of_list k (r ∷ rs) ≡ record { place = k; reference = r } ∷ of_list (suc k) rs = ap (λ (t : Bool). cond t (record { place = k; reference = r } ∷ of_list (suc k) rs) (of_list (suc k) rs)) is in
          let g = deeper s (rest s (sym (ap (λ (l : List Placed). place_of_first (drop (suc s) l)) e) ∙ f)) in
          (g.0, g.1 ∙ sym (ap (drop (suc s)) e))
      by rest false is s f =
          let e : of_list k (r ∷ rs) ≡ of_list (suc k) rs = ap (λ (t : Bool). cond t (record { place = k; reference = r } ∷ of_list (suc k) rs) (of_list (suc k) rs)) is in
          let g = deeper s (rest s (sym (ap (λ (l : List Placed). place_of_first (drop s l)) e) ∙ f)) in
          (g.0, g.1 ∙ sym (ap (drop s) e))

  next_slice : (rs : List Directed) (size place next : ℕ) → place_of_first (drop size (left_of such rs place)) ≡ Some next → left_of such rs next ≡ drop size (left_of such rs place)
  next_slice rs size place next e =
      let g = slice_after (drop place rs) size place next e in
      let sum : place + (next - place) ≡ next = let below = g.0 in omega (arith, below) in
      ap (of_list next) (sym (drop_twice (next - place) place rs ∙ ap (λ (n : ℕ). drop n rs) sum)) ∙ g.1

pub next_is_the_slice_after : NextIsTheSliceAfter
next_is_the_slice_after space d size place next e = next_slice (is_wanted space d) (references_of d.node_id space.triples) size place next e

join_step : (size pages : ℕ) (all : List Placed) (further left_from : ℕ → List Placed) → 0 < size → length all < suc pages → ((next : ℕ) → place_of_first (drop size all) ≡ Some next → left_from next ≡ drop size all) →
    ((next : ℕ) → length (left_from next) < pages → further next ≡ left_from next) → take size all ++ joined_from further (place_of_first (drop size all)) ≡ all
join_step size pages all further left_from some few slices rest =
    ap (λ (l : List Placed). take size all ++ l) (by (drop size all) refl) ∙ take-append-drop size all
  where
    by : (left : List Placed) → drop size all ≡ left → joined_from further (place_of_first (drop size all)) ≡ drop size all
    by [] e = ap (λ (l : List Placed). joined_from further (place_of_first l)) e ∙ sym e
    by (p ∷ ps) e =
        let after = slices p.place (ap place_of_first e) in
        let n : suc (length ps) ≡ length all - size = sym (ap length e) ∙ length-drop size all in
        let shorter : length (left_from p.place) ≡ suc (length ps) = ap length (after ∙ e) in
        ap (λ (l : List Placed). joined_from further (place_of_first l)) e ∙ rest p.place (omega (arith, n, shorter, some, few)) ∙ after

pub pages_join_to_all : PagesJoinToAll
pages_join_to_all space d size zero place some few = absurd (omega (arith, few))
pages_join_to_all space d size (suc pages) place some few =
    join_step size pages (wanted_from space d place) (joined space d size pages) (wanted_from space d) some few (next_is_the_slice_after space d size place) (λ next fewer. pages_join_to_all space d size pages next some fewer)

-- ---- how many references a page has

filter_short : {A : Type 0} (p : A → Bool) (xs : List A) → length (filter p xs) ≤ length xs
filter_short p [] = omega arith
filter_short p (x ∷ xs) =
    let rest = filter_short p xs in
    elim (cases_Bool (p x)) [ inl pass ↦ rw pass (omega arith) | inr fails ↦ rw fails (omega arith) ]

map_length : {A B : Type 0} (f : A → B) (xs : List A) → length (map f xs) ≡ length xs
map_length f [] = refl
map_length f (x ∷ xs) = ap suc (map_length f xs)

placed_length : (k : ℕ) (rs : List Directed) → length (placed k rs) ≡ length rs
placed_length k [] = refl
placed_length k (r ∷ rs) = ap suc (placed_length (suc k) rs)

take_short : {A : Type 0} (n : ℕ) (xs : List A) → length (take n xs) ≤ length xs
take_short n xs = let e = ap length (take-append-drop n xs) in let sum = length-append (take n xs) (drop n xs) in omega (arith, e, sum)

references_few : (id : NodeId) (triples : List Triple) → length (references_of id triples) ≤ length triples + length triples
references_few id triples =
    let sum = length-append (map outwards (forward_of id triples)) (map inwards (inverse_of id triples)) in
    let out = map_length outwards (forward_of id triples) in
    let into = map_length inwards (inverse_of id triples) in
    let few_out = filter_short (λ (t : Triple). same_id t.source id) triples in
    let few_in = filter_short (λ (t : Triple). same_id t.target id) triples in
    omega (arith, sum, out, into, few_out, few_in)

pub few_shown : (space : SpaceState) (d : BrowseDescription) (size place : ℕ) (page : List ReferenceDescription) → IsSpace space →
    page ≡ descriptions_of space d (shown_of size (wanted_from space d place)) → length page < 2 ^ 31
few_shown space d size place page sound is =
    let rs = references_of d.node_id space.triples in
    let shown = shown_of size (wanted_from space d place) in
    let described_length = ap length is ∙ map_length (λ (p : Placed). described space d.result_mask p.reference) shown in
    let taken = take_short size (wanted_from space d place) in
    let filtered = filter_short (λ (p : Placed). is_wanted space d p.reference) (placed place (drop place rs)) in
    let numbered = placed_length place (drop place rs) in
    let dropped = length-drop place rs in
    let all = references_few d.node_id space.triples in
    let few = sound.few_triples in
    omega (arith, described_length, taken, filtered, numbered, dropped, all, few)

-- ---- a point that is held or refused, with its page

pub takes_page : (references : List ReferenceDescription) (held : Result ℕ Refusal) (old new : PointsState) (said : Step ℕ Status PointsState) → TakesSerial held old new said →
    TakesSerial (result_map_both (λ serial. page_of references (Some serial)) (λ refusal. refusal) held) old new (with_point references said)
takes_page references (Ok serial) old new said e = (ap (with_point references) e.0, e.1)
takes_page references (Err (Service code)) old new said e = (ap (with_point references) e.0, e.1)
takes_page references (Err Memory) old new said e = e
takes_page references (Err Exhausted) old new said e = e
