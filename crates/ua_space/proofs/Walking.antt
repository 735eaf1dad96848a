-- The walk down from a type meets its subtypes, all of them and no others.
use Rattle.std.proofs.Common.{◌≡◌, ℕ, zero, suc, ◌+◌, ◌≤◌, ◌<◌, Bool, true, false, cond, ◌&&◌, ◌||◌, List, [], ◌∷◌, ◌++◌, length, get_or, take, filter, Some, slice_get, Bor, refl, sym, ap, subst, ◌∙◌, ◌⊎◌, inl, inr, arith, append_assoc, length-append}
use Rattle.std.proofs.lemmas.Bool.{and_parts, or_cases, cases_Bool, false≢true}
use Rattle.std.proofs.lemmas.List.{take_more, take_all, take-append-le, append-nil}
use Rattle.std.proofs.lemmas.List.Folds.{list_any-append}
use Rattle.std.specs.List.{list_any}
use Rattle.std.specs.BTreeMap.{is_at}
use Rattle.std.specs.Ordering.{is_eq}
use Rattle.ua_types.specs.NodeIdOrder.{id_cmp, same_id}
use Rattle.ua_types.specs.declared.node_id.NodeId.{NodeId}
use Rattle.ua_types.specs.contracts.node_id.NodeIdOrd.TheImpl.Laws.{matches_eq-law}
use Rattle.ua_types.specs.contracts.node_id.NodeIdEq.TheImpl.Laws.{laws-law}
use Rattle.ua_types.proofs.SameIds.{same_id_true, same_id_itself}
use Rattle.ua_space.specs.declared.triple.Triple.{Triple}
use Rattle.ua_space.specs.declared.index.Key.TheVariants as keys
use Rattle.ua_space.specs.Indexes.{stands_under}
use Rattle.ua_space.specs.Subtypes.{is_subtyping, is_subtype}
use Rattle.ua_space.specs.Walks.{has_id, lent, met_after, IsSetOf}
use Rattle.ua_space.proofs.Chains.{Has, Walk, walk_found, walk_taken}
use Rattle.ua_space.proofs.Building.{either_way}
use Rattle.ua_space.proofs.Places.{under, at_get}

-- ---- the types met

same_met : (met : List NodeId) (a b : NodeId) → same_id a b ≡ true → has_id met a ≡ true → has_id met b ≡ true
same_met met a b same h = let P : NodeId → Type 0 = λ x. has_id met x ≡ true in subst P (same_id_true a b same) h

or_true : (b c : Bool) → c ≡ true → (b || c) ≡ true
or_true true c h = refl
or_true false c h = h

or_left : (b c : Bool) → b ≡ true → (b || c) ≡ true
or_left true c h = refl
or_left false c h = absurd (false≢true h)

has_more : (met more : List NodeId) (id : NodeId) → has_id met id ≡ true → has_id (met ++ more) id ≡ true
has_more met more id h = list_any-append (same_id id) met more ∙ or_left (has_id met id) (has_id more id) h

has_added : (met : List NodeId) (id : NodeId) → has_id (met ++ id ∷ []) id ≡ true
has_added met id = list_any-append (same_id id) met (id ∷ []) ∙ or_true (has_id met id) (same_id id id || false) (or_left (same_id id id) false (same_id_itself id))

abbrev pub with_id : List NodeId → NodeId → List NodeId
with_id met id = cond (has_id met id) met (met ++ id ∷ [])

-- how the list grows
grown : (met : List NodeId) (id : NodeId) → (more : List NodeId) × (with_id met id ≡ met ++ more)
grown met id =
    elim (cases_Bool (has_id met id)) [
      | inl there ↦ ([], rw there (let e : met ≡ met ++ [] = sym (append-nil met) in e))
      | inr new ↦ (id ∷ [], rw new refl)
    ]

pub met_grows : (met : List NodeId) (ts : List Triple) → (more : List NodeId) × (met_after met ts ≡ met ++ more)
unfolding met_after
met_grows met [] = ([], sym (append-nil met))
met_grows met (t ∷ ts) =
    let first = grown met t.target in
    let rest = met_grows (with_id met t.target) ts in
    (first.0 ++ rest.0, rest.1 ∙ ap (λ xs. xs ++ rest.0) first.1 ∙ append_assoc met first.0 rest.0)

with_itself : (met : List NodeId) (id : NodeId) → has_id (with_id met id) id ≡ true
with_itself met id =
    elim (cases_Bool (has_id met id)) [ inl there ↦ rw (there, there) refl | inr new ↦ rw new (has_added met id) ]

still_met : (met : List NodeId) (ts : List Triple) (id : NodeId) → has_id met id ≡ true → has_id (met_after met ts) id ≡ true
still_met met ts id h = let g = met_grows met ts in rw g.1 (has_more met g.0 id h)

-- each target is met
target_met : (met : List NodeId) (ts : List Triple) (t : Triple) → Has ts t → has_id (met_after met ts) t.target ≡ true
unfolding met_after
target_met met [] t h = absurd h
target_met met (x ∷ ts) t (inl e) =
    let here : has_id (with_id met x.target) t.target ≡ true = let P : Triple → Type 0 = λ y. has_id (with_id met x.target) y.target ≡ true in subst P e (with_itself met x.target) in
    still_met (with_id met x.target) ts t.target here
target_met met (x ∷ ts) t (inr h) = target_met (with_id met x.target) ts t h

-- what is met was met before, or is a target
had_id : (met : List NodeId) (id q : NodeId) → has_id (with_id met id) q ≡ true → (has_id met q ≡ true) ⊎ (same_id q id ≡ true)
had_id met id q h =
    elim (cases_Bool (has_id met id)) [
      | inl there ↦ inl (rw there at h)
      | inr new ↦
          let both : (has_id met q || (same_id q id || false)) ≡ true = sym (list_any-append (same_id q) met (id ∷ [])) ∙ (rw new at h) in
          elim (or_cases (has_id met q) (same_id q id || false) both) [
            | inl before ↦ inl before
            | inr last ↦ elim (or_cases (same_id q id) false last) [ inl same ↦ inr same | inr never ↦ absurd (false≢true never) ]
          ]
    ]

from_before : (met : List NodeId) (ts : List Triple) (q : NodeId) → has_id (met_after met ts) q ≡ true → (has_id met q ≡ true) ⊎ ((t : Triple) × Has ts t × (same_id q t.target ≡ true))
unfolding met_after
from_before met [] q h = inl h
from_before met (x ∷ ts) q h =
    elim (from_before (with_id met x.target) ts q h) [
      | inl before ↦ elim (had_id met x.target q before) [ inl first ↦ inl first | inr same ↦ inr (x, inl refl, same) ]
      | inr later ↦ inr (later.0, inr later.1, later.2)
    ]

-- ---- the references from a type

pub in_filter : (p : Triple → Bool) (ts : List Triple) (t : Triple) → Has (filter p ts) t → Has ts t × (p t ≡ true)
in_filter p [] t h = absurd h
in_filter p (x ∷ xs) t h =
    elim (cases_Bool (p x)) [
      | inl pass ↦ elim (let g : (x ≡ t) ⊎ Has (filter p xs) t = rw pass at h in g) [
        | inl e ↦ (inl e, ap p (sym e) ∙ pass)
        | inr later ↦ let r = in_filter p xs t later in (inr r.0, r.1)
      ]
      | inr fails ↦ let r = in_filter p xs t (rw fails at h) in (inr r.0, r.1)
    ]

pub to_filter : (p : Triple → Bool) (ts : List Triple) (t : Triple) → Has ts t → p t ≡ true → Has (filter p ts) t
to_filter p [] t h pass = absurd h
to_filter p (x ∷ xs) t (inl e) pass = rw (ap p e ∙ pass) (inl e)
to_filter p (x ∷ xs) t (inr h) pass =
    elim (cases_Bool (p x)) [ inl keeps ↦ rw keeps (inr (to_filter p xs t h pass)) | inr drops ↦ rw drops (to_filter p xs t h pass) ]

below_leads : (id : NodeId) (t : Triple) → stands_under keys.Supertype id t ≡ (is_subtyping t && same_id t.source id)
below_leads id t = under (is_subtyping t) t.source id

-- ---- the walk

-- what is met is a subtype, and the references of the first i types are followed
pub record Walked (ts : List Triple) (upper : NodeId) (i : ℕ) (met : List NodeId) : Type 0 where
  starts : has_id met upper ≡ true
  sound : (q : NodeId) → has_id met q ≡ true → (n : ℕ) × Walk ts n q upper
  closed : (t : Triple) → Has ts t → is_subtyping t ≡ true → has_id (take i met) t.source ≡ true → has_id met t.target ≡ true
  short : i ≤ length met

pub walk_begins : (ts : List Triple) (upper : NodeId) (met : List NodeId) → met ≡ upper ∷ [] → Walked ts upper 0 met
walk_begins ts upper met is =
    let P : List NodeId → Type 0 = Walked ts upper 0 in
    subst P (sym is) (record {
      starts = or_left (same_id upper upper) false (same_id_itself upper);
      sound = λ q h. elim (or_cases (same_id q upper) false h) [ inl same ↦ (0, same_id_true q upper same) | inr never ↦ absurd (false≢true never) ];
      closed = λ t h kind never. absurd (false≢true never);
      short = omega arith;
    })

sym_same : (a b : NodeId) → same_id a b ≡ true → same_id b a ≡ true
sym_same a b h = sym (laws-law.symm a b) ∙ h

same_sym : (a b : NodeId) → same_id a b ≡ same_id b a
same_sym a b = laws-law.symm a b

there : (met : List NodeId) (i : ℕ) (d : NodeId) → i < length met → has_id met (get_or met i d) ≡ true
there [] i d lt = absurd (omega arith)
there (y ∷ ys) zero d lt = or_left (same_id y y) (has_id ys y) (same_id_itself y)
there (y ∷ ys) (suc i) d lt = or_true (same_id (get_or ys i d) y) (has_id ys (get_or ys i d)) (there ys i d (omega arith))

-- one type more
pub walk_goes_on : (ts : List Triple) (upper : NodeId) (i : ℕ) (met : List NodeId) (x : NodeId) → Walked ts upper i met → i < length met → x ≡ get_or met i x
    → Walked ts upper (i + 1) (met_after met (filter (stands_under keys.Supertype x) ts))
walk_goes_on ts upper i met x so_far lt item =
    let below = filter (stands_under keys.Supertype x) ts in
    let g = met_grows met below in
    let front : take (i + 1) (met_after met below) ≡ take i met ++ x ∷ [] = ap (take (i + 1)) g.1 ∙ take-append-le (i + 1) met g.0 (omega arith) ∙ take_more met i x lt ∙ ap (λ y. take i met ++ y ∷ []) (sym item) in
    let met_x : has_id met x ≡ true = let P : NodeId → Type 0 = λ y. has_id met y ≡ true in subst P (sym item) (there met i x lt) in
    record {
      starts = still_met met below upper so_far.starts;
      sound = λ q h.
          elim (from_before met below q h) [
            | inl before ↦ so_far.sound q before
            | inr new ↦
                let t = new.0 in
                let found = in_filter (stands_under keys.Supertype x) ts t new.1 in
                let parts = and_parts (is_subtyping t) (same_id t.source x) (sym (below_leads x t) ∙ found.1) in
                let up = so_far.sound t.source (same_met met x t.source (sym_same t.source x parts.1) met_x) in
                (suc up.0, (t, found.0, rw (parts.0, (let e : same_id t.target q ≡ true = sym_same q t.target new.2 in e)) refl, up.1))
          ];
      closed = λ t h kind source.
          let two : (has_id (take i met) t.source || (same_id t.source x || false)) ≡ true = sym (list_any-append (same_id t.source) (take i met) (x ∷ [])) ∙ ap (λ xs. has_id xs t.source) (sym front) ∙ source in
          elim (or_cases (has_id (take i met) t.source) (same_id t.source x || false) two) [
            | inl before ↦ still_met met below t.target (so_far.closed t h kind before)
            | inr last ↦
                elim (or_cases (same_id t.source x) false last) [
                  | inl same ↦ target_met met below t (to_filter (stands_under keys.Supertype x) ts t h (below_leads x t ∙ rw (kind, same) refl))
                  | inr never ↦ absurd (false≢true never)
                ]
          ];
      short = let n : length (met_after met below) ≡ length met + length g.0 = ap length g.1 ∙ length-append met g.0 in omega (arith, n);
    }

all_below : (ts : List Triple) (upper : NodeId) (i : ℕ) (met : List NodeId) → Walked ts upper i met → length met ≤ i → (n : ℕ) (q : NodeId) → Walk ts n q upper → has_id met q ≡ true
all_below ts upper i met done le zero q w = let P : NodeId → Type 0 = λ x. has_id met x ≡ true in subst P (sym w) done.starts
all_below ts upper i met done le (suc n) q w =
    let t = w.0 in
    let ends = and_parts (is_subtyping t) (same_id t.target q) w.2 in
    let above = all_below ts upper i met done le n t.source w.3 in
    same_met met t.target q ends.1 (done.closed t w.1 ends.0 (rw (take_all i met le) above))

pub both_ways : (a b : Bool) → (a ≡ true → b ≡ true) → (b ≡ true → a ≡ true) → a ≡ b
both_ways true b f g = sym (f refl)
both_ways false true f g = g refl
both_ways false false f g = refl

-- at the end all subtypes are met
pub walk_ends : (ts : List Triple) (upper : NodeId) (i : ℕ) (met : List NodeId) → Walked ts upper i met → length met ≤ i → (q : NodeId) → has_id met q ≡ is_subtype ts q upper
walk_ends ts upper i met done le q =
    both_ways (has_id met q) (is_subtype ts q upper)
    (λ h. let w = done.sound q h in walk_found ts w.0 q upper w.1)
    (λ h. let w = walk_taken ts q upper h in all_below ts upper i met done le w.0 q w.1)

-- ---- how long the walk may go on: the references that lead to types that aren't met yet

abbrev pub unmet : List NodeId → List Triple → ℕ
unmet met [] = 0
unmet met (t ∷ ts) = cond (has_id met t.target) 0 1 + unmet met ts

unmet_none : (met more : List NodeId) (id : NodeId) → cond (has_id (met ++ more) id) 0 1 ≤ cond (has_id met id) 0 1
unmet_none met more id =
    elim (cases_Bool (has_id met id)) [
      | inl there ↦ rw (has_more met more id there, there) (omega arith)
      | inr new ↦ rw new (elim (has_id (met ++ more) id) as (λ b. cond b 0 1 ≤ 1) [ true ↦ omega arith | false ↦ omega arith ])
    ]

unmet_fewer : (met more : List NodeId) (ts : List Triple) → unmet (met ++ more) ts ≤ unmet met ts
unmet_fewer met more [] = omega arith
unmet_fewer met more (t ∷ ts) = omega (arith, unmet_none met more t.target, unmet_fewer met more ts)

unmet_one : (met : List NodeId) (ts : List Triple) (t : Triple) → Has ts t → has_id met t.target ≡ false → unmet (met ++ t.target ∷ []) ts < unmet met ts
unmet_one met [] t h new = absurd h
unmet_one met (x ∷ ts) t (inl e) new =
    let fewer = unmet_fewer met (t.target ∷ []) ts in
    let was : has_id met x.target ≡ false = ap (λ (y : Triple). has_id met y.target) e ∙ new in
    let is : has_id (met ++ t.target ∷ []) x.target ≡ true = ap (λ (y : Triple). has_id (met ++ t.target ∷ []) y.target) e ∙ has_added met t.target in
    rw (was, is) (omega (arith, fewer))
unmet_one met (x ∷ ts) t (inr h) new = omega (arith, unmet_none met (t.target ∷ []) x.target, unmet_one met ts t h new)

shrinks : (all : List Triple) (met : List NodeId) (ts : List Triple) → ((t : Triple) → Has ts t → Has all t) → unmet (met_after met ts) all + length (met_after met ts) ≤ unmet met all + length met
unfolding met_after
shrinks all met [] within = omega arith
shrinks all met (t ∷ ts) within =
    let rest = shrinks all (with_id met t.target) ts (λ s h. within s (inr h)) in
    elim (cases_Bool (has_id met t.target)) [
      | inl there ↦ let e : with_id met t.target ≡ met = rw there refl in let P : List NodeId → Type 0 = λ m. unmet (met_after m ts) all + length (met_after m ts) ≤ unmet m all + length m in rw there (subst P e rest)
      | inr new ↦
          let e : with_id met t.target ≡ met ++ t.target ∷ [] = rw new refl in
          let P : List NodeId → Type 0 = λ m. unmet (met_after m ts) all + length (met_after m ts) ≤ unmet m all + length m in
          let later = subst P e rest in
          let one = unmet_one met all t (within t (inl refl)) new in
          let n : length (met ++ t.target ∷ []) ≡ length met + 1 = length-append met (t.target ∷ []) in
          rw new (omega (arith, later, one, n))
    ]

pub walk_shrinks : (ts : List Triple) (met : List NodeId) (x : NodeId) → let below = filter (stands_under keys.Supertype x) ts in unmet (met_after met below) ts + length (met_after met below) ≤ unmet met ts + length met
walk_shrinks ts met x = shrinks ts met (filter (stands_under keys.Supertype x) ts) (λ t h. (in_filter (stands_under keys.Supertype x) ts t h).0)

-- ---- the set of the types met

pub keys_any : (keys : List NodeId) (id : NodeId) → list_any (same_id id) keys ≡ list_any (is_at (id_cmp id)) keys
keys_any [] id = refl
keys_any (k ∷ ks) id = rw (matches_eq-law id k, keys_any ks id) refl

pub set_has : (met keys : List NodeId) (id : NodeId) → IsSetOf met keys → list_any (same_id id) keys ≡ has_id met id
set_has met keys id is = keys_any keys id ∙ is id

after_last : (met : List NodeId) (xs : List Triple) (t : Triple) → met_after met (xs ++ t ∷ []) ≡ with_id (met_after met xs) t.target
unfolding met_after
after_last met [] t = refl
after_last met (x ∷ xs) t = after_last (with_id met x.target) xs t

-- one reference more
pub after_more : (met : List NodeId) (ts : List Triple) (k : ℕ) (t : Triple) → Some t ≡ slice_get ts k → met_after met (take (k + 1) ts) ≡ with_id (met_after met (take k ts)) t.target
after_more met ts k t e =
    let at = at_get ts k t e in
    ap (met_after met) (take_more ts k t at.0 ∙ ap (λ y. take k ts ++ y ∷ []) (sym at.1)) ∙ after_last met (take k ts) t

pub after_none : (met : List NodeId) → met_after met [] ≡ met
unfolding met_after
after_none met = refl

-- the set has one more
pub set_grows : (met keys new : List NodeId) (k : NodeId) → IsSetOf met keys
    → ((q : NodeId) → list_any (is_at (id_cmp q)) new ≡ cond (is_eq (id_cmp k q)) true (list_any (is_at (id_cmp q)) keys))
    → IsSetOf (met ++ k ∷ []) new
set_grows met keys new k is added id =
    added id ∙ ap (cond (is_eq (id_cmp k id)) true) (is id)
    ∙ either_way (is_eq (id_cmp k id)) (has_id met id) ∙ ap (λ b. has_id met id || (b || false)) (sym (matches_eq-law k id) ∙ same_sym k id)
    ∙ sym (list_any-append (same_id id) met (k ∷ []))

-- where the set has it already, and where it is new
pub not_added : (met keys : List NodeId) (k : NodeId) → IsSetOf met keys → list_any (is_at (id_cmp k)) keys ≡ true → with_id met k ≡ met
not_added met keys k is h = rw (sym (is k) ∙ h) refl

pub newly_added : (met keys : List NodeId) (k : NodeId) → IsSetOf met keys → list_any (is_at (id_cmp k)) keys ≡ false → with_id met k ≡ met ++ k ∷ []
newly_added met keys k is h = rw (sym (is k) ∙ h) refl

pub length_lent : (ids : List (Bor NodeId)) → length (lent ids) ≡ length ids
length_lent [] = refl
length_lent (id ∷ ids) = ap suc (length_lent ids)

pub lent_more : (xs ys : List (Bor NodeId)) → lent (xs ++ ys) ≡ lent xs ++ lent ys
lent_more [] ys = refl
lent_more (x ∷ xs) ys = ap (λ zs. x.now ∷ zs) (lent_more xs ys)

lent_or : (xs : List (Bor NodeId)) (k : ℕ) (d : Bor NodeId) → get_or (lent xs) k d.now ≡ (get_or xs k d).now
lent_or [] k d = refl
lent_or (x ∷ xs) zero d = refl
lent_or (x ∷ xs) (suc k) d = lent_or xs k d

pub lent_at : (xs : List (Bor NodeId)) (k : ℕ) (id : Bor NodeId) → id ≡ get_or xs k id → id.now ≡ get_or (lent xs) k id.now
lent_at xs k id e = ap (λ (b : Bor NodeId). b.now) e ∙ sym (lent_or xs k id)
