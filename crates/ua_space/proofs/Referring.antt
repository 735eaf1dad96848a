-- A node's references as one list, and the first of them that leads to a type definition.
use Rattle.std.proofs.Common.{◌≡◌, ℕ, zero, suc, ◌+◌, ◌-◌, ◌≤◌, ◌<◌, ◌^◌, Bool, ◌&&◌, List, [], ◌∷◌, ◌++◌, length, filter, map, slice_get, refl, sym, ap, ◌∙◌, inl, inr, arith, length-append}
use Rattle.std.proofs.lemmas.Bool.{cases_Bool}
use Rattle.std.specs.List.{find}
use Rattle.std.specs.Option.{option_map}
use Rattle.ua_types.specs.NodeIdOrder.{same_id}
use Rattle.ua_types.specs.declared.node_id.NodeId.{NodeId}
use Rattle.ua_space.specs.declared.index.Key.TheVariants as keys
use Rattle.ua_space.specs.declared.triple.Triple.{Triple}
use Rattle.ua_space.specs.Indexes.{stands_under}
use Rattle.ua_space.specs.References.{Directed, outwards, inwards, is_defining, type_definition_of}
use Rattle.ua_space.specs.Spaces.{most_triples}
use Rattle.ua_space.proofs.Places.{under}

no_more : (p : Triple → Bool) (ts : List Triple) → length (filter p ts) ≤ length ts
no_more p [] = omega arith
no_more p (t ∷ ts) =
    let rest = no_more p ts in
    elim (cases_Bool (p t)) [ inl pass ↦ rw pass (omega arith) | inr fails ↦ rw fails (omega arith) ]

pub few_filtered : (p : Triple → Bool) (ts : List Triple) → length ts ≤ most_triples → length (filter p ts) < 2 ^ 32
few_filtered p ts few = let rest = no_more p ts in omega arith

length_map : {A B : Type 0} (f : A → B) (xs : List A) → length (map f xs) ≡ length xs
length_map f [] = refl
length_map f (x ∷ xs) = ap suc (length_map f xs)

pub length_both : (xs ys : List Triple) → length (map outwards xs ++ map inwards ys) ≡ length xs + length ys
length_both xs ys = length-append (map outwards xs) (map inwards ys) ∙ ap (λ n. n + length (map inwards ys)) (length_map outwards xs) ∙ ap (λ n. length xs + n) (length_map inwards ys)

pub get_front : (xs : List Triple) (ys : List Directed) (k : ℕ) → k < length xs → slice_get (map outwards xs ++ ys) k ≡ option_map outwards (slice_get xs k)
get_front [] ys k lt = absurd (omega arith)
get_front (x ∷ xs) ys zero lt = refl
get_front (x ∷ xs) ys (suc k) lt = get_front xs ys k (omega arith)

at_map : (ys : List Triple) (k : ℕ) → slice_get (map inwards ys) k ≡ option_map inwards (slice_get ys k)
at_map [] k = refl
at_map (y ∷ ys) zero = refl
at_map (y ∷ ys) (suc k) = at_map ys k

pub get_back : (xs ys : List Triple) (k : ℕ) → length xs ≤ k → slice_get (map outwards xs ++ map inwards ys) k ≡ option_map inwards (slice_get ys (k - length xs))
get_back [] ys k le = let e : k - 0 ≡ k = omega arith in rw e (at_map ys k)
get_back (x ∷ xs) ys zero le = absurd (omega arith)
get_back (x ∷ xs) ys (suc k) le = let e : suc k - suc (length xs) ≡ k - length xs = omega arith in rw e (get_back xs ys k (omega arith))

first_found : (p q : Triple → Bool) → ((t : Triple) → p t ≡ q t) → (ts : List Triple) → slice_get (filter p ts) 0 ≡ find q ts
first_found p q same [] = refl
first_found p q same (t ∷ ts) =
    elim (cases_Bool (p t)) [
      | inl pass ↦ rw (pass, sym (same t) ∙ pass) refl
      | inr fails ↦ rw (fails, sym (same t) ∙ fails) (first_found p q same ts)
    ]

-- the first reference that stands in the index leads to the type definition
pub definition_found : (id : NodeId) (ts list : List Triple) → list ≡ filter (stands_under keys.Definition id) ts → option_map (λ t. t.target) (slice_get list 0) ≡ type_definition_of id ts
definition_found id ts list is =
    ap (λ xs. option_map (λ (t : Triple). t.target) (slice_get xs 0)) is
    ∙ ap (option_map (λ (t : Triple). t.target)) (first_found (stands_under keys.Definition id) (λ t. is_defining t && same_id t.source id) (λ t. under (is_defining t) t.source id) ts)
