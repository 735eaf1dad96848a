-- What `build` has tested holds of the space, and a new value keeps it.
use Rattle.std.proofs.Common.{◌≡◌, ℕ, zero, suc, ◌+◌, ◌≤◌, ◌<◌, Bool, true, false, cond, ◌||◌, List, [], ◌∷◌, ◌++◌, length, get_or, Option, Some, None, is_some, IsSome, Result, Ok, Err, refl, sym, ap, subst, ◌∙◌, ◌⊎◌, inl, inr, arith, length-append}
use Rattle.std.proofs.lemmas.Bool.{cases_Bool, false≢true}
use Rattle.std.proofs.lemmas.Map.{lookup-set_value, length-set_value}
use borrow.Author.Tests.{ltb-false}
use Rattle.std.specs.List.{list_any, find}
use Rattle.std.specs.BTreeMap.{insert_entry, is_at}
use Rattle.std.specs.Map.{lookup, set_value}
use Rattle.std.specs.Ordering.{is_eq, match_ordering}
use Rattle.std.specs.declared.cmp.Ordering.{Ordering}
use Rattle.std.specs.declared.cmp.Ordering.TheVariants.{Less, Equal, Greater}
use Rattle.ua_types.specs.NodeIdOrder.{id_cmp, same_id}
use Rattle.ua_types.specs.declared.node_id.NodeId.{NodeId}
use Rattle.ua_types.specs.contracts.node_id.NodeIdOrd.TheImpl.Laws.{matches_eq-law}
use Rattle.ua_types.specs.contracts.node_id.NodeIdEq.TheImpl.Laws.{laws-law}
use Rattle.ua_types.specs.declared.data_value.DataValue.{DataValue}
use Rattle.ua_types.proofs.SameIds.{same_id_true, same_id_itself}
use Rattle.ua_space.specs.declared.node.Node.{Node}
use Rattle.ua_space.specs.declared.node.NodeDetails.{NodeDetails}
use Rattle.ua_space.specs.declared.node.NodeDetails.TheVariants as details
use Rattle.ua_space.specs.declared.triple.Triple.{Triple}
use Rattle.ua_space.specs.declared.fault.SpaceFault.{SpaceFault}
use Rattle.ua_space.specs.Histories.{is_history}
use Rattle.ua_space.specs.Nodes.{Nodes, node_at}
use Rattle.ua_space.specs.Values.{holding, put, with_value}
use Rattle.ua_space.specs.Spaces.{most_nodes, most_triples, fits, has_reference_details, is_reference_type, IsSpace, HasNoLoop, AreDistinct, StandUnderTheirIds}
use Rattle.ua_space.specs.Subtypes.{has_subtype, is_subtyping, Chain, IsSubtype, lies_on_loop}
use Rattle.ua_space.specs.TripleOrder.{same_triple, same_triple_equiv}
use Rattle.ua_space.specs.BaseNodes.{base_triples}
use Rattle.ua_types.specs.Answers.{◌>>=◌}
use Rattle.ua_space.specs.Build.{is_too_much, within_limits, named, all_named, linked, no_loop}
use Rattle.ua_space.proofs.Chains.{Has, has_from_contains, any_has, subtype_found}

-- ---- ids

pub tied : (a b : NodeId) → is_at (id_cmp a) b ≡ true → a ≡ b
tied a b h = same_id_true a b (matches_eq-law a b ∙ h)

-- each node stands under its own id
abbrev Own : Nodes → Type 0
Own [] = Unit {0}
Own (e ∷ es) = (e.0 ≡ e.1.id) × Own es

own_step : (o : Ordering) (e : NodeId × Node) (es rest : Nodes) (node : Node) → (is_eq o ≡ true → node.id ≡ e.0) → Own (e ∷ es) → Own rest
    → Own (match_ordering o ((node.id, node) ∷ e ∷ es) ((e.0, node) ∷ es) (e ∷ rest))
own_step Less e es rest node tie own more = (refl, own)
own_step Equal e es rest node tie own more = (sym (tie refl), own.1)
own_step Greater e es rest node tie own more = (own.0, more)

own_more : (es : Nodes) (node : Node) → Own es → Own (insert_entry id_cmp es node.id node)
own_more [] node own = (refl, tt)
own_more (e ∷ es) node own = own_step (id_cmp node.id e.0) e es (insert_entry id_cmp es node.id node) node (tied node.id e.0) own (own_more es node own.1)

some_eq : {X : Type 0} (x y : X) → Some x ≡ Some y → x ≡ y
some_eq x y e = cc

own_found : (es : Nodes) → Own es → StandUnderTheirIds es
own_found [] own id node at = absurd cc
own_found (e ∷ es) own id node at =
    elim (cases_Bool (is_at (id_cmp id) e.0)) [
      | inl here ↦
          let found : Some e.1 ≡ Some node = rw here at at in
          sym (ap (λ (n : Node). n.id) (some_eq e.1 node found)) ∙ sym own.0 ∙ sym (tied id e.0 here)
      | inr apart ↦ let later : node_at id es ≡ Some node = rw apart at at in own_found es own.1 id node later
    ]

few_step : (o : Ordering) (e : NodeId × Node) (es rest : Nodes) (id : NodeId) (node : Node) → length rest ≤ length es + 1
    → length (match_ordering o ((id, node) ∷ e ∷ es) ((e.0, node) ∷ es) (e ∷ rest)) ≤ length (e ∷ es) + 1
few_step Less e es rest id node few = omega arith
few_step Equal e es rest id node few = omega arith
few_step Greater e es rest id node few = omega arith

one_more : (es : Nodes) (id : NodeId) (node : Node) → length (insert_entry id_cmp es id node) ≤ length es + 1
one_more [] id node = omega arith
one_more (e ∷ es) id node = few_step (id_cmp id e.0) e es (insert_entry id_cmp es id node) id node (one_more es id node)

ok_eq : {A : Type 0} (x y : A) → (let r : Result A SpaceFault = Ok x in r) ≡ Ok y → x ≡ y
ok_eq x y e = cc

named_sound : (n : ℕ) (known made : Nodes) (nodes : List Node) → Own known → named n known nodes ≡ Ok made → Own made × (length made ≤ length known + length nodes)
unfolding named
named_sound n known made [] own e =
    let same : known ≡ made = ok_eq known made e in
    let P : Nodes → Type 0 = λ m. Own m × (length m ≤ length known + 0) in
    subst P same (own, omega arith)
named_sound n known made (node ∷ nodes) own e =
    elim (cases_Bool (is_some (node_at node.id known))) [
      | inl twice ↦ absurd (let none : Err _ ≡ Ok made = rw twice at e in cc)
      | inr once ↦
          elim (cases_Bool (is_history node)) [
            | inr bad ↦ absurd (let none : Err _ ≡ Ok made = rw (once, bad) at e in cc)
            | inl good ↦
                let rest = named_sound (n + 1) (insert_entry id_cmp known node.id node) made nodes (own_more known node own) (rw (once, good) at e) in
                (rest.0, omega (arith, rest.1, one_more known node.id node))
          ]
    ]

pub bind_ok : {A B : Type 0} (r : Result A SpaceFault) (f : A → Result B SpaceFault) (y : B) → (r >>= f) ≡ Ok y → (x : A) × (r ≡ Ok x) × (f x ≡ Ok y)
bind_ok (Ok x) f y e = (x, refl, e)
bind_ok (Err fault) f y e = absurd cc

pub all_sound : (base nodes : List Node) (made : Nodes) → all_named base nodes ≡ Ok made → Own made × (length made ≤ length base + length nodes)
unfolding all_named
all_sound base nodes made e =
    let both = bind_ok (named 0 [] base) (λ known. named 1 known nodes) made e in
    let first = named_sound 0 [] both.0 base tt both.1 in
    let second = named_sound 1 both.0 made nodes first.0 both.2 in
    (second.0, omega (arith, first.1, second.1))

-- ---- references

has_before : (xs ys : List Triple) (t : Triple) → Has xs t → Has (xs ++ ys) t
has_before [] ys t h = absurd h
has_before (x ∷ xs) ys t (inl e) = inl e
has_before (x ∷ xs) ys t (inr h) = inr (has_before xs ys t h)

has_last : (xs : List Triple) (t : Triple) → Has (xs ++ t ∷ []) t
has_last [] t = inl refl
has_last (x ∷ xs) t = inr (has_last xs t)

fails_at : (p : Triple → Bool) (ts : List Triple) (t : Triple) → list_any p ts ≡ false → Has ts t → p t ≡ false
fails_at p ts t none h =
    elim (cases_Bool (p t)) [
      | inl pass ↦ absurd (false≢true (sym none ∙ any_has p ts t h pass))
      | inr fails ↦ fails
    ]

-- one reference is linked
record Step (nodes : Nodes) (before ts : List Triple) (t : Triple) : Type 0 where
  fit : fits nodes t ≡ true
  once : list_any (same_triple t) before ≡ false
  rest : linked nodes (before ++ t ∷ []) ts ≡ Ok tt

linked_step : (nodes : Nodes) (before ts : List Triple) (t : Triple) → linked nodes before (t ∷ ts) ≡ Ok tt → Step nodes before ts t
unfolding linked
linked_step nodes before ts t e =
    elim (cases_Bool (fits nodes t)) [
      | inr bad ↦ absurd (let none : Err _ ≡ Ok tt = rw bad at e in cc)
      | inl good ↦
          elim (cases_Bool (list_any (same_triple t) before)) [
            | inl twice ↦ absurd (let none : Err _ ≡ Ok tt = rw (good, twice) at e in cc)
            | inr once ↦ record { fit = good; once = once; rest = rw (good, once) at e }
          ]
    ]

pub linked_fits : (nodes : Nodes) (before ts : List Triple) → linked nodes before ts ≡ Ok tt → (t : Triple) → Has ts t → fits nodes t ≡ true
linked_fits nodes before [] e t h = absurd h
linked_fits nodes before (x ∷ ts) e t (inl is) = ap (fits nodes) (sym is) ∙ (linked_step nodes before ts x e).fit
linked_fits nodes before (x ∷ ts) e t (inr h) = linked_fits nodes (before ++ x ∷ []) ts (linked_step nodes before ts x e).rest t h

linked_after : (nodes : Nodes) (before ts : List Triple) → linked nodes before ts ≡ Ok tt → (s : Triple) → Has before s → (j : ℕ) (d : Triple) → j < length ts → same_triple s (get_or ts j d) ≡ false
linked_after nodes before [] e s h j d lt = absurd (omega arith)
linked_after nodes before (t ∷ ts) e s h zero d lt = same_triple_equiv.symm s t ∙ fails_at (same_triple t) before s (linked_step nodes before ts t e).once h
linked_after nodes before (t ∷ ts) e s h (suc j) d lt =
    linked_after nodes (before ++ t ∷ []) ts (linked_step nodes before ts t e).rest s (has_before before (t ∷ []) s h) j d (omega arith)

linked_distinct : (nodes : Nodes) (before ts : List Triple) → linked nodes before ts ≡ Ok tt → AreDistinct ts
linked_distinct nodes before [] e i j d lt short = absurd (omega arith)
linked_distinct nodes before (t ∷ ts) e i zero d lt short = absurd (omega arith)
linked_distinct nodes before (t ∷ ts) e zero (suc j) d lt short =
    linked_after nodes (before ++ t ∷ []) ts (linked_step nodes before ts t e).rest t (has_last before t) j d (omega arith)
linked_distinct nodes before (t ∷ ts) e (suc i) (suc j) d lt short =
    linked_distinct nodes (before ++ t ∷ []) ts (linked_step nodes before ts t e).rest i j d (omega arith) (omega arith)

find_none : (p : Triple → Bool) (ts : List Triple) → find p ts ≡ None → (t : Triple) → Has ts t → p t ≡ false
find_none p [] e t h = absurd h
find_none p (x ∷ ts) e t h =
    elim (cases_Bool (p x)) [
      | inl pass ↦ absurd (let some : Some x ≡ None = rw pass at e in cc)
      | inr fails ↦ elim (let g : (x ≡ t) ⊎ Has ts t = h in g) [ inl is ↦ ap p (sym is) ∙ fails | inr later ↦ find_none p ts (rw fails at e) t later ]
    ]

none_found : (found : Option Triple) → no_loop found ≡ Ok tt → found ≡ None
none_found None e = refl
none_found (Some t) e = absurd (let none : Err _ ≡ Ok tt = e in cc)

loopless : (ts : List Triple) → find (lies_on_loop ts) ts ≡ None → HasNoLoop ts
loopless ts none n id c =
    let t = c.1.0 in
    let kind : is_subtyping t ≡ true = ap (λ k. same_id k has_subtype) c.1.3 ∙ same_id_itself has_subtype in
    let P : NodeId → Type 0 = λ m. Chain ts n m id in
    let up : Chain ts n t.source id = subst P (sym c.1.2) c.2 in
    let Q : NodeId → Type 0 = λ m. IsSubtype ts t.source m in
    let round : IsSubtype ts t.source t.target = subst Q (sym c.1.4) (n, up) in
    let looped : lies_on_loop ts t ≡ true = rw (kind, subtype_found ts t.source t.target round) refl in
    false≢true (sym (find_none (lies_on_loop ts) ts none t (has_from_contains ts t c.1.1.0 c.1.1.1 c.1.1.2)) ∙ looped)

few_enough : (most base given : ℕ) → is_too_much most base given ≡ false → base + given ≤ most
few_enough most base given h = ltb-false most (base + given) h

both_false : (a b : Bool) → (a || b) ≡ false → (a ≡ false) × (b ≡ false)
both_false false b h = (refl, h)
both_false true b h = absurd (false≢true (sym h))

pub within : (base nodes : List Node) (triples : List Triple) → within_limits base nodes triples ≡ Ok tt → (length base + length nodes ≤ most_nodes) × (length base_triples + length triples ≤ most_triples)
within base nodes triples e =
    elim (cases_Bool (is_too_much most_nodes (length base) (length nodes) || is_too_much most_triples (length base_triples) (length triples))) [
      | inl over ↦ absurd (let none : Err _ ≡ Ok tt = rw over at e in cc)
      | inr few ↦
          let both = both_false (is_too_much most_nodes (length base) (length nodes)) (is_too_much most_triples (length base_triples) (length triples)) few in
          (few_enough most_nodes (length base) (length nodes) both.0, few_enough most_triples (length base_triples) (length triples) both.1)
    ]

-- what was tested holds
pub made_sound : (base nodes : List Node) (made : Nodes) (triples all : List Triple) → within_limits base nodes triples ≡ Ok tt → all_named base nodes ≡ Ok made → all ≡ base_triples ++ triples
    → linked made [] all ≡ Ok tt → no_loop (find (lies_on_loop all) all) ≡ Ok tt → IsSpace (record { nodes = made; triples = all })
made_sound base nodes made triples all limits names joined links free =
    let ids = all_sound base nodes made names in
    let few = within base nodes triples limits in
    let count : length all ≡ length base_triples + length triples = ap length joined ∙ length-append base_triples triples in
    record {
      own_ids = own_found made ids.0;
      ends = λ t h. linked_fits made [] all links t (has_from_contains all t h.0 h.1 h.2);
      distinct = linked_distinct made [] all links;
      no_loop = loopless all (none_found (find (lies_on_loop all) all) free);
      few_nodes = omega (arith, ids.1, few.0);
      few_triples = omega (arith, count, few.1);
    }

-- ---- another node under an id

some_there : {X : Type 0} (o : Option X) (x : X) → o ≡ Some x → IsSome o
some_there None x e = absurd cc
some_there (Some y) x e = refl

one_key : (id x y : NodeId) → is_at (id_cmp id) x ≡ true → is_at (id_cmp id) y ≡ same_id x y
one_key id x y same =
    let is = tied id x same in
    let P : NodeId → Type 0 = λ k. is_at (id_cmp k) y ≡ same_id x y in
    subst P (sym is) (sym (matches_eq-law x y))

same_test : {X : Type 0} (q : NodeId) (es : List (NodeId × X)) → lookup (same_id q) es ≡ lookup (is_at (id_cmp q)) es
same_test q [] = refl
same_test q (e ∷ es) = rw (matches_eq-law q e.0, same_test q es) refl

-- what is found afterwards
pub changed_at : (nodes : Nodes) (id q : NodeId) (new : Node) → IsSome (node_at id nodes) → node_at q (set_value (is_at (id_cmp id)) nodes new) ≡ cond (is_at (id_cmp id) q) (Some new) (node_at q nodes)
changed_at nodes id q new there =
    sym (same_test q (set_value (is_at (id_cmp id)) nodes new))
    ∙ lookup-set_value laws-law (is_at (id_cmp id)) (one_key id) q new nodes there
    ∙ ap (cond (is_at (id_cmp id) q) (Some new)) (same_test q nodes)

-- another node of the same id and class
pub keeps_sound : (nodes : Nodes) (ts : List Triple) (id : NodeId) (old new : Node) → IsSpace (record { nodes = nodes; triples = ts }) → node_at id nodes ≡ Some old → new.id ≡ old.id → has_reference_details new.details ≡ has_reference_details old.details
    → IsSpace (record { nodes = set_value (is_at (id_cmp id)) nodes new; triples = ts })
keeps_sound nodes ts id old new sound at same_own same_class =
    let there = some_there (node_at id nodes) old at in
    let P : NodeId → Type 0 = λ q. node_at q nodes ≡ Some old in
    let some_same : (q : NodeId) → is_some (node_at q (set_value (is_at (id_cmp id)) nodes new)) ≡ is_some (node_at q nodes) = λ q.
    elim (cases_Bool (is_at (id_cmp id) q)) [
      | inl here ↦ rw (changed_at nodes id q new there, here, (let h : node_at q nodes ≡ Some old = subst P (tied id q here) at in h)) refl
      | inr apart ↦ rw (changed_at nodes id q new there, apart) refl
    ] in
    let type_same : (q : NodeId) → is_reference_type (node_at q (set_value (is_at (id_cmp id)) nodes new)) ≡ is_reference_type (node_at q nodes) = λ q.
    elim (cases_Bool (is_at (id_cmp id) q)) [
      | inl here ↦ rw (changed_at nodes id q new there, here, (let h : node_at q nodes ≡ Some old = subst P (tied id q here) at in h)) same_class
      | inr apart ↦ rw (changed_at nodes id q new there, apart) refl
    ] in
    record {
      own_ids = λ q node found.
          elim (cases_Bool (is_at (id_cmp id) q)) [
            | inl here ↦
                let is : Some new ≡ Some node = sym (changed_at nodes id q new there ∙ ap (λ b. cond b (Some new) (node_at q nodes)) here) ∙ found in
                sym (ap (λ (n : Node). n.id) (some_eq new node is)) ∙ same_own ∙ sound.own_ids id old at ∙ tied id q here
            | inr apart ↦ sound.own_ids q node (sym (changed_at nodes id q new there ∙ ap (λ b. cond b (Some new) (node_at q nodes)) apart) ∙ found)
          ];
      ends = λ t h. rw (some_same t.source, some_same t.target, type_same t.reference_type) (sound.ends t h);
      distinct = sound.distinct;
      no_loop = sound.no_loop;
      few_nodes = rw (length-set_value (is_at (id_cmp id)) nodes new) sound.few_nodes;
      few_triples = sound.few_triples;
    }

held_class : (value : DataValue) (d : NodeDetails) → has_reference_details (holding value d) ≡ has_reference_details d
held_class value details.Object = refl
held_class value (details.Variable v) = refl
held_class value (details.ObjectType a) = refl
held_class value (details.VariableType t r a) = refl
held_class value (details.ReferenceType a s i) = refl
held_class value (details.DataType a) = refl

put_sound : (nodes : Nodes) (ts : List Triple) (id : NodeId) (value : DataValue) (found : Option Node) → node_at id nodes ≡ found → IsSpace (record { nodes = nodes; triples = ts }) → IsSpace (record { nodes = put id value nodes found; triples = ts })
put_sound nodes ts id value None at sound = sound
put_sound nodes ts id value (Some node) at sound = keeps_sound nodes ts id node (record node { details = holding value node.details }) sound at refl (held_class value node.details)

-- another value keeps a space
pub value_sound : (nodes : Nodes) (ts : List Triple) (id : NodeId) (value : DataValue) → IsSpace (record { nodes = nodes; triples = ts }) → IsSpace (record { nodes = with_value id value nodes; triples = ts })
value_sound nodes ts id value sound = put_sound nodes ts id value (node_at id nodes) refl sound
