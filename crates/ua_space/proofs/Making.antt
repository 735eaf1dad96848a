-- A built space has the base set and what was given.
use Rattle.std.proofs.Common.{◌≡◌, ℕ, zero, suc, ◌+◌, ◌<◌, true, false, List, [], ◌∷◌, ◌++◌, length, get_or, Option, Some, None, is_some, Result, Ok, Err, refl, sym, ap, subst, ◌∙◌, ◌⊎◌, inl, inr, arith}
use Rattle.std.proofs.lemmas.Bool.{cases_Bool, false≢true}
use Rattle.std.specs.List.{find}
use Rattle.std.specs.BTreeMap.{insert_entry, is_at}
use Rattle.std.specs.Ordering.{is_eq, match_ordering}
use Rattle.std.specs.declared.cmp.Ordering.{Ordering}
use Rattle.std.specs.declared.cmp.Ordering.TheVariants.{Less, Equal, Greater}
use Rattle.ua_types.specs.Configuration.{Configuration}
use Rattle.ua_types.specs.NodeIdOrder.{id_cmp}
use Rattle.ua_types.specs.declared.node_id.NodeId.{NodeId}
use Rattle.ua_types.specs.contracts.node_id.NodeIdOrd.TheImpl.Laws.{matches_eq-law}
use Rattle.ua_types.proofs.SameIds.{same_id_itself}
use Rattle.ua_space.specs.declared.node.Node.{Node}
use Rattle.ua_space.specs.declared.fault.SpaceFault.{SpaceFault}
use Rattle.ua_space.specs.BaseNodes.{base_nodes, base_triples}
use Rattle.ua_types.specs.Answers.{◌>>=◌}
use Rattle.ua_space.specs.Build.{within_limits, named, all_named, linked, no_loop, space_of}
use Rattle.ua_space.specs.Made.{IsMadeOf, SpacesAreMade}
use Rattle.ua_space.specs.Histories.{is_history}
use Rattle.ua_space.specs.Nodes.{Nodes, SpaceState, node_at}
use Rattle.ua_space.specs.Subtypes.{lies_on_loop}
use Rattle.ua_space.proofs.Soundness.{tied, bind_ok}

at_itself : (id : NodeId) → is_at (id_cmp id) id ≡ true
at_itself id = sym (matches_eq-law id id) ∙ same_id_itself id

-- ---- a node under an id that had none

here_step : (o : Ordering) (e : NodeId × Node) (es rest : Nodes) (id : NodeId) (node : Node) → id_cmp id e.0 ≡ o → node_at id rest ≡ Some node
    → node_at id (match_ordering o ((id, node) ∷ e ∷ es) ((e.0, node) ∷ es) (e ∷ rest)) ≡ Some node
here_step Less e es rest id node is later = rw (at_itself id) refl
here_step Equal e es rest id node is later = let at : is_at (id_cmp id) e.0 ≡ true = ap is_eq is in rw at refl
here_step Greater e es rest id node is later = let at : is_at (id_cmp id) e.0 ≡ false = ap is_eq is in rw at later

here : (es : Nodes) (id : NodeId) (node : Node) → node_at id (insert_entry id_cmp es id node) ≡ Some node
here [] id node = rw (at_itself id) refl
here (e ∷ es) id node = here_step (id_cmp id e.0) e es (insert_entry id_cmp es id node) id node refl (here es id node)

none_in_tail : (e : NodeId × Node) (es : Nodes) (id : NodeId) → is_at (id_cmp id) e.0 ≡ false → is_some (node_at id (e ∷ es)) ≡ false → is_some (node_at id es) ≡ false
none_in_tail e es id apart none = rw apart at none

some_not : {X : Type 0} (o : Option X) (x : X) → o ≡ Some x → is_some o ≡ false → ⊥
some_not None x e none = absurd cc
some_not (Some y) x e none = false≢true (sym none)

there_step : (o : Ordering) (e : NodeId × Node) (es rest : Nodes) (id q : NodeId) (node x : Node) → id_cmp id e.0 ≡ o → is_some (node_at id (e ∷ es)) ≡ false → node_at q (e ∷ es) ≡ Some x
    → ((is_at (id_cmp id) e.0 ≡ false) → node_at q es ≡ Some x → node_at q rest ≡ Some x)
    → node_at q (match_ordering o ((id, node) ∷ e ∷ es) ((e.0, node) ∷ es) (e ∷ rest)) ≡ Some x
there_step Less e es rest id q node x is none at later =
    elim (cases_Bool (is_at (id_cmp q) id)) [
      | inl same ↦ let P : NodeId → Type 0 = λ k. node_at k (e ∷ es) ≡ Some x in absurd (some_not (node_at id (e ∷ es)) x (subst P (tied q id same) at) none)
      | inr apart ↦ rw apart at
    ]
there_step Equal e es rest id q node x is none at later =
    let same : is_at (id_cmp id) e.0 ≡ true = ap is_eq is in
    absurd (false≢true (sym (let h : true ≡ false = rw same at none in h)))
there_step Greater e es rest id q node x is none at later =
    elim (cases_Bool (is_at (id_cmp q) e.0)) [
      | inl same ↦ let first : Some e.1 ≡ Some x = rw same at at in rw same first
      | inr apart ↦ let tail : node_at q es ≡ Some x = rw apart at at in rw apart (later (ap is_eq is) tail)
    ]

there : (es : Nodes) (id q : NodeId) (node x : Node) → is_some (node_at id es) ≡ false → node_at q es ≡ Some x → node_at q (insert_entry id_cmp es id node) ≡ Some x
there [] id q node x none at = absurd cc
there (e ∷ es) id q node x none at =
    there_step (id_cmp id e.0) e es (insert_entry id_cmp es id node) id q node x refl none at (λ apart tail. there es id q node x (none_in_tail e es id apart none) tail)

more_step : (o : Ordering) (e : NodeId × Node) (es rest : Nodes) (id : NodeId) (node : Node) → id_cmp id e.0 ≡ o → is_some (node_at id (e ∷ es)) ≡ false
    → ((is_at (id_cmp id) e.0 ≡ false) → length rest ≡ length es + 1) → length (match_ordering o ((id, node) ∷ e ∷ es) ((e.0, node) ∷ es) (e ∷ rest)) ≡ length (e ∷ es) + 1
more_step Less e es rest id node is none later = omega arith
more_step Equal e es rest id node is none later =
    let same : is_at (id_cmp id) e.0 ≡ true = ap is_eq is in
    absurd (false≢true (sym (let h : true ≡ false = rw same at none in h)))
more_step Greater e es rest id node is none later = let n = later (ap is_eq is) in omega (arith, n)

more : (es : Nodes) (id : NodeId) (node : Node) → is_some (node_at id es) ≡ false → length (insert_entry id_cmp es id node) ≡ length es + 1
more [] id node none = refl
more (e ∷ es) id node none = more_step (id_cmp id e.0) e es (insert_entry id_cmp es id node) id node refl none (λ apart. more es id node (none_in_tail e es id apart none))

-- ---- all nodes

abbrev In : List Node → Node → Type 0
In [] node = ⊥
In (x ∷ xs) node = (x ≡ node) ⊎ In xs node

in_list : (xs : List Node) (node : Node) (k : ℕ) → k < length xs → get_or xs k node ≡ node → In xs node
in_list [] node k lt e = absurd (omega arith)
in_list (x ∷ xs) node zero lt e = inl e
in_list (x ∷ xs) node (suc k) lt e = inr (in_list xs node k (omega arith) e)

in_either : (xs ys : List Node) (node : Node) → In (xs ++ ys) node → In xs node ⊎ In ys node
in_either [] ys node h = inr h
in_either (x ∷ xs) ys node (inl e) = inl (inl e)
in_either (x ∷ xs) ys node (inr h) = elim (in_either xs ys node h) [ inl front ↦ inl (inr front) | inr back ↦ inr back ]

record AreNamed (known made : Nodes) (nodes : List Node) : Type 0 where
  kept : (q : NodeId) (x : Node) → node_at q known ≡ Some x → node_at q made ≡ Some x
  given : (node : Node) → In nodes node → node_at node.id made ≡ Some node
  count : length made ≡ length known + length nodes

ok_same : {A : Type 0} (x y : A) → (let r : Result A SpaceFault = Ok x in r) ≡ Ok y → x ≡ y
ok_same x y e = cc

all_given : (n : ℕ) (known made : Nodes) (nodes : List Node) → named n known nodes ≡ Ok made → AreNamed known made nodes
unfolding named
all_given n known made [] e =
    let same : known ≡ made = ok_same known made e in
    let P : Nodes → Type 0 = λ m. AreNamed known m [] in
    subst P same (record { kept = λ q x at. at; given = λ node h. absurd h; count = omega arith })
all_given n known made (node ∷ nodes) e =
    elim (cases_Bool (is_some (node_at node.id known))) [
      | inl twice ↦ absurd (let none : Err _ ≡ Ok made = rw twice at e in cc)
      | inr once ↦
          elim (cases_Bool (is_history node)) [
            | inr bad ↦ absurd (let none : Err _ ≡ Ok made = rw (once, bad) at e in cc)
            | inl good ↦
                let rest = all_given (n + 1) (insert_entry id_cmp known node.id node) made nodes (rw (once, good) at e) in
                record {
                  kept = λ q x at. rest.kept q x (there known node.id q node x once at);
                  given = λ other h. elim (let g : (node ≡ other) ⊎ In nodes other = h in g) [
                    | inl is ↦ let P : Node → Type 0 = λ y. node_at y.id made ≡ Some y in subst P is (rest.kept node.id node (here known node.id node))
                    | inr later ↦ rest.given other later
                  ];
                  count = omega (arith, rest.count, more known node.id node once);
                }
          ]
    ]

pub base_count : (config : Configuration) → length (base_nodes config) ≡ 22
unfolding base_nodes
base_count config = refl

pub spaces_made : SpacesAreMade
unfolding space_of all_named
spaces_made config nodes triples s e =
    let all = base_triples ++ triples in
    let few = bind_ok (within_limits (base_nodes config) nodes triples) (λ few. all_named (base_nodes config) nodes >>= λ known. linked known [] all >>= λ sound. no_loop (find (lies_on_loop all) all) >>= λ ordered. Ok (record { nodes = known; triples = all })) s e in
    let known = bind_ok (all_named (base_nodes config) nodes) (λ known. linked known [] all >>= λ sound. no_loop (find (lies_on_loop all) all) >>= λ ordered. Ok (record { nodes = known; triples = all })) s few.2 in
    let sound = bind_ok (linked known.0 [] all) (λ sound. no_loop (find (lies_on_loop all) all) >>= λ ordered. Ok (record { nodes = known.0; triples = all })) s known.2 in
    let ordered = bind_ok (no_loop (find (lies_on_loop all) all)) (λ ordered. Ok (record { nodes = known.0; triples = all })) s sound.2 in
    let is : (let state : SpaceState = record { nodes = known.0; triples = all } in state) ≡ s = ok_same (record { nodes = known.0; triples = all }) s ordered.2 in
    let base = bind_ok (named 0 [] (base_nodes config)) (λ first. named 1 first nodes) known.0 known.1 in
    let first = all_given 0 [] base.0 (base_nodes config) base.1 in
    let second = all_given 1 base.0 known.0 nodes base.2 in
    let P : SpaceState → Type 0 = IsMadeOf (base_nodes config) nodes triples in
    subst P is (record {
      nodes = λ node h. elim (in_either (base_nodes config) nodes node (in_list (base_nodes config ++ nodes) node h.0 h.1 h.2)) [
        | inl front ↦ second.kept node.id node (first.given node front)
        | inr back ↦ second.given node back
      ];
      count = omega (arith, first.count, second.count);
      triples = refl;
    })
