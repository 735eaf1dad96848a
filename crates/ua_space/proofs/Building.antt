-- Going through nodes and references one after the other, as the loops do.
use Rattle.std.proofs.Common.{◌≡◌, ℕ, ◌+◌, ◌≤◌, ◌<◌, Bool, true, false, not, cond, ◌||◌, List, [], ◌∷◌, length, get_or, take, drop, is_some, Result, Ok, Err, Bor, refl, sym, ap, ◌∙◌, arith}
use Rattle.std.proofs.lemmas.List.{drop_more, take_more, drop_all}
use Rattle.std.proofs.lemmas.List.Folds.{list_any-append}
use Rattle.std.specs.List.{list_any}
use Rattle.std.specs.BTreeMap.{insert_entry}
use Rattle.std.specs.Ordering.{is_eq}
use Rattle.ua_types.specs.NodeIdOrder.{id_cmp}
use Rattle.ua_space.specs.declared.node.Node.{Node}
use Rattle.ua_space.specs.declared.triple.Triple.{Triple}
use Rattle.ua_space.specs.declared.triple.Part.TheVariants as part
use Rattle.ua_space.specs.declared.fault.SpaceFault.{SpaceFault}
use Rattle.ua_space.specs.declared.fault.SpaceFault.TheVariants.{Duplicate, DanglingReference, History}
use Rattle.ua_space.specs.Histories.{is_history}
use Rattle.ua_space.specs.Nodes.{Nodes, node_at}
use Rattle.ua_space.specs.TripleOrder.{same_triple, triple_cmp, same_triple_equiv, triple_ties}
use Rattle.ua_space.specs.Build.{linked, named, all_named}
use Rattle.ua_space.specs.Spaces.{fits}

abbrev Linked : Type 0
Linked = Result (Unit {0}) SpaceFault

pub bad_end : (ns : Nodes) (ts : List Triple) (i : ℕ) (t : Triple) (total : Linked) → i < length ts → t ≡ get_or ts i t → fits ns t ≡ false
    → linked ns (take i ts) (drop i ts) ≡ total → total ≡ Err (DanglingReference t.part)
unfolding linked
bad_end ns ts i t total lt item bad so_far =
    let one : linked ns (take i ts) (drop i ts) ≡ Err (DanglingReference t.part) = rw (drop_more ts i t lt, ← item, bad) refl in
    sym so_far ∙ one

pub given_twice : (ns : Nodes) (ts : List Triple) (i : ℕ) (t : Triple) (total : Linked) → i < length ts → t ≡ get_or ts i t → fits ns t ≡ true → list_any (same_triple t) (take i ts) ≡ true
    → linked ns (take i ts) (drop i ts) ≡ total → total ≡ Err (Duplicate t.part)
unfolding linked
given_twice ns ts i t total lt item good twice so_far =
    let one : linked ns (take i ts) (drop i ts) ≡ Err (Duplicate t.part) = rw (drop_more ts i t lt, ← item, good, twice) refl in
    sym so_far ∙ one

pub goes_on : (ns : Nodes) (ts : List Triple) (i : ℕ) (t : Triple) (total : Linked) → i < length ts → t ≡ get_or ts i t → fits ns t ≡ true → list_any (same_triple t) (take i ts) ≡ false
    → linked ns (take i ts) (drop i ts) ≡ total → linked ns (take (i + 1) ts) (drop (i + 1) ts) ≡ total
unfolding linked
goes_on ns ts i t total lt item good once so_far =
    let one : linked ns (take i ts) (drop i ts) ≡ linked ns (take (i + 1) ts) (drop (i + 1) ts) =
    rw (drop_more ts i t lt, take_more ts i t lt, ← item, good, once) refl in
    sym one ∙ so_far

pub all_good : (ns : Nodes) (ts : List Triple) (i : ℕ) (total : Linked) → length ts ≤ i → linked ns (take i ts) (drop i ts) ≡ total → total ≡ Ok tt
unfolding linked
all_good ns ts i total le so_far =
    let one : linked ns (take i ts) (drop i ts) ≡ Ok tt = rw (drop_all i ts le) refl in
    sym so_far ∙ one

pub either_way : (b x : Bool) → cond b true x ≡ (x || (b || false))
either_way true true = refl
either_way true false = refl
either_way false true = refl
either_way false false = refl

pub not_false : (x : Bool) → not x ≡ false → x ≡ true
not_false true h = refl
not_false false h = sym h

pub not_true : (x : Bool) → not x ≡ true → x ≡ false
not_true true h = sym h
not_true false h = refl

-- the set of those seen has one more
pub seen_more : (keys new : List (Bor Triple)) (k : Triple) (ts : List Triple) (i : ℕ) → i < length ts → k ≡ get_or ts i k
    → ((q : Bor Triple) → list_any (λ (x : Bor Triple). is_eq (triple_cmp q.now x.now)) new ≡ cond (is_eq (triple_cmp k q.now)) true (list_any (λ (x : Bor Triple). is_eq (triple_cmp q.now x.now)) keys))
    → ((t : Triple) → list_any (λ (x : Bor Triple). is_eq (triple_cmp t x.now)) keys ≡ list_any (same_triple t) (take i ts))
    → (t : Triple) → list_any (λ (x : Bor Triple). is_eq (triple_cmp t x.now)) new ≡ list_any (same_triple t) (take (i + 1) ts)
seen_more keys new k ts i lt item added so_far t =
    let tie : is_eq (triple_cmp k t) ≡ same_triple t k = sym (triple_ties k t) ∙ same_triple_equiv.symm k t in
    let after : list_any (same_triple t) (take (i + 1) ts) ≡ (list_any (same_triple t) (take i ts) || (same_triple t k || false)) =
    rw (take_more ts i k lt, ← item, list_any-append (same_triple t) (take i ts) (k ∷ [])) refl in
    added (record { ref_ptr = (0, 0); now = t })
    ∙ ap (cond (is_eq (triple_cmp k t)) true) (so_far t)
    ∙ either_way (is_eq (triple_cmp k t)) (list_any (same_triple t) (take i ts))
    ∙ ap (λ b. list_any (same_triple t) (take i ts) || (b || false)) tie
    ∙ sym after

-- an iterator with nothing left
pub nothing_left : {X : Type 0} (xs : List X) → length xs ≡ 0 → xs ≡ []
nothing_left [] e = refl
nothing_left (x ∷ xs) e = absurd (omega arith)

-- the nodes that are left, one step on
pub named_twice : (n : ℕ) (known : Nodes) (left rest : List Node) (node : Node) (total : Result Nodes SpaceFault) → left ≡ node ∷ rest → is_some (node_at node.id known) ≡ true
    → named n known left ≡ total → total ≡ Err (Duplicate (part.Node n))
unfolding named
named_twice n known left rest node total step twice so_far = sym so_far ∙ rw (step, twice) refl

pub named_badly : (n : ℕ) (known : Nodes) (left rest : List Node) (node : Node) (total : Result Nodes SpaceFault) → left ≡ node ∷ rest → is_some (node_at node.id known) ≡ false → is_history node ≡ false
    → named n known left ≡ total → total ≡ Err (History (part.Node n))
unfolding named
named_badly n known left rest node total step once bad so_far = sym so_far ∙ rw (step, once, bad) refl

pub named_once : (n : ℕ) (known : Nodes) (left rest : List Node) (node : Node) (total : Result Nodes SpaceFault) → left ≡ node ∷ rest → is_some (node_at node.id known) ≡ false → is_history node ≡ true
    → named n known left ≡ total → named (n + 1) (insert_entry id_cmp known node.id node) rest ≡ total
unfolding named
named_once n known left rest node total step once good so_far =
    let one : named n known left ≡ named (n + 1) (insert_entry id_cmp known node.id node) rest = rw (step, once, good) refl in
    sym one ∙ so_far

pub nodes_end : (n : ℕ) (known : Nodes) (left : List Node) (total : Result Nodes SpaceFault) → length left ≡ 0 → named n known left ≡ total → total ≡ Ok known
unfolding named
nodes_end n known left total none so_far = sym so_far ∙ rw (nothing_left left none) refl

-- the base nodes and then the given ones
pub base_fails : (base nodes : List Node) (empty : Nodes) (e : SpaceFault) → empty ≡ [] → named 0 empty base ≡ Err e → all_named base nodes ≡ Err e
unfolding all_named
base_fails base nodes empty e none failed =
    let one : named 0 [] base ≡ Err e = ap (λ m. named 0 m base) (sym none) ∙ failed in
    rw one refl

pub base_stands : (base nodes : List Node) (empty known : Nodes) → empty ≡ [] → named 0 empty base ≡ Ok known → named 1 known nodes ≡ all_named base nodes
unfolding all_named
base_stands base nodes empty known none stood =
    let one : named 0 [] base ≡ Ok known = ap (λ m. named 0 m base) (sym none) ∙ stood in
    rw one refl
