-- Reading items one after the other, as a loop does.
use Rattle.std.proofs.Common.{◌≡◌, ℕ, ◌+◌, ◌≤◌, ◌<◌, List, [], ◌∷◌, ◌++◌, length, get_or, drop, Result, Ok, Err, refl, sym, ap, ◌∙◌, append_assoc}
use Rattle.std.proofs.lemmas.List.{append-nil, drop_all}
use Rattle.toml.specs.Data.{Data, Items}
use Rattle.toml.specs.View.{view, items_view}
use Rattle.toml.specs.declared.value.Value.{Value}
use Rattle.toml.proofs.Views.{items_view-drop}
use Rattle.std.specs.Prelude.{map}
use Rattle.std.specs.List.{flat_map}
use Rattle.std.proofs.lemmas.List.Concat.{flat_map-cons}
use Rattle.ua_space.specs.declared.node.Node.{Node}
use Rattle.ua_space.specs.declared.triple.Triple.{Triple}
use Rattle.node_loader.specs.declared.fault.LoadFault.{LoadFault}
use Rattle.node_loader.specs.declared.node.Entry.{Entry}
use Rattle.node_loader.specs.declared.past.Setting.{Setting}
use Rattle.node_loader.specs.File.{entries_of, nodes_of}
use Rattle.node_loader.specs.Node.{triples_of}
use Rattle.ua_types.specs.Answers.{◌>>=◌}
use Rattle.node_loader.specs.Lists.{each, after}

pub begins : {A F : Type 0} (o : Result (List A) F) → after [] o ≡ o
begins (Err e) = refl
begins (Ok xs) = refl

regroup : {A F : Type 0} (front : List A) (x : A) (o : Result (List A) F) → after front (o >>= λ xs. Ok (x ∷ xs)) ≡ after (front ++ x ∷ []) o
regroup front x (Err e) = refl
regroup front x (Ok xs) = ap Ok (simp append_assoc)

pub fails : {A F : Type 0} (f : ℕ → Data → Result A F) (vs : List Value) (i : ℕ) (v : Value) (e : F) (front : List A) (total : Result (List A) F) → i < length vs → v ≡ get_or vs i v → f (i + 1) (view v) ≡ Err e
    → after front (each f (i + 1) (items_view (drop i vs))) ≡ total → total ≡ Err e
fails f vs i v e front total lt item bad so_far = sym so_far ∙ rw (items_view-drop vs i v lt, ← item, bad) refl

pub goes_on : {A F : Type 0} (f : ℕ → Data → Result A F) (vs : List Value) (i : ℕ) (v : Value) (x : A) (front : List A) (total : Result (List A) F) → i < length vs → v ≡ get_or vs i v → f (i + 1) (view v) ≡ Ok x
    → after front (each f (i + 1) (items_view (drop i vs))) ≡ total → after (front ++ x ∷ []) (each f (i + 1 + 1) (items_view (drop (i + 1) vs))) ≡ total
goes_on f vs i v x front total lt item good so_far =
    let one : after front (each f (i + 1) (items_view (drop i vs))) ≡ after (front ++ x ∷ []) (each f (i + 1 + 1) (items_view (drop (i + 1) vs))) =
    rw (items_view-drop vs i v lt, ← item, good) (regroup front x (each f (i + 1 + 1) (items_view (drop (i + 1) vs)))) in
    sym one ∙ so_far

pub ends : {A F : Type 0} (f : ℕ → Data → Result A F) (vs : List Value) (i : ℕ) (front : List A) (total : Result (List A) F) → length vs ≤ i
    → after front (each f (i + 1) (items_view (drop i vs))) ≡ total → total ≡ Ok front
ends f vs i front total le so_far = sym so_far ∙ rw (drop_all i vs le) (ap Ok (append-nil front))

-- the nodes and the references so far, and those of the rest
abbrev pub joined : List Node → List Triple → Result (List Entry) LoadFault → Result (List Node × List Triple) LoadFault
joined ns ts (Err e) = Err e
joined ns ts (Ok es) = Ok (ns ++ map (λ e. e.node) es, ts ++ flat_map triples_of es)

begun : (o : Result (List Entry) LoadFault) → joined [] [] o ≡ (o >>= λ entries. Ok (map (λ e. e.node) entries, flat_map triples_of entries))
begun (Err e) = refl
begun (Ok es) = refl

pub nodes_begin : (setting : Setting) (ds : Items) → joined [] [] (entries_of setting ds) ≡ nodes_of setting ds
unfolding nodes_of
nodes_begin setting ds = begun (entries_of setting ds)

rejoined : (ns : List Node) (ts : List Triple) (x : Entry) (o : Result (List Entry) LoadFault)
    → joined ns ts (o >>= λ xs. Ok (x ∷ xs)) ≡ joined (ns ++ x.node ∷ []) (ts ++ triples_of x) o
rejoined ns ts x (Err e) = refl
rejoined ns ts x (Ok es) = rw (append_assoc ns (x.node ∷ []) (map (λ e. e.node) es), append_assoc ts (triples_of x) (flat_map triples_of es), flat_map-cons triples_of x es) refl

pub node_fails : (f : ℕ → Data → Result Entry LoadFault) (vs : List Value) (i : ℕ) (v : Value) (e : LoadFault) (ns : List Node) (ts : List Triple) (total : Result (List Node × List Triple) LoadFault)
    → i < length vs → v ≡ get_or vs i v → f (i + 1) (view v) ≡ Err e
    → joined ns ts (each f (i + 1) (items_view (drop i vs))) ≡ total → total ≡ Err e
node_fails f vs i v e ns ts total lt item bad so_far = sym so_far ∙ rw (items_view-drop vs i v lt, ← item, bad) refl

pub node_goes_on : (f : ℕ → Data → Result Entry LoadFault) (vs : List Value) (i : ℕ) (v : Value) (x : Entry) (ns : List Node) (ts : List Triple) (total : Result (List Node × List Triple) LoadFault)
    → i < length vs → v ≡ get_or vs i v → f (i + 1) (view v) ≡ Ok x
    → joined ns ts (each f (i + 1) (items_view (drop i vs))) ≡ total
    → joined (ns ++ x.node ∷ []) (ts ++ triples_of x) (each f (i + 1 + 1) (items_view (drop (i + 1) vs))) ≡ total
node_goes_on f vs i v x ns ts total lt item good so_far =
    let one : joined ns ts (each f (i + 1) (items_view (drop i vs))) ≡ joined (ns ++ x.node ∷ []) (ts ++ triples_of x) (each f (i + 1 + 1) (items_view (drop (i + 1) vs))) =
    rw (items_view-drop vs i v lt, ← item, good) (rejoined ns ts x (each f (i + 1 + 1) (items_view (drop (i + 1) vs)))) in
    sym one ∙ so_far

pub nodes_end : (f : ℕ → Data → Result Entry LoadFault) (vs : List Value) (i : ℕ) (ns : List Node) (ts : List Triple) (total : Result (List Node × List Triple) LoadFault) → length vs ≤ i
    → joined ns ts (each f (i + 1) (items_view (drop i vs))) ≡ total → total ≡ Ok (ns, ts)
nodes_end f vs i ns ts total le so_far = sym so_far ∙ rw (drop_all i vs le) (rw (append-nil ns, append-nil ts) refl)
