-- What is read item by item stands in the order of the items.
use Rattle.std.proofs.Common.{◌≡◌, ℕ, zero, suc, ◌+◌, List, [], ◌∷◌, map, Some, slice_get, Result, Ok, Err, refl, sym, ap, ◌∙◌, arith}
use Rattle.std.specs.List.{flat_map}
use Rattle.std.specs.Option.{option_map}
use Rattle.toml.specs.Data.{Data, Items, no_items, item, get_item, as_table}
use Rattle.ua_space.specs.declared.node.Node.{Node}
use Rattle.ua_space.specs.declared.triple.Part.{Part}
use Rattle.ua_space.specs.declared.triple.Part.TheVariants as part
use Rattle.ua_space.specs.declared.triple.Triple.{Triple}
use Rattle.ua_types.specs.Answers.{◌>>=◌}
use Rattle.node_loader.specs.Lists.{each}
use Rattle.node_loader.specs.File.{in_part, entries_of, nodes_of}
use Rattle.node_loader.specs.Node.{entry_of, triples_of}
use Rattle.node_loader.specs.Ordered.{NodesAreInOrder}
use Rattle.node_loader.specs.declared.fault.Cause.{Cause}
use Rattle.node_loader.specs.declared.fault.LoadFault.{LoadFault}
use Rattle.node_loader.specs.declared.node.Entry.{Entry}

pub then_ok : {A B F : Type 0} (r : Result A F) (f : A → Result B F) (y : B) → (r >>= f) ≡ Ok y → (x : A) × (r ≡ Ok x) × (f x ≡ Ok y)
then_ok (Ok x) f y e = (x, refl, e)
then_ok (Err fault) f y e = absurd cc

pub ok_same : {A F : Type 0} (x y : A) → (let r : Result A F = Ok x in r) ≡ Ok y → x ≡ y
ok_same x y e = cc

some_same : {A : Type 0} (x y : A) → Some x ≡ Some y → x ≡ y
some_same x y e = cc

each_at : {A F : Type 0} (f : ℕ → Data → Result A F) (n : ℕ) (ds : Items) (xs : List A) → each f n ds ≡ Ok xs → (k : ℕ) (d : Data) → get_item k ds ≡ Some d
    → (x : A) × (f (n + k) d ≡ Ok x) × (slice_get xs k ≡ Some x)
each_at {A} {F} f n no_items xs e k d at = absurd cc
each_at {A} {F} f n (item d0 ds) xs e zero d at =
    let first = then_ok (f n d0) (λ x. each f (n + 1) ds >>= λ ys. Ok (x ∷ ys)) xs e in
    let rest = then_ok (each f (n + 1) ds) (λ ys. Ok (first.0 ∷ ys)) xs first.2 in
    let is : first.0 ∷ rest.0 ≡ xs = ok_same {A = List A} {F = F} (first.0 ∷ rest.0) xs rest.2 in
    let same : d0 ≡ d = some_same d0 d at in
    let place : n + 0 ≡ n = omega arith in
    (first.0, rw place (ap (f n) (sym same) ∙ first.1), ap (λ ys. slice_get ys 0) (sym is))
each_at {A} {F} f n (item d0 ds) xs e (suc k) d at =
    let first = then_ok (f n d0) (λ x. each f (n + 1) ds >>= λ ys. Ok (x ∷ ys)) xs e in
    let rest = then_ok (each f (n + 1) ds) (λ ys. Ok (first.0 ∷ ys)) xs first.2 in
    let is : first.0 ∷ rest.0 ≡ xs = ok_same {A = List A} {F = F} (first.0 ∷ rest.0) xs rest.2 in
    let later = each_at f (n + 1) ds rest.0 rest.1 k d at in
    let place : n + 1 + k ≡ n + suc k = omega arith in
    (later.0, ap (λ m. f m d) (sym place) ∙ later.1, ap (λ ys. slice_get ys (suc k)) (sym is) ∙ later.2)

pub without_part : {A : Type 0} (p : Part) (r : Result A Cause) (x : A) → in_part p r ≡ Ok x → r ≡ Ok x
without_part p (Ok y) x e = let same : y ≡ x = cc in ap Ok same
without_part p (Err c) x e = absurd cc

at_map : {A B : Type 0} (f : A → B) (xs : List A) (k : ℕ) → slice_get (map f xs) k ≡ option_map f (slice_get xs k)
at_map f [] k = refl
at_map f (x ∷ xs) zero = refl
at_map f (x ∷ xs) (suc k) = at_map f xs k

pub nodes_in_order : NodesAreInOrder
unfolding nodes_of
nodes_in_order setting list nodes triples e k d at =
    let read = then_ok (entries_of setting list) (λ entries. Ok (map (λ (x : Entry). x.node) entries, flat_map triples_of entries)) (nodes, triples) e in
    let is = ok_same {A = List Node × List Triple} {F = LoadFault} (map (λ (x : Entry). x.node) read.0, flat_map triples_of read.0) (nodes, triples) read.2 in
    let found = each_at (λ n d. in_part (part.Node n) (entry_of setting (part.Node n) (as_table d))) 1 list read.0 read.1 k d at in (
      found.0,
      without_part (part.Node (1 + k)) (entry_of setting (part.Node (1 + k)) (as_table d)) found.0 found.1,
      ap (λ (p : List Node × List Triple). slice_get p.0 k) (sym is) ∙ at_map (λ (x : Entry). x.node) read.0 k ∙ ap (option_map (λ (x : Entry). x.node)) found.2,
    )
