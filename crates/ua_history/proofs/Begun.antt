-- Nodes whose values from before are kept and moved out, one node after the other.
use Rattle.std.proofs.Common.{◌≡◌, ◌≤◌, ◌+◌, ℕ, zero, suc, [], ◌∷◌, length, drop, slice_get, option_map, Option, Some, None, refl, sym, ap, ◌∙◌, arith}
use Rattle.std.proofs.lemmas.List.{drop_all}
use Rattle.std.specs.List.{fold}
use Rattle.ua_space.specs.Histories.{history_in, without_history, without_history_in, without_histories}
use Rattle.ua_space.specs.Nodes.{Nodes}
use Rattle.ua_space.specs.declared.node.Node.{Node}
use Rattle.ua_history.specs.Histories.{HistoryState, with_all, with_node, with_node_if}

-- the nodes, where the first so many have nothing from before
unfoldable pub emptied : ℕ → Nodes → Nodes
emptied zero nodes = nodes
emptied (suc n) [] = []
emptied (suc n) (e ∷ es) = without_history e ∷ emptied n es

pub still_there : (n : ℕ) (nodes : Nodes) → slice_get (emptied n nodes) n ≡ slice_get nodes n
unfolding emptied
still_there zero nodes = refl
still_there (suc n) [] = refl
still_there (suc n) (e ∷ es) = still_there n es

pub one_more : (n : ℕ) (nodes : Nodes) → without_history_in n (emptied n nodes) ≡ emptied (suc n) nodes
unfolding emptied
one_more zero [] = refl
one_more zero (e ∷ es) = refl
one_more (suc n) [] = refl
one_more (suc n) (e ∷ es) = ap (λ (rest : Nodes). without_history e ∷ rest) (one_more n es)

pub as_many : (n : ℕ) (nodes : Nodes) → length (emptied n nodes) ≡ length nodes
unfolding emptied
as_many zero nodes = refl
as_many (suc n) [] = refl
as_many (suc n) (e ∷ es) = ap suc (as_many n es)

pub all_emptied : (n : ℕ) (nodes : Nodes) → length nodes ≤ n → emptied n nodes ≡ without_histories nodes
unfolding emptied
all_emptied zero [] all = refl
all_emptied zero (e ∷ es) all = absurd (omega (arith, all))
all_emptied (suc n) [] all = refl
all_emptied (suc n) (e ∷ es) all = ap (λ (rest : Nodes). without_history e ∷ rest) (all_emptied n es (omega (arith, all)))

-- ---- one node

abbrev node_left : ℕ → Nodes → Option Node
node_left n nodes = option_map (λ e. e.1) (slice_get (without_history_in n nodes) n)

pub nobody_begins : (n : ℕ) (nodes : Nodes) (h : HistoryState) → node_left n nodes ≡ None → h ≡ with_node_if h (slice_get nodes n)
nobody_begins n [] h none = refl
nobody_begins zero (e ∷ es) h none = absurd cc
nobody_begins (suc n) (e ∷ es) h none = nobody_begins n es h none

pub one_begins : (n : ℕ) (nodes : Nodes) (h : HistoryState) (node : Node) → node_left n nodes ≡ Some node
    → with_all h node.id (history_in (slice_get nodes n)) ≡ with_node_if h (slice_get nodes n)
one_begins n [] h node some = absurd cc
one_begins zero (e ∷ es) h node some = let same : (without_history e).1 ≡ node = cc in ap (λ (left : Node). with_all h left.id e.1.history) (sym same)
one_begins (suc n) (e ∷ es) h node some = one_begins n es h node some

-- ---- all nodes

pub goes_on : (n : ℕ) (nodes : Nodes) (h : HistoryState) → fold with_node h (drop n nodes) ≡ fold with_node (with_node_if h (slice_get nodes n)) (drop (suc n) nodes)
goes_on zero [] h = refl
goes_on zero (e ∷ es) h = refl
goes_on (suc n) [] h = refl
goes_on (suc n) (e ∷ es) h = goes_on n es h

pub at_the_end : (n : ℕ) (nodes : Nodes) (h : HistoryState) → length nodes ≤ n → fold with_node h (drop n nodes) ≡ h
at_the_end n nodes h all = ap (λ (rest : Nodes). fold with_node h rest) (drop_all n nodes all)

-- ---- where none has anything

nothing_left : (n : ℕ) (nodes : Nodes) → history_in (slice_get (without_histories nodes) n) ≡ []
nothing_left n [] = refl
nothing_left zero (e ∷ es) = refl
nothing_left (suc n) (e ∷ es) = nothing_left n es

pub none_there : (n : ℕ) (nodes : Nodes) → without_histories nodes ≡ nodes → history_in (slice_get nodes n) ≡ []
none_there n nodes same = sym (ap (λ (ns : Nodes). history_in (slice_get ns n)) same) ∙ nothing_left n nodes

-- ---- counted as a loop counts

next : (n : ℕ) → suc n ≡ n + 1
next n = omega arith

pub goes_on_by_one : (n : ℕ) (nodes : Nodes) (h : HistoryState) → fold with_node (with_node_if h (slice_get nodes n)) (drop (n + 1) nodes) ≡ fold with_node h (drop n nodes)
goes_on_by_one n nodes h = sym (goes_on n nodes h ∙ ap (λ (k : ℕ). fold with_node (with_node_if h (slice_get nodes n)) (drop k nodes)) (next n))

pub emptied_by_one : (n : ℕ) (nodes : Nodes) → without_history_in n (emptied n nodes) ≡ emptied (n + 1) nodes
emptied_by_one n nodes = one_more n nodes ∙ ap (λ (k : ℕ). emptied k nodes) (next n)
