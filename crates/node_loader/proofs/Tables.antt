-- Tables and lists beside what they are seen as.
use Rattle.std.proofs.Common.{◌≡◌, ℕ, Bool, false, ◌&&◌, ◌||◌, List, [], ◌∷◌, map, string_bytes, refl, sym, ap, ◌∙◌, suc, length}
use Rattle.std.proofs.lemmas.List.Folds.{list_any-append}
use Rattle.std.specs.List.{list_all, list_any}
use Rattle.std.specs.Map.{keys_of}
use Rattle.toml.specs.Data.{Data}
use Rattle.toml.specs.View.{members_view, items_view, view}
use Rattle.toml.specs.declared.value.Value.{Value}
use Rattle.toml.proofs.Views.{Entry}
use Rattle.std.specs.Str.{bytes_eq}
use Rattle.node_loader.specs.Keys.{all_keys, is_among}
use Rattle.node_loader.specs.Lists.{all_items, count}
use Rattle.node_loader.specs.Node.{common_keys}

pub all_keys_are : (known : List ℕ → Bool) (es : List Entry) → all_keys known (members_view es) ≡ list_all (λ k. known (string_bytes k)) (keys_of es)
all_keys_are known [] = refl
all_keys_are known (e ∷ es) = ap (λ b. known (string_bytes e.0) && b) (all_keys_are known es)

-- a text is among those under which others stand, as it is among these
among_others : {X : Type 0} (text_of : X → List ℕ) (others : List X) (key : List ℕ) → list_any (λ x. bytes_eq (text_of x) key) others ≡ is_among (map text_of others) key
among_others text_of [] key = refl
among_others text_of (x ∷ xs) key = ap (λ b. bytes_eq (text_of x) key || b) (among_others text_of xs key)

-- a key of each node, or one of others
common_or : {X : Type 0} (text_of : X → List ℕ) (others : List X) (key : List ℕ)
    → (is_among (common_keys []) key || list_any (λ x. bytes_eq (text_of x) key) others) ≡ is_among (common_keys (map text_of others)) key
common_or text_of others key =
    ap (λ b. is_among (common_keys []) key || b) (among_others text_of others key)
    ∙ sym (list_any-append (λ x. bytes_eq x key) (common_keys []) (map text_of others))

pub uncommon : {X : Type 0} (text_of : X → List ℕ) (others : List X) (key : List ℕ) → is_among (common_keys []) key ≡ false
    → is_among (common_keys (map text_of others)) key ≡ list_any (λ x. bytes_eq (text_of x) key) others
uncommon text_of others key other = sym (common_or text_of others key) ∙ ap (λ b. b || list_any (λ x. bytes_eq (text_of x) key) others) other

pub all_items_are : (test : Data → Bool) (vs : List Value) → all_items test (items_view vs) ≡ list_all (λ v. test (view v)) vs
all_items_are test [] = refl
all_items_are test (v ∷ vs) = ap (λ b. test (view v) && b) (all_items_are test vs)

pub count_is : (vs : List Value) → count (items_view vs) ≡ length vs
count_is [] = refl
count_is (v ∷ vs) = ap suc (count_is vs)
