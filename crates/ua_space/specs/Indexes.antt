-- An index: under each id the places, in a list of references, of those that stand under it.
use Rattle.std.specs.Prelude.{◌≡◌, ◌<◌, ℕ, List, [], ◌∷◌, ◌++◌, take, drop, filter, length, Bool, false, if◌then◌else◌, Option, Some, None, Vec}
use Rattle.std.specs.Global.{Global}
use Rattle.std.specs.List.{All}
use Rattle.std.specs.BTreeMap.{is_at}
use Rattle.std.specs.Map.{lookup}
use Rattle.ua_types.specs.declared.node_id.NodeId.{NodeId}
use Rattle.ua_types.specs.NodeIdOrder.{id_cmp, same_id}
use Rattle.ua_space.specs.declared.triple.Triple.{Triple}
use Rattle.ua_space.specs.declared.index.Key.{Key}
use Rattle.ua_space.specs.declared.index.Key.TheVariants as keys
use Rattle.ua_space.specs.References.{is_defining}
use Rattle.ua_space.specs.Subtypes.{is_subtyping}

-- the id under which a reference stands
abbrev pub key_of : Key → Triple → Option NodeId
key_of keys.Source t = Some t.source
key_of keys.Target t = Some t.target
key_of keys.Definition t = if is_defining t then Some t.source else None
key_of keys.Supertype t = if is_subtyping t then Some t.source else None
key_of keys.Subtype t = if is_subtyping t then Some t.target else None

abbrev pub is_key : NodeId → Option NodeId → Bool
is_key id None = false
is_key id (Some key) = same_id key id

-- whether a reference stands under an id
abbrev pub stands_under : Key → NodeId → Triple → Bool
stands_under key id t = is_key id (key_of key t)

-- the references at these places
abbrev pub pick : List Triple → List ℕ → List Triple
pick triples [] = []
pick triples (i ∷ is) = take 1 (drop i triples) ++ pick triples is

abbrev pub items : Vec ℕ Global → List ℕ
items v = v.items

abbrev pub given : {V : Type 0} → (V → List ℕ) → Option V → List ℕ
given listed None = []
given listed (Some v) = listed v

-- the places under an id
abbrev pub places_at : {V : Type 0} → (V → List ℕ) → NodeId → List (NodeId × V) → List ℕ
places_at listed id entries = given listed (lookup (is_at (id_cmp id)) entries)

-- the places under each id are those of the references that stand under it
abbrev pub IsIndex : {V : Type 0} → (V → List ℕ) → (NodeId → Triple → Bool) → List Triple → List (NodeId × V) → Type 0
IsIndex listed stands triples entries = (id : NodeId) → (pick triples (places_at listed id entries) ≡ filter (stands id) triples) × All (λ i. i < length triples) (places_at listed id entries)
