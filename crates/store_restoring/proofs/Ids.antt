-- Nodes by their ids, once a value or a history of one is another.
use Rattle.std.proofs.Common.{◌≡◌, ℕ, zero, suc, Bool, true, false, List, [], ◌∷◌, Option, Some, None, option_map, slice_get, refl, sym, ◌∙◌, ap, subst, inl, inr}
use Rattle.std.proofs.lemmas.Bool.{cases_Bool, false≢true}
use Rattle.std.proofs.lemmas.Cmp.{tied_itself}
use Rattle.std.specs.BTreeMap.{is_at}
use Rattle.std.specs.Map.{keys_of, lookup, set_value}
use Rattle.std.specs.Ordering.{is_eq}
use Rattle.ua_types.specs.NodeIdOrder.{id_cmp}
use Rattle.ua_types.specs.declared.node_id.NodeId.{NodeId}
use Rattle.ua_types.specs.contracts.node_id.NodeIdOrd.TheImpl.Laws.{total-law, matches_eq-law}
use Rattle.ua_types.proofs.SameIds.{same_id_true}
use Rattle.ua_types.specs.declared.data_value.DataValue.{DataValue}
use Rattle.ua_space.specs.Histories.{history_in, with_history_in}
use Rattle.ua_space.specs.NodePlaces.{place_of}
use Rattle.ua_space.specs.Nodes.{Nodes, node_at}
use Rattle.ua_space.specs.Values.{holding, put, with_value}
use Rattle.ua_space.specs.declared.node.Node.{Node}

pub same_ids : (a b : NodeId) → is_at (id_cmp a) b ≡ true → a ≡ b
same_ids a b h = same_id_true a b (matches_eq-law a b ∙ h)

pub itself : (a : NodeId) → is_at (id_cmp a) a ≡ true
itself a = ap is_eq (tied_itself total-law a)

-- what has one id has no other
pub apart_there : (a b e : NodeId) → is_at (id_cmp a) b ≡ false → is_at (id_cmp a) e ≡ true → is_at (id_cmp b) e ≡ false
apart_there a b e apart here =
    elim (cases_Bool (is_at (id_cmp b) e)) [
      | inl there ↦
          let one = same_ids a e here in
          let other = same_ids b e there in
          let P : NodeId → Type 0 = λ x. is_at (id_cmp a) x ≡ true in
          absurd (false≢true (sym apart ∙ subst P (one ∙ sym other) (itself a)))
      | inr no_one ↦ no_one
    ]

after : (found : Option ℕ) (place : ℕ) → option_map suc found ≡ Some (suc place) → found ≡ Some place
after None place is = absurd cc
after (Some before) place is = cc

not_first : (found : Option ℕ) → option_map suc found ≡ Some zero → ⊥
not_first None is = cc
not_first (Some before) is = cc

abbrev pub with_past : List DataValue → Node → Node
with_past values node = record node { history = values }

module _ (values : List DataValue) where
  -- the node at the place has another history
  pub there : (id : NodeId) (es : Nodes) (place : ℕ) → place_of id es ≡ Some place → node_at id (with_history_in place values es) ≡ option_map (with_past values) (node_at id es)
  there id [] place is = refl
  there id (e ∷ es) zero is =
      elim (cases_Bool (is_at (id_cmp id) e.0)) [
        | inl here ↦ rw here refl
        | inr apart ↦ absurd (not_first (place_of id es) (rw apart at is))
      ]
  there id (e ∷ es) (suc place) is =
      elim (cases_Bool (is_at (id_cmp id) e.0)) [
        | inl here ↦ absurd (let first : Some zero ≡ Some (suc place) = rw here at is in cc)
        | inr apart ↦ rw apart (there id es place (after (place_of id es) place (rw apart at is)))
      ]

  -- and no other
  pub elsewhere : (id other : NodeId) (es : Nodes) (place : ℕ) → place_of id es ≡ Some place → is_at (id_cmp id) other ≡ false → node_at other (with_history_in place values es) ≡ node_at other es
  elsewhere id other [] place is different = refl
  elsewhere id other (e ∷ es) zero is different =
      elim (cases_Bool (is_at (id_cmp id) e.0)) [
        | inl here ↦ rw (apart_there id other e.0 different here) refl
        | inr apart ↦ absurd (not_first (place_of id es) (rw apart at is))
      ]
  elsewhere id other (e ∷ es) (suc place) is different =
      elim (cases_Bool (is_at (id_cmp id) e.0)) [
        | inl here ↦ absurd (let first : Some zero ≡ Some (suc place) = rw here at is in cc)
        | inr apart ↦
            let rest = elsewhere id other es place (after (place_of id es) place (rw apart at is)) different in
            elim (cases_Bool (is_at (id_cmp other) e.0)) [
              | inl first ↦ rw first refl
              | inr later ↦ rw later rest
            ]
      ]

  pub keys_stay : (es : Nodes) (place : ℕ) → keys_of (with_history_in place values es) ≡ keys_of es
  keys_stay [] place = refl
  keys_stay (e ∷ es) zero = refl
  keys_stay (e ∷ es) (suc place) = ap (λ (ks : List NodeId). e.0 ∷ ks) (keys_stay es place)

  pub place_stays : (id : NodeId) (es : Nodes) (place : ℕ) → place_of id (with_history_in place values es) ≡ place_of id es
  place_stays id [] place = refl
  place_stays id (e ∷ es) zero = refl
  place_stays id (e ∷ es) (suc place) = rw (place_stays id es place) refl

  -- the last history that is put in counts
  pub put_twice : (first : List DataValue) (es : Nodes) (place : ℕ) → with_history_in place values (with_history_in place first es) ≡ with_history_in place values es
  put_twice first [] place = refl
  put_twice first (e ∷ es) zero = refl
  put_twice first (e ∷ es) (suc place) = ap (λ (xs : Nodes). e ∷ xs) (put_twice first es place)

-- what stands at the place of a node is its history
pub history_there : (id : NodeId) (es : Nodes) (place : ℕ) (node : Node) → place_of id es ≡ Some place → node_at id es ≡ Some node → history_in (slice_get es place) ≡ node.history
history_there id [] place node is found = absurd cc
history_there id (e ∷ es) zero node is found =
    elim (cases_Bool (is_at (id_cmp id) e.0)) [
      | inl here ↦ let some : Some e.1 ≡ Some node = rw here at found in let same : e.1 ≡ node = cc in ap (λ (n : Node). n.history) same
      | inr apart ↦ absurd (not_first (place_of id es) (rw apart at is))
    ]
history_there id (e ∷ es) (suc place) node is found =
    elim (cases_Bool (is_at (id_cmp id) e.0)) [
      | inl here ↦ absurd (let first : Some zero ≡ Some (suc place) = rw here at is in cc)
      | inr apart ↦ history_there id es place node (after (place_of id es) place (rw apart at is)) (rw apart at found)
    ]

-- ---- another value

set_there : (test : NodeId → Bool) (es : Nodes) (now old : Node) → lookup test es ≡ Some old → lookup test (set_value test es now) ≡ Some now
set_there test [] now old is = absurd cc
set_there test (e ∷ es) now old is =
    elim (cases_Bool (test e.0)) [
      | inl here ↦ rw (here, here) refl
      | inr apart ↦ rw (apart, apart) (set_there test es now old (rw apart at is))
    ]

set_elsewhere : (id other : NodeId) (es : Nodes) (now : Node) → is_at (id_cmp id) other ≡ false → node_at other (set_value (is_at (id_cmp id)) es now) ≡ node_at other es
set_elsewhere id other [] now different = refl
set_elsewhere id other (e ∷ es) now different =
    elim (cases_Bool (is_at (id_cmp id) e.0)) [
      | inl here ↦ rw (here, apart_there id other e.0 different here) refl
      | inr apart ↦
          let rest = set_elsewhere id other es now different in
          elim (cases_Bool (is_at (id_cmp other) e.0)) [
            | inl first ↦ rw (apart, first) refl
            | inr later ↦ rw (apart, later) rest
          ]
    ]

pub valued_there : (id : NodeId) (value : DataValue) (es : Nodes) (node : Node) → node_at id es ≡ Some node → node_at id (with_value id value es) ≡ Some (record node { details = holding value node.details })
valued_there id value es node found =
    let is : with_value id value es ≡ put id value es (Some node) = ap (put id value es) found in
    ap (node_at id) is ∙ set_there (is_at (id_cmp id)) es (record node { details = holding value node.details }) node found

pub valued_elsewhere : (id other : NodeId) (value : DataValue) (es : Nodes) → is_at (id_cmp id) other ≡ false → node_at other (with_value id value es) ≡ node_at other es
valued_elsewhere id other value es different = by (node_at id es)
  where
    by : (found : Option Node) → node_at other (put id value es found) ≡ node_at other es
    by None = refl
    by (Some node) = set_elsewhere id other es (record node { details = holding value node.details }) different

set_keys : (test : NodeId → Bool) (es : Nodes) (now : Node) → keys_of (set_value test es now) ≡ keys_of es
set_keys test [] now = refl
set_keys test (e ∷ es) now =
    elim (cases_Bool (test e.0)) [
      | inl here ↦ rw here refl
      | inr apart ↦ rw apart (ap (λ (ks : List NodeId). e.0 ∷ ks) (set_keys test es now))
    ]

pub valued_keys : (id : NodeId) (value : DataValue) (es : Nodes) → keys_of (with_value id value es) ≡ keys_of es
valued_keys id value es = by (node_at id es)
  where
    by : (found : Option Node) → keys_of (put id value es found) ≡ keys_of es
    by None = refl
    by (Some node) = set_keys (is_at (id_cmp id)) es (record node { details = holding value node.details })
