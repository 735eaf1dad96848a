-- Nodes of which one has other values from before.
use Rattle.std.proofs.Common.{◌≡◌, ℕ, zero, suc, ◌<◌, List, [], ◌∷◌, length, get_or, set, Option, Some, is_some, slice_get, refl, sym, ap, ◌∙◌, ◌⊎◌, inl, inr, arith}
use Rattle.std.proofs.lemmas.Bool.{cases_Bool}
use Rattle.std.specs.BTreeMap.{is_at}
use Rattle.std.specs.Map.{keys_of}
use Rattle.ua_types.specs.NodeIdOrder.{id_cmp}
use Rattle.ua_types.specs.declared.node_id.NodeId.{NodeId}
use Rattle.ua_types.specs.declared.data_value.DataValue.{DataValue}
use Rattle.ua_space.specs.declared.node.Node.{Node}
use Rattle.ua_space.specs.declared.triple.Triple.{Triple}
use Rattle.ua_space.specs.Histories.{history_in, with_history, with_history_in}
use Rattle.ua_space.specs.Nodes.{Nodes, node_at}
use Rattle.ua_space.specs.Spaces.{is_reference_type, IsSpace}

pub taken_out : (es : Nodes) (place : ℕ) (entry : NodeId × Node) → entry ≡ get_or es place entry → place < length es → entry.1.history ≡ history_in (slice_get es place)
taken_out [] place entry is lt = absurd (omega arith)
taken_out (e ∷ es) zero entry is lt = ap (λ (x : NodeId × Node). x.1.history) is
taken_out (e ∷ es) (suc place) entry is lt = taken_out es place entry is (omega arith)

module _ (values : List DataValue) where
  pub emptied : (es : Nodes) (place : ℕ) (entry : NodeId × Node) → entry ≡ get_or es place entry → set es place (with_history values entry) ≡ with_history_in place values es
  emptied [] place entry is = refl
  emptied (e ∷ es) zero entry is = ap (λ (x : NodeId × Node). with_history values x ∷ es) is
  emptied (e ∷ es) (suc place) entry is = ap (λ (xs : Nodes). e ∷ xs) (emptied es place entry is)

  pub none_emptied : (es : Nodes) (place : ℕ) → (place < length es → ⊥) → es ≡ with_history_in place values es
  none_emptied [] place past = refl
  none_emptied (e ∷ es) zero past = absurd (past (omega arith))
  none_emptied (e ∷ es) (suc place) past = ap (λ (xs : Nodes). e ∷ xs) (none_emptied es place (λ lt. past (omega arith)))

  pub keys_left : (es : Nodes) (place : ℕ) → keys_of (with_history_in place values es) ≡ keys_of es
  keys_left [] place = refl
  keys_left (e ∷ es) zero = refl
  keys_left (e ∷ es) (suc place) = ap (λ (ks : List NodeId). e.0 ∷ ks) (keys_left es place)

  length_left : (es : Nodes) (place : ℕ) → length (with_history_in place values es) ≡ length es
  length_left [] place = refl
  length_left (e ∷ es) zero = refl
  length_left (e ∷ es) (suc place) = ap suc (length_left es place)

  -- an id finds the same node, or the same with these values from before
  abbrev Left : Option Node → Option Node → Type 0
  Left now old = (now ≡ old) ⊎ ((node : Node) × (old ≡ Some node) × (now ≡ Some (record node { history = values })))

  found_left : (es : Nodes) (place : ℕ) (id : NodeId) → Left (node_at id (with_history_in place values es)) (node_at id es)
  found_left [] place id = inl refl
  found_left (e ∷ es) zero id =
      elim (cases_Bool (is_at (id_cmp id) e.0)) [
        | inl here ↦ inr (e.1, rw here refl, rw here refl)
        | inr apart ↦ inl (rw apart refl)
      ]
  found_left (e ∷ es) (suc place) id =
      elim (cases_Bool (is_at (id_cmp id) e.0)) [
        | inl here ↦ inl (rw here refl)
        | inr apart ↦ rw apart (found_left es place id)
      ]

  some_left : (now old : Option Node) → Left now old → is_some now ≡ is_some old
  some_left now old (inl same) = ap is_some same
  some_left now old (inr other) = ap is_some other.2 ∙ sym (ap is_some other.1)

  type_left : (now old : Option Node) → Left now old → is_reference_type now ≡ is_reference_type old
  type_left now old (inl same) = ap is_reference_type same
  type_left now old (inr other) = ap is_reference_type other.2 ∙ sym (ap is_reference_type other.1)

  some_same : {X : Type 0} (x y : X) → Some x ≡ Some y → x ≡ y
  some_same x y e = cc

  own_left : (now old : Option Node) (id : NodeId) (node : Node) → Left now old → ((x : Node) → old ≡ Some x → x.id ≡ id) → now ≡ Some node → node.id ≡ id
  own_left now old id node (inl same) own at = own node (sym same ∙ at)
  own_left now old id node (inr other) own at =
      let same : record other.0 { history = values } ≡ node = some_same (record other.0 { history = values }) node (sym other.2 ∙ at) in
      sym (ap (λ (n : Node). n.id) same) ∙ own other.0 other.1

  pub emptied_sound : (nodes : Nodes) (ts : List Triple) (place : ℕ) → IsSpace (record { nodes = nodes; triples = ts }) → IsSpace (record { nodes = with_history_in place values nodes; triples = ts })
  emptied_sound nodes ts place sound =
      let there : (id : NodeId) → is_some (node_at id (with_history_in place values nodes)) ≡ is_some (node_at id nodes) = λ id. some_left _ _ (found_left nodes place id) in
      let kind : (id : NodeId) → is_reference_type (node_at id (with_history_in place values nodes)) ≡ is_reference_type (node_at id nodes) = λ id. type_left _ _ (found_left nodes place id) in
      record {
        own_ids = λ id node at. own_left _ _ id node (found_left nodes place id) (λ x found. sound.own_ids id x found) at;
        ends = λ t h. rw (there t.source, there t.target, kind t.reference_type) (sound.ends t h);
        distinct = sound.distinct;
        no_loop = sound.no_loop;
        few_nodes = let few = sound.few_nodes in omega (arith, length_left nodes place, few);
        few_triples = sound.few_triples;
      }
