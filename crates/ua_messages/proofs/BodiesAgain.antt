-- What is written as a body is read again.
use Rattle.std.proofs.Common.{◌≡◌, ℕ, List, [], ◌++◌, Ok, refl, sym, ap, ◌∙◌}
use Rattle.std.proofs.lemmas.List.{append-nil}
use Rattle.ua_types.specs.declared.node_id.NodeId.{NodeId}
use Rattle.ua_types.specs.NodeIds.{numeric_id}
use Rattle.ua_binary.specs.Reading.{Reading, IsReadAgain}
use Rattle.ua_binary.specs.NodeIds.{node_id_reading, node_id_encoding}
use Rattle.ua_messages.specs.Bodies.{message_of, message_id_of}

pub message_again : {A : Type 0} (reading : Reading A) (encoding : A → List ℕ) (id : NodeId) (v : A)
    → IsReadAgain node_id_reading node_id_encoding id → IsReadAgain reading encoding v
    → message_of reading (node_id_encoding id ++ encoding v) ≡ Ok v
unfolding message_of
message_again reading encoding id v h k =
    let one : reading (encoding v) ≡ Ok (v, []) = ap reading (sym (append-nil (encoding v))) ∙ k [] in
    rw (h (encoding v), one) refl

pub id_again : (type_id : ℕ) (rest : List ℕ)
    → IsReadAgain node_id_reading node_id_encoding (numeric_id 0 type_id)
    → message_id_of (node_id_encoding (numeric_id 0 type_id) ++ rest) ≡ Ok type_id
unfolding message_id_of
id_again type_id rest h = rw (h rest) refl
