-- What is written as a body is read again, whole.
use Rattle.std.proofs.Common.{◌≡◌, ℕ, List, [], ◌++◌, Ok, refl, sym, ap, ◌∙◌}
use Rattle.std.proofs.lemmas.List.{append-nil}
use Rattle.ua_types.specs.NodeIds.{numeric_id}
use Rattle.ua_binary.specs.Reading.{Reading, IsReadAgain}
use Rattle.ua_binary.specs.NodeIds.{node_id_reading, node_id_encoding}
use Rattle.scenario_text.specs.Bodies.{identified, IsWholeBody}

pub whole_again : {A : Type 0} (reading : Reading A) (encoding : A → List ℕ) (type_id : ℕ) (v : A)
    → IsReadAgain node_id_reading node_id_encoding (numeric_id 0 type_id) → IsReadAgain reading encoding v
    → IsWholeBody reading type_id v (node_id_encoding (numeric_id 0 type_id) ++ encoding v)
unfolding identified
whole_again reading encoding type_id v h k =
    let one : reading (encoding v) ≡ Ok (v, []) = ap reading (sym (append-nil (encoding v))) ∙ k [] in
    rw (h (encoding v), one) refl
