-- What is written into an object is read again.
use Rattle.std.proofs.Common.{◌≡◌, ℕ, List, [], Ok, eqb, eq-eqb, true, refl, sym, ap, ◌∙◌}
use Rattle.std.proofs.lemmas.List.{append-nil}
use Rattle.ua_binary.specs.Reading.{Reading, IsReadAgain}
use Rattle.ua_messages.specs.Structures.{structure_of, object_around}

pub structure_again : {A : Type 0} (reading : Reading A) (encoding : A → List ℕ) (type_id : ℕ) (v : A)
    → IsReadAgain reading encoding v → structure_of reading type_id (object_around type_id (encoding v)) ≡ Ok v
unfolding structure_of
structure_again reading encoding type_id v again =
    let one : reading (encoding v) ≡ Ok (v, []) = ap reading (sym (append-nil (encoding v))) ∙ again [] in
    let same : eqb type_id type_id ≡ true = eq-eqb type_id type_id refl in
    rw (same, one) refl
