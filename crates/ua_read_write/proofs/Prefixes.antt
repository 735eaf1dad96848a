-- What is written where memory runs out at a value.
use Rattle.std.proofs.Common.{◌≡◌, ◌⊎◌, inl, inr, List, [], ◌∷◌, ◌++◌, Result, Ok, Err, append_assoc, sym, ap, ◌∙◌}
use Rattle.std.proofs.lemmas.List.Sums.{fold-append}
use Rattle.std.specs.Result.{OnErr}
use Rattle.ua_types.specs.declared.moment.Moment.{Moment}
use Rattle.ua_service_messages.specs.declared.writing.WriteValue.{WriteValue}
use Rattle.ua_space.specs.Nodes.{Nodes}
use Rattle.ua_read_write.specs.Writing.{Writing, with_one, nothing_written, judged, nodes_after, write_of, WroteSome}

pub on_any : {T E P : Type 0} (r : Result T E) → P → OnErr r P
on_any (Ok x) p = tt
on_any (Err e) p = p

abbrev nodes_of : Writing → Nodes
nodes_of w = w.nodes

-- a value was written after others, or wasn't
pub wrote_some : (clock : Moment) (old new : Nodes) (before : Writing) (front rest values : List WriteValue) (w : WriteValue)
    → before ≡ write_of clock old front → front ++ w ∷ rest ≡ values
    → (new ≡ before.nodes) ⊎ (new ≡ nodes_after clock w (judged before.nodes w) before.nodes)
    → WroteSome clock old new values
wrote_some clock old new before front rest values w is whole (inl same) = (front, w ∷ rest, whole, same ∙ ap nodes_of is)
wrote_some clock old new before front rest values w is whole (inr more) =
    let one : with_one clock before w ≡ write_of clock old (front ++ w ∷ []) =
    ap (λ (b : Writing). with_one clock b w) is ∙ sym (fold-append (with_one clock) (nothing_written old) front (w ∷ [])) in
    (front ++ w ∷ [], rest, append_assoc front (w ∷ []) rest ∙ whole, more ∙ ap nodes_of one)
