-- Parts that are there where a bit says so.
use Rattle.std.proofs.Common.{◌≡◌, ℕ, ◌+◌, ◌*◌, ◌/◌, ◌%◌, ◌^◌, ◌<◌, Bool, true, false, eqb, List, ◌∷◌, ◌++◌, Option, Some, None, Ok, refl, ap, ◌∙◌, append_assoc, arith, inl, inr}
use Rattle.std.proofs.lemmas.Bool.{cases_eq, ne_eqb}
use Rattle.std.specs.Prelude.{is_some, IfSome, not}
use Rattle.std.specs.Int.{w32}
use Rattle.ua_types.specs.declared.node_id.NodeId.{NodeId}
use Rattle.ua_binary.specs.Reading.{IsReadAgain}
use Rattle.ua_binary.specs.Numbers.{number_reading}
use Rattle.ua_binary.specs.Texts.{text_reading}
use Rattle.ua_binary.specs.NodeIds.{after_form_reading, form_of, after_form_encoding}
use Rattle.ua_binary.specs.Parts.{where_set, text_unless_null, number_unless_0, flag}
use Rattle.ua_binary.specs.ExpandedNodeIds.{expanded_node_id_reading, expanded_node_id_encoding}
use Rattle.ua_binary.proofs.Again.{number32_again}

flag_small : (b : Bool) → flag b < 2
flag_small true = omega arith
flag_small false = omega arith

text_part : (o : Option (List ℕ)) (x : List ℕ) → IfSome o (λ _. (y : List ℕ) → text_reading (text_unless_null o ++ y) ≡ Ok (o, y))
    → where_set (flag (is_some o)) None text_reading (text_unless_null o ++ x) ≡ Ok (o, x)
text_part None x h = refl
text_part (Some t) x h = h x

zero_part : (n : ℕ) (x : List ℕ) → n ≡ 0 → where_set (flag (not (eqb n 0))) 0 (number_reading w32) (number_unless_0 n ++ x) ≡ Ok (n, x)
zero_part n x e = rw e refl

number_part : (n : ℕ) (x : List ℕ) → n < 2 ^ 32 → where_set (flag (not (eqb n 0))) 0 (number_reading w32) (number_unless_0 n ++ x) ≡ Ok (n, x)
number_part n x lt =
    elim (cases_eq n 0) [
      | inl same ↦ zero_part n x same
      | inr other ↦ rw (ne_eqb n 0 other) (number32_again n x lt)
    ]

pub expanded_again : (id : NodeId) (uri : Option (List ℕ)) (server : ℕ)
    → form_of id.namespace id.identifier < 6
    → ((y : List ℕ) → after_form_reading (form_of id.namespace id.identifier) (after_form_encoding id.namespace id.identifier ++ y) ≡ Ok (id, y))
    → IfSome uri (λ _. (y : List ℕ) → text_reading (text_unless_null uri ++ y) ≡ Ok (uri, y))
    → server < 2 ^ 32 → IsReadAgain expanded_node_id_reading expanded_node_id_encoding (record { node_id = id; namespace_uri = uri; server_index = server })
unfolding expanded_node_id_reading expanded_node_id_encoding
expanded_again id uri server small node named numbered x =
    let f = form_of id.namespace id.identifier in
    let a = flag (not (eqb server 0)) in
    let b = flag (is_some uri) in
    let a_small : a < 2 = flag_small (not (eqb server 0)) in
    let b_small : b < 2 = flag_small (is_some uri) in
    let form_is : (f + 64 * a + 128 * b) % 64 ≡ f = omega arith in
    let uri_is : (f + 64 * a + 128 * b) / 128 ≡ b = omega arith in
    let server_is : (f + 64 * a + 128 * b) / 64 % 2 ≡ a = omega arith in
    let after = after_form_encoding id.namespace id.identifier in
    let u = text_unless_null uri in
    let s = number_unless_0 server in
    let regrouped : ((after ++ u) ++ s) ++ x ≡ after ++ (u ++ (s ++ x)) = append_assoc (after ++ u) s x ∙ append_assoc after u (s ++ x) in
    ap (λ (r : List ℕ). expanded_node_id_reading ((f + 64 * a + 128 * b) ∷ r)) regrouped ∙ (rw (form_is, uri_is, server_is, node, text_part uri _ named, number_part server x numbered) refl)
