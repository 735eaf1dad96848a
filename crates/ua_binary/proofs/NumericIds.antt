-- Ids that are numbers are read again, in whichever form they are written.
use Rattle.std.proofs.Common.{◌≡◌, ℕ, ◌^◌, ◌<◌, ◌&&◌, ◌==◌, nat_lt, true, false, ◌++◌, Ok, refl, sym, ap, inl, inr, append_assoc}
use Rattle.std.specs.Int.{w16, w32}
use Rattle.std.proofs.lemmas.Bool.{cases_Bool, and_parts, eqb-true, ltb-true}
use Rattle.ua_types.specs.NodeIds.{numeric_id}
use Rattle.ua_binary.specs.Reading.{IsReadAgain}
use Rattle.ua_binary.specs.Numbers.{number_encoding}
use Rattle.ua_binary.specs.NodeIds.{node_id_reading, after_form_reading, node_id_encoding}
use Rattle.ua_binary.proofs.Again.{number16_again, number32_again}

module _ (namespace n : ℕ) where
  in_two : (namespace == 0 && nat_lt n (2 ^ 8)) ≡ true → IsReadAgain node_id_reading node_id_encoding (numeric_id namespace n)
  unfolding node_id_reading node_id_encoding after_form_reading
  in_two two x =
      let zero = eqb-true namespace 0 (and_parts (namespace == 0) (nat_lt n (2 ^ 8)) two).0 in
      rw two (ap (λ (m : ℕ). Ok (numeric_id m n, x)) (sym zero))

  in_four : n < 2 ^ 16 → (namespace == 0 && nat_lt n (2 ^ 8)) ≡ false → (nat_lt namespace (2 ^ 8) && nat_lt n (2 ^ 16)) ≡ true → IsReadAgain node_id_reading node_id_encoding (numeric_id namespace n)
  unfolding node_id_reading node_id_encoding after_form_reading
  in_four fits not_two four x = rw (not_two, four, number16_again n x fits) refl

  in_seven : namespace < 2 ^ 16 → n < 2 ^ 32 → (namespace == 0 && nat_lt n (2 ^ 8)) ≡ false → (nat_lt namespace (2 ^ 8) && nat_lt n (2 ^ 16)) ≡ false → IsReadAgain node_id_reading node_id_encoding (numeric_id namespace n)
  unfolding node_id_reading node_id_encoding after_form_reading
  in_seven namespace_fits fits not_two not_four x =
      rw (not_two, not_four, append_assoc (number_encoding w16 namespace) (number_encoding w32 n) x, number16_again namespace (number_encoding w32 n ++ x) namespace_fits, number32_again n x fits) refl

  pub numeric_again : namespace < 2 ^ 16 → n < 2 ^ 32 → IsReadAgain node_id_reading node_id_encoding (numeric_id namespace n)
  numeric_again namespace_fits fits =
      elim (cases_Bool (namespace == 0 && nat_lt n (2 ^ 8))) [
        | inl two ↦ in_two two
        | inr not_two ↦
            elim (cases_Bool (nat_lt namespace (2 ^ 8) && nat_lt n (2 ^ 16))) [
              | inl four ↦ in_four (ltb-true n (2 ^ 16) (and_parts (nat_lt namespace (2 ^ 8)) (nat_lt n (2 ^ 16)) four).1) not_two four
              | inr not_four ↦ in_seven namespace_fits fits not_two not_four
            ]
      ]
