-- The number that decimal digits name.
use Rattle.std.proofs.Common.{◌≡◌, ℕ, ◌^◌, nat_lt, true, List, length, None, Result, Err, inl, inr, refl, rules}
use Rattle.std.proofs.lemmas.Bool.{cases_Bool}
use Rattle.std.proofs.lemmas.Str.Parse.{IsNumeralModel, numerals_by_value, parse_digits}
use Rattle.std.proofs.lemmas.Result.{OkIff-at_err}
use borrow.Author.Tests.{ltb-true}
use Rattle.std.specs.Char.{is_ascii_digit}
use Rattle.std.specs.List.{list_all}
use Rattle.std.specs.Str.Parse.{ParsesUnsigned, digits_value}
use Rattle.command_line.specs.Words.{number_of}

own : IsNumeralModel (λ ds. list_all is_ascii_digit ds ≡ true) (digits_value 10)
own = numerals_by_value _ (search rules)

-- digits that std doesn't read as a number of 64 bits name none
pub misread : {E : Type 0} (r : Result ℕ E) (e : E) (ds : List ℕ) → list_all is_ascii_digit ds ≡ true → ParsesUnsigned 64 10 ds r → r ≡ Err e → None ≡ number_of ds
misread r e ds digits h is =
    let no = OkIff-at_err r _ _ e (parse_digits own 64 ds r h digits) is in
    elim (cases_Bool (nat_lt 0 (length ds))) [
      | inl some ↦ elim (cases_Bool (nat_lt (digits_value 10 ds) (2 ^ 64))) [
        | inl below ↦ absurd (no (ltb-true 0 (length ds) some, ltb-true (digits_value 10 ds) (2 ^ 64) below))
        | inr above ↦ rw (digits, some, above) refl
      ]
      | inr none ↦ rw (digits, none) refl
    ]
