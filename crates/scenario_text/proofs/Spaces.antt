-- What stands behind a space at the front.
use Rattle.std.proofs.Common.{◌≡◌, ℕ, ◌<◌, ◌==◌, List, [], ◌∷◌, length, codes, Some, None, refl, inl, inr, arith}
use Rattle.std.proofs.lemmas.Bool.{cases_Bool}
use Rattle.ua_types.specs.IdTexts.{behind}
use Rattle.scenario_text.specs.Words.{past_spaces}

pub past_one : (t x : List ℕ) → Some x ≡ behind (codes " ") t → past_spaces t ≡ past_spaces x
past_one [] x h = cc h
past_one (c ∷ cs) x h =
    elim (cases_Bool (32 == c)) [
      | inl same ↦ let found : Some x ≡ Some cs = rw same at h in let is : x ≡ cs = cc found in rw (same, is) refl
      | inr apart ↦ let none : Some x ≡ None = rw apart at h in cc none
    ]

pub past_none : (t : List ℕ) → None ≡ behind (codes " ") t → past_spaces t ≡ t
past_none [] h = refl
past_none (c ∷ cs) h =
    elim (cases_Bool (32 == c)) [
      | inl same ↦ let found : None ≡ Some cs = rw same at h in cc found
      | inr apart ↦ rw apart refl
    ]

pub past_shorter : (t x : List ℕ) → Some x ≡ behind (codes " ") t → length x < length t
past_shorter [] x h = cc h
past_shorter (c ∷ cs) x h =
    elim (cases_Bool (32 == c)) [
      | inl same ↦ let found : Some x ≡ Some cs = rw same at h in let is : x ≡ cs = cc found in rw is (omega arith)
      | inr apart ↦ let none : Some x ≡ None = rw apart at h in cc none
    ]
