-- A byte that has the number of a type and flags.
use Rattle.std.proofs.Common.{◌≡◌, ◌≢◌, ◌⊎◌, inl, inr, ℕ, ◌+◌, ◌*◌, ◌/◌, ◌%◌, ◌<◌, ◌≤◌, List, [], ◌∷◌, Ok, arith}
use Rattle.std.proofs.lemmas.Result.{IfOk-at_ok}
use Rattle.ua_binary.specs.NodeIds.{SaysNumberOrGuid}
use Rattle.ua_binary.specs.Numbers.{byte_reading}
use Rattle.ua_binary.specs.Texts.{ClaimsTooMany}
use Rattle.ua_binary.specs.Variants.{ClaimsTooManyElements, IsPlainBehind, AnnouncesPlain}

pub number_is : (number flags : ℕ) → number < 64 → (number + 64 * flags) % 64 ≡ number
number_is number flags lt = omega arith

pub flags_are : (number flags : ℕ) → number < 64 → (number + 64 * flags) / 64 ≡ flags
flags_are number flags lt = omega arith

-- after the first byte stands the list's own claim
pub announced_claim : (bytes rest : List ℕ) (first : ℕ) → byte_reading bytes ≡ Ok (first, rest) → ClaimsTooManyElements bytes → (2 ≤ first / 64) × ClaimsTooMany rest
announced_claim [] rest first e claim = absurd claim
announced_claim (b ∷ bs) rest first e claim =
    let listed : 128 ≤ b = claim.0 in
    IfOk-at_ok (λ v. (2 ≤ v.0 / 64) × ClaimsTooMany v.1) e (omega arith, claim.1)

-- ---- what is plain

pub form_is_said : (bytes rest : List ℕ) (form : ℕ) → byte_reading bytes ≡ Ok (form, rest) → SaysNumberOrGuid bytes → (form ≢ 3) × (form ≢ 5)
form_is_said [] rest form e said = absurd said
form_is_said (b ∷ bs) rest form e said = IfOk-at_ok (λ v. (v.0 ≢ 3) × (v.0 ≢ 5)) e said

pub announced_plain : (bytes rest : List ℕ) (first : ℕ) → byte_reading bytes ≡ Ok (first, rest) → AnnouncesPlain bytes → IsPlainBehind (first % 64) (first / 64) rest
announced_plain [] rest first e said = absurd said
announced_plain (b ∷ bs) rest first e said = IfOk-at_ok (λ v. IsPlainBehind (v.0 % 64) (v.0 / 64) v.1) e said

-- a value is no list
pub plain_is_one : (number flags : ℕ) (bytes : List ℕ) → 1 ≤ number → IsPlainBehind number flags bytes → flags ≡ 0
unfolding IsPlainBehind
plain_is_one number flags bytes some plain = elim plain [ inl none ↦ omega (arith, none, some) | inr one ↦ one.0 ]

pub plain_sized : (number flags : ℕ) (bytes : List ℕ) → 12 ≤ number → number ≤ 16 → IsPlainBehind number flags bytes → (number ≡ 13) ⊎ (number ≡ 14)
unfolding IsPlainBehind
plain_sized number flags bytes least most plain =
    elim plain [
      | inl none ↦ absurd (omega (arith, none, least))
      | inr one ↦ elim one.1 [
        | inl sized ↦ elim sized [
          | inl low ↦ absurd (omega (arith, low, least))
          | inr more ↦ elim more [
            | inl moment ↦ inl moment
            | inr rest ↦ elim rest [ inl guid ↦ inr guid | inr status ↦ absurd (omega (arith, status, most)) ]
          ]
        ]
        | inr id ↦ absurd (omega (arith, id.0, most))
      ]
    ]

pub plain_named : (number flags : ℕ) (bytes : List ℕ) → 17 ≤ number → IsPlainBehind number flags bytes → (number ≡ 19) ⊎ ((number ≡ 17) × SaysNumberOrGuid bytes)
unfolding IsPlainBehind
plain_named number flags bytes least plain =
    elim plain [
      | inl none ↦ absurd (omega (arith, none, least))
      | inr one ↦ elim one.1 [
        | inl sized ↦ elim sized [
          | inl low ↦ absurd (omega (arith, low, least))
          | inr more ↦ elim more [
            | inl moment ↦ absurd (omega (arith, moment, least))
            | inr rest ↦ elim rest [ inl guid ↦ absurd (omega (arith, guid, least)) | inr status ↦ inl status ]
          ]
        ]
        | inr id ↦ inr id
      ]
    ]

pub never_plain : (number flags : ℕ) (bytes : List ℕ) → (number ≡ 18) ⊎ (number ≡ 21) ⊎ (number ≡ 22) → IsPlainBehind number flags bytes → ⊥
never_plain number flags bytes large plain =
    let least : 18 ≤ number = elim large [ inl a ↦ omega (arith, a) | inr more ↦ elim more [ inl b ↦ omega (arith, b) | inr d ↦ omega (arith, d) ] ] in
    elim (plain_named number flags bytes (omega (arith, least)) plain) [
      | inl status ↦ elim large [ inl a ↦ absurd (omega (arith, a, status)) | inr more ↦ elim more [ inl b ↦ absurd (omega (arith, b, status)) | inr d ↦ absurd (omega (arith, d, status)) ] ]
      | inr id ↦ absurd (omega (arith, id.0, least))
    ]
