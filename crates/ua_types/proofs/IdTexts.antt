-- What stands behind a front, what a number's digits are, and that the text of an id is read again.
use Rattle.std.proofs.Common.{◌≡◌, ℕ, suc, ◌+◌, ◌<◌, ◌≤◌, nat_lt, ◌^◌, ◌==◌, ◌↔◌, ◌⊎◌, true, false, List, [], ◌∷◌, ◌++◌, length, drop, codes, Option, Some, None, Result, Ok, Err, IsOk, Bor, MatchOption, refl, sym, ap, ◌∙◌, inl, inr, arith, rules, append_assoc, add-one}
use Rattle.std.proofs.lemmas.Bool.{cases_Bool, eqb-true, false≢true, and_parts}
use Rattle.std.proofs.lemmas.Bool.Decides.{nat_tests}
use Rattle.std.proofs.lemmas.Str.Parse.{IsNumeralModel, numerals_by_value, parse_digits}
use Rattle.std.proofs.lemmas.Result.{OkIff-at_err}
use Rattle.std.proofs.lemmas.List.{take_at}
use Rattle.std.proofs.lemmas.Fmt.{digits_decimal, decimal_nonempty, digits_value-decimal}
use borrow.Author.Tests.{ltb-true}
use Rattle.std.specs.Char.{is_ascii_digit}
use Rattle.std.specs.Fmt.{decimal}
use Rattle.std.specs.List.{list_all, position_or_len, before_first, after_first}
use Rattle.std.specs.Option.{option_copied}
use Rattle.std.specs.Str.Parse.{ParsesUnsigned, digits_value}
use Rattle.std.specs.Str.Pattern.{LacksTextAt, FindsTextPrefix}
use Rattle.hex.proofs.HexLemmas.{decode_of-encode_lower}
use Rattle.ua_types.specs.declared.node_id.NodeId.{NodeId}
use Rattle.ua_types.specs.declared.node_id.Identifier.{Identifier}
use Rattle.ua_types.specs.declared.node_id.Identifier.TheVariants.{Numeric, String, Guid, Opaque}
use Rattle.ua_types.specs.IdTexts.{behind, number_of, identifier_of, spaced, id_of, identifier_text, namespace_text, id_text, IsNamed, IsReadable}

behind_front : (n x : List ℕ) → behind n (n ++ x) ≡ Some x
behind_front [] x = refl
behind_front (c ∷ cs) x = let same : (c == c) ≡ true = search rules in rw same (behind_front cs x)

behind_some : (n s x : List ℕ) → behind n s ≡ Some x → s ≡ n ++ x
behind_some [] s x h = grind arith
behind_some (c ∷ cs) [] x h = cc h
behind_some (c ∷ cs) (d ∷ t) x h =
    elim (cases_Bool (c == d)) [
      | inl same ↦ let rest : behind cs t ≡ Some x = rw same at h in rw (sym (eqb-true c d same)) (ap (λ ys. c ∷ ys) (behind_some cs t x rest))
      | inr apart ↦ let none : None ≡ Some x = rw apart at h in cc none
    ]

none_or_some : (o : Option (List ℕ)) → (o ≡ None) ⊎ ((x : List ℕ) × (o ≡ Some x))
none_or_some None = inl refl
none_or_some (Some x) = inr (x, refl)

-- what std says of a front that is taken off
pub behind_is : (r : Option (Bor (List ℕ))) (n s : List ℕ) → MatchOption r (LacksTextAt n s 0) (λ x. (k : ℕ) × FindsTextPrefix n s (Some k) × (x.now ≡ drop k s) × (length x.now + k ≡ length s)) → option_copied r ≡ behind n s
behind_is None n s h =
    elim (none_or_some (behind n s)) [
      | inl none ↦ sym none
      | inr some ↦ absurd (h some.0 (behind_some n s some.0 some.1))
    ]
behind_is (Some x) n s h =
    let whole : s ≡ n ++ x.now = h.1.1 ∙ ap (λ ys. n ++ ys) (sym h.2) in
    rw whole (sym (behind_front n x.now))

-- digits by std's tests
own : IsNumeralModel (λ ds. list_all is_ascii_digit ds ≡ true) (digits_value 10)
own = numerals_by_value _ (search rules)

-- a text that no reader takes
pub not_read : {E : Type 0} (r : Result (List ℕ) E) (e : E) (o : Option (List ℕ)) → r ≡ Err e → (IsOk r ↔ ((u : List ℕ) × (o ≡ Some u))) → o ≡ None
not_read r e o is h =
    elim (none_or_some o) [
      | inl none ↦ none
      | inr some ↦ absurd (false≢true (let ok : IsOk r = h.1 some in rw is at ok))
    ]

pub number_misread : {E : Type 0} (r : Result ℕ E) (e : E) (ds : List ℕ) (limit : ℕ) → list_all is_ascii_digit ds ≡ true → ParsesUnsigned 64 10 ds r → r ≡ Err e → limit ≤ 2 ^ 64 → None ≡ number_of limit ds
number_misread r e ds limit digits h is small =
    let no = OkIff-at_err r _ _ e (parse_digits own 64 ds r h digits) is in
    elim (cases_Bool (nat_lt 0 (length ds))) [
      | inl some ↦ elim (cases_Bool (nat_lt (digits_value 10 ds) limit)) [
        | inl below ↦ absurd (no (ltb-true 0 (length ds) some, (let l = ltb-true (digits_value 10 ds) limit below in omega arith)))
        | inr above ↦ rw (digits, some, above) refl
      ]
      | inr none ↦ rw (digits, none) refl
    ]

-- ---- what is written is read again

decimal_again : (limit n : ℕ) → n < limit → limit ≤ 2 ^ 64 → number_of limit (decimal n) ≡ Some n
decimal_again limit n below small =
    let digits : list_all is_ascii_digit (decimal n) ≡ true = digits_decimal own n (omega arith) in
    let some : 0 < length (decimal n) = decimal_nonempty n (omega arith) in
    let value : digits_value 10 (decimal n) ≡ n = digits_value-decimal own n (omega arith) in
    let one : nat_lt 0 (length (decimal n)) ≡ true = grind (arith, nat_tests) in
    let two : nat_lt n limit ≡ true = grind (arith, nat_tests) in
    rw (digits, one, value, two) refl

-- a semicolon after digits is the first one
semicolon_place : (ds t : List ℕ) → list_all is_ascii_digit ds ≡ true → position_or_len (λ b. b == 59) (ds ++ 59 ∷ t) ≡ length ds
semicolon_place [] t h = refl
semicolon_place (d ∷ ds) t h =
    let parts = and_parts (is_ascii_digit d) (list_all is_ascii_digit ds) h in
    let here : is_ascii_digit d ≡ true = parts.0 in
    let other : (d == 59) ≡ false = grind (arith, nat_tests) in
    let ih = semicolon_place ds t parts.1 in
    rw (other, ih) (omega arith)

drop_past : (ds t : List ℕ) → drop (suc (length ds)) (ds ++ 59 ∷ t) ≡ t
drop_past [] t = refl
drop_past (d ∷ ds) t = drop_past ds t

spaced_again : (n : ℕ) (t : List ℕ) (i : Identifier) → n < 2 ^ 16 → identifier_of t ≡ Ok i → spaced (decimal n ++ 59 ∷ t) ≡ Ok (record { namespace = n; identifier = i })
unfolding spaced
spaced_again n t i small inner =
    let place = semicolon_place (decimal n) t (digits_decimal own n (omega arith)) in
    let front : before_first (λ b. b == 59) (decimal n ++ 59 ∷ t) ≡ decimal n = rw place (take_at (decimal n) (59 ∷ t) (length (decimal n)) refl) in
    let back : after_first (λ b. b == 59) (decimal n ++ 59 ∷ t) ≡ t = rw (place, add-one) (drop_past (decimal n) t) in
    let number = decimal_again (2 ^ 16) n small (omega arith) in
    rw (front, number, back, inner) refl

no_namespace : (i : Identifier) → behind (codes "ns=") (identifier_text i) ≡ None
no_namespace (Numeric n) = refl
no_namespace (String None) = refl
no_namespace (String (Some t)) = refl
no_namespace (Guid g) = refl
no_namespace (Opaque None) = refl
no_namespace (Opaque (Some bytes)) = refl

identifier_again : (i : Identifier) → IsNamed i → IsReadable i → identifier_of (identifier_text i) ≡ Ok i
unfolding identifier_of
identifier_again (Numeric n) named small = rw (decimal_again (2 ^ 32) n small (omega arith)) refl
identifier_again (String None) named _ = absurd named
identifier_again (String (Some t)) named small = let short : nat_lt (length t) (2 ^ 31) ≡ true = grind (arith, nat_tests) in rw short refl
identifier_again (Guid g) named parses = rw (sym parses.0, parses.1) refl
identifier_again (Opaque None) named _ = absurd named
identifier_again (Opaque (Some bytes)) named small =
    let few = small.0 in
    let short : nat_lt (length bytes) (2 ^ 31) ≡ true = grind (arith, nat_tests) in
    rw (decode_of-encode_lower bytes small.1, short) refl

namespaced : (n : ℕ) (t : List ℕ) → (n == 0) ≡ false → namespace_text n ++ t ≡ 110 ∷ 115 ∷ 61 ∷ (decimal n ++ 59 ∷ t)
namespaced n t some = rw some (ap (λ (xs : List ℕ). 110 ∷ 115 ∷ 61 ∷ xs) (append_assoc (decimal n) (59 ∷ []) t))

pub id_again : (id : NodeId) → id.namespace < 2 ^ 16 → IsNamed id.identifier → IsReadable id.identifier → id_of (id_text id) ≡ Ok id
unfolding id_of
id_again id small named readable =
    let inner = identifier_again id.identifier named readable in
    let none = no_namespace id.identifier in
    elim (cases_Bool (id.namespace == 0)) [
      | inl zero ↦
          let is : 0 ≡ id.namespace = sym (eqb-true id.namespace 0 zero) in
          rw (zero, none, inner) (λ k. Ok (record { namespace = is k; identifier = id.identifier }))
      | inr some ↦ ap id_of (namespaced id.namespace (identifier_text id.identifier) some) ∙ spaced_again id.namespace (identifier_text id.identifier) id.identifier small inner
    ]
