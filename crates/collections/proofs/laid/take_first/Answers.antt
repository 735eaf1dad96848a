use Rattle.std.proofs.Common.{◌≡◌, ◌∙◌, ◌<◌, ◌++◌, [], ◌∷◌, ℕ, Some, ap, subst, sym, w64, true, eqb, FitsSigned, rules, drop, length}
use Rattle.std.proofs.lemmas.Int.{to_z-of_z}
use Rattle.std.specs.Option.{option_to_list}
use Rattle.collections.proofs.Ends.{first_there, rest_there, first_set, first_found, rest_laid, first_joined, first_emptied, first_laid, first_some, taken_first, taken_rest, some_left, none_left}
use Rattle.collections.specs.Laid.{joined, IsLaid}
use Rattle.collections.proofs.laid.take_first.Goals as goal

pub unreachable-requires : goal.unreachable-requires
unreachable-requires g c =
    let start = c.in-Some.start.now in
    let fits : FitsSigned w64 start = search rules in
    let is = rw (to_z-of_z w64 start fits) at c.in_default-get_mut.ensures.value in
    let first = first_there c.args.segments.now.entries (start, c.in-Some.field-0-1.now) c.in-Some.ensures.first in
    let there = first_found start c.in-Some.field-0-1.now c.args.segments.now.entries (drop 1 c.args.segments.now.entries) first in
    cc

pub returns-then-is_empty-clause-first : goal.returns-then-is_empty-clause-first
returns-then-is_empty-clause-first g c =
    let start = c.in-Some.start.now in
    let all = c.args.segments.now.entries in
    let q = c.in-Some-get_mut.segment.now in
    let p = c.pop_front-first.new.self in
    let fits : FitsSigned w64 start = search rules in
    let is = rw (to_z-of_z w64 start fits) at c.in-Some-get_mut.ensures.value in
    let set = rw (to_z-of_z w64 start fits) at (c.get_mut.follows.holds p).0 in
    let there = first_there all (start, c.in-Some.field-0-1.now) c.in-Some.ensures.first in
    let found = first_found start c.in-Some.field-0-1.now all (drop 1 all) there in
    let same : c.in-Some.field-0-1.now ≡ q = let both : Some c.in-Some.field-0-1.now ≡ Some q = sym found ∙ sym is in cc in
    let first : all ≡ (start, q) ∷ drop 1 all = there ∙ ap (λ x. (start, x) ∷ drop 1 all) same in
    let items = c.pop_front-first.ensures.items in
    let at = set ∙ first_set start q p all (drop 1 all) first (option_to_list c.pop_front-first.result) items c.requires in
    let rest = rest_there c.pop_first.result (start, p) _ (drop 1 all) c.pop_first.new.self.entries at c.pop_first.ensures.removal c.pop_first.ensures.variant.1 in
    let none : p.items ≡ [] = none_left p.items (subst (λ (n : ℕ). eqb n 0 ≡ true) p.ok.0 (sym c.is_empty.ensures ∙ c.if-is_empty.true)) in
    let taken = first_emptied start q p all (drop 1 all) first (option_to_list c.pop_front-first.result) items c.requires none ∙ ap (λ l. option_to_list c.pop_front-first.result ++ joined l) (sym rest) in
    let got = c.pop_front-first.ensures.variant.1 (subst (λ (n : ℕ). 0 < n) (sym q.ok.0) (first_some start q p all (drop 1 all) first (option_to_list c.pop_front-first.result) items c.requires)) in
    taken_first c.pop_front-first.result _ _ taken got

pub returns-then-is_empty-clause-rest : goal.returns-then-is_empty-clause-rest
returns-then-is_empty-clause-rest g c =
    let start = c.in-Some.start.now in
    let all = c.args.segments.now.entries in
    let q = c.in-Some-get_mut.segment.now in
    let p = c.pop_front-first.new.self in
    let fits : FitsSigned w64 start = search rules in
    let is = rw (to_z-of_z w64 start fits) at c.in-Some-get_mut.ensures.value in
    let set = rw (to_z-of_z w64 start fits) at (c.get_mut.follows.holds p).0 in
    let there = first_there all (start, c.in-Some.field-0-1.now) c.in-Some.ensures.first in
    let found = first_found start c.in-Some.field-0-1.now all (drop 1 all) there in
    let same : c.in-Some.field-0-1.now ≡ q = let both : Some c.in-Some.field-0-1.now ≡ Some q = sym found ∙ sym is in cc in
    let first : all ≡ (start, q) ∷ drop 1 all = there ∙ ap (λ x. (start, x) ∷ drop 1 all) same in
    let items = c.pop_front-first.ensures.items in
    let at = set ∙ first_set start q p all (drop 1 all) first (option_to_list c.pop_front-first.result) items c.requires in
    let rest = rest_there c.pop_first.result (start, p) _ (drop 1 all) c.pop_first.new.self.entries at c.pop_first.ensures.removal c.pop_first.ensures.variant.1 in
    let none : p.items ≡ [] = none_left p.items (subst (λ (n : ℕ). eqb n 0 ≡ true) p.ok.0 (sym c.is_empty.ensures ∙ c.if-is_empty.true)) in
    let taken = first_emptied start q p all (drop 1 all) first (option_to_list c.pop_front-first.result) items c.requires none ∙ ap (λ l. option_to_list c.pop_front-first.result ++ joined l) (sym rest) in
    let got = c.pop_front-first.ensures.variant.1 (subst (λ (n : ℕ). 0 < n) (sym q.ok.0) (first_some start q p all (drop 1 all) first (option_to_list c.pop_front-first.result) items c.requires)) in
    taken_rest c.pop_front-first.result _ _ taken got

pub returns-then-is_empty-clause-laid : goal.returns-then-is_empty-clause-laid
returns-then-is_empty-clause-laid g c =
    let start = c.in-Some.start.now in
    let all = c.args.segments.now.entries in
    let q = c.in-Some-get_mut.segment.now in
    let p = c.pop_front-first.new.self in
    let fits : FitsSigned w64 start = search rules in
    let is = rw (to_z-of_z w64 start fits) at c.in-Some-get_mut.ensures.value in
    let set = rw (to_z-of_z w64 start fits) at (c.get_mut.follows.holds p).0 in
    let there = first_there all (start, c.in-Some.field-0-1.now) c.in-Some.ensures.first in
    let found = first_found start c.in-Some.field-0-1.now all (drop 1 all) there in
    let same : c.in-Some.field-0-1.now ≡ q = let both : Some c.in-Some.field-0-1.now ≡ Some q = sym found ∙ sym is in cc in
    let first : all ≡ (start, q) ∷ drop 1 all = there ∙ ap (λ x. (start, x) ∷ drop 1 all) same in
    let items = c.pop_front-first.ensures.items in
    let at = set ∙ first_set start q p all (drop 1 all) first (option_to_list c.pop_front-first.result) items c.requires in
    let rest = rest_there c.pop_first.result (start, p) _ (drop 1 all) c.pop_first.new.self.entries at c.pop_first.ensures.removal c.pop_first.ensures.variant.1 in
    subst IsLaid (sym rest) (rest_laid start q p all (drop 1 all) first (option_to_list c.pop_front-first.result) items c.requires)

pub returns-else-is_empty-clause-first : goal.returns-else-is_empty-clause-first
returns-else-is_empty-clause-first g c =
    let start = c.in-Some.start.now in
    let all = c.args.segments.now.entries in
    let q = c.in-Some-get_mut.segment.now in
    let p = c.pop_front-first.new.self in
    let fits : FitsSigned w64 start = search rules in
    let is = rw (to_z-of_z w64 start fits) at c.in-Some-get_mut.ensures.value in
    let set = rw (to_z-of_z w64 start fits) at (c.get_mut.follows.holds p).0 in
    let there = first_there all (start, c.in-Some.field-0-1.now) c.in-Some.ensures.first in
    let found = first_found start c.in-Some.field-0-1.now all (drop 1 all) there in
    let same : c.in-Some.field-0-1.now ≡ q = let both : Some c.in-Some.field-0-1.now ≡ Some q = sym found ∙ sym is in cc in
    let first : all ≡ (start, q) ∷ drop 1 all = there ∙ ap (λ x. (start, x) ∷ drop 1 all) same in
    let items = c.pop_front-first.ensures.items in
    let at = set ∙ first_set start q p all (drop 1 all) first (option_to_list c.pop_front-first.result) items c.requires in
    let taken = first_joined start q p all (drop 1 all) first (option_to_list c.pop_front-first.result) items c.requires ∙ ap (λ l. option_to_list c.pop_front-first.result ++ joined l) (sym at) in
    let got = c.pop_front-first.ensures.variant.1 (subst (λ (n : ℕ). 0 < n) (sym q.ok.0) (first_some start q p all (drop 1 all) first (option_to_list c.pop_front-first.result) items c.requires)) in
    taken_first c.pop_front-first.result _ _ taken got

pub returns-else-is_empty-clause-rest : goal.returns-else-is_empty-clause-rest
returns-else-is_empty-clause-rest g c =
    let start = c.in-Some.start.now in
    let all = c.args.segments.now.entries in
    let q = c.in-Some-get_mut.segment.now in
    let p = c.pop_front-first.new.self in
    let fits : FitsSigned w64 start = search rules in
    let is = rw (to_z-of_z w64 start fits) at c.in-Some-get_mut.ensures.value in
    let set = rw (to_z-of_z w64 start fits) at (c.get_mut.follows.holds p).0 in
    let there = first_there all (start, c.in-Some.field-0-1.now) c.in-Some.ensures.first in
    let found = first_found start c.in-Some.field-0-1.now all (drop 1 all) there in
    let same : c.in-Some.field-0-1.now ≡ q = let both : Some c.in-Some.field-0-1.now ≡ Some q = sym found ∙ sym is in cc in
    let first : all ≡ (start, q) ∷ drop 1 all = there ∙ ap (λ x. (start, x) ∷ drop 1 all) same in
    let items = c.pop_front-first.ensures.items in
    let at = set ∙ first_set start q p all (drop 1 all) first (option_to_list c.pop_front-first.result) items c.requires in
    let taken = first_joined start q p all (drop 1 all) first (option_to_list c.pop_front-first.result) items c.requires ∙ ap (λ l. option_to_list c.pop_front-first.result ++ joined l) (sym at) in
    let got = c.pop_front-first.ensures.variant.1 (subst (λ (n : ℕ). 0 < n) (sym q.ok.0) (first_some start q p all (drop 1 all) first (option_to_list c.pop_front-first.result) items c.requires)) in
    taken_rest c.pop_front-first.result _ _ taken got

pub returns-else-is_empty-clause-laid : goal.returns-else-is_empty-clause-laid
returns-else-is_empty-clause-laid g c =
    let start = c.in-Some.start.now in
    let all = c.args.segments.now.entries in
    let q = c.in-Some-get_mut.segment.now in
    let p = c.pop_front-first.new.self in
    let fits : FitsSigned w64 start = search rules in
    let is = rw (to_z-of_z w64 start fits) at c.in-Some-get_mut.ensures.value in
    let set = rw (to_z-of_z w64 start fits) at (c.get_mut.follows.holds p).0 in
    let there = first_there all (start, c.in-Some.field-0-1.now) c.in-Some.ensures.first in
    let found = first_found start c.in-Some.field-0-1.now all (drop 1 all) there in
    let same : c.in-Some.field-0-1.now ≡ q = let both : Some c.in-Some.field-0-1.now ≡ Some q = sym found ∙ sym is in cc in
    let first : all ≡ (start, q) ∷ drop 1 all = there ∙ ap (λ x. (start, x) ∷ drop 1 all) same in
    let items = c.pop_front-first.ensures.items in
    let at = set ∙ first_set start q p all (drop 1 all) first (option_to_list c.pop_front-first.result) items c.requires in
    let some : 0 < length p.items = subst (λ (n : ℕ). 0 < n) p.ok.0 (some_left _ (sym c.is_empty.ensures ∙ c.if-is_empty.false)) in
    subst IsLaid (sym at) (first_laid start q p all (drop 1 all) first (option_to_list c.pop_front-first.result) items c.requires some)
