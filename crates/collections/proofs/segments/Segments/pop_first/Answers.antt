use Rattle.std.proofs.Common.{◌≡◌, ◌∙◌, [], ◌∷◌, drop, sym, ap, subst, length, arith}
use Rattle.std.specs.List.Sorted.{IsStrictlySortedBy}
use Rattle.std.specs.Map.{keys_of}
use Rattle.std.specs.Ordering.{int_cmp}
use Rattle.collections.proofs.Ends.{first_there}
use Rattle.collections.proofs.Segmented.{sorted_right}
use Rattle.collections.specs.Laid.{joined}
use Rattle.collections.proofs.segments.Segments.pop_first.Goals as goal

pub invariant_of-self-2 : goal.invariant_of-self-2
invariant_of-self-2 g c =
    let all = joined c.self.inside.segments.entries in
    let there : all ≡ c.in_ok-first.first ∷ drop 1 all = first_there all c.in_ok-first.first (sym c.in_ok-first.ensures.first) in
    let taken : all ≡ c.in_ok-first.first ∷ joined c.take_first.new.segments.entries = there ∙ ap (λ l. c.in_ok-first.first ∷ l) (sym c.in_ok-first.ensures.rest) in
    let sizes = ap length taken in
    let len = c.self.invariant.2 in (
      c.in_ok-first.ensures.laid,
      sorted_right (c.in_ok-first.first ∷ []) (joined c.take_first.new.segments.entries) (subst (λ l. IsStrictlySortedBy int_cmp (keys_of l)) taken c.self.invariant.1),
      omega (arith, sizes, len),
    )
