use Rattle.std.proofs.Common.{◌≡◌, ◌∙◌, ap, subst, sym, append-nil}
use Rattle.std.specs.BTreeMap.Range.{entries_between, range_contains}
use Rattle.std.specs.List.Sorted.{IsStrictlySortedBy}
use Rattle.std.specs.Map.{keys_of}
use Rattle.std.specs.Ordering.{int_cmp}
use Rattle.collections.proofs.Reading.{same_between, sorted_of_some}
use Rattle.collections.specs.Laid.{joined}
use Rattle.collections.proofs.runs.Runs.between.Goals as goal

pub invariant_of-result : goal.invariant_of-result
invariant_of-result g c =
    let is : c.range.result ≡ entries_between int_cmp c.first_for-first.result c.args.high c.args.segments.now.entries = c.range.ensures.between tt in
    subst (λ l. IsStrictlySortedBy int_cmp (keys_of (joined l))) (sym is) (sorted_of_some (range_contains int_cmp c.first_for-first.result c.args.high) c.args.segments.now.entries c.requires.sorted)

pub returns : goal.returns
returns g c =
    let is : c.range.result ≡ entries_between int_cmp c.first_for-first.result c.args.high c.args.segments.now.entries = c.range.ensures.between tt in
    rw (c.none.ensures, c.none-2.ensures)
    (append-nil (entries_between int_cmp c.args.low c.args.high (joined c.range.result))
    ∙ ap (λ l. entries_between int_cmp c.args.low c.args.high (joined l)) is ∙ same_between c.args.low c.args.high c.first_for-first.result c.args.segments.now.entries c.requires.laid c.first_for-first.ensures.skips)
