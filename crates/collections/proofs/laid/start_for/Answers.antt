use Rattle.std.proofs.Common.{◌≡◌, ◌∙◌, rules, to_z, of_z, w64, FitsSigned, sym}
use Rattle.std.proofs.lemmas.Int.{to_z-of_z}
use Rattle.std.specs.BTreeMap.Range.{entries_between}
use Rattle.std.specs.Ordering.{int_cmp}
use Rattle.std.specs.declared.ops.Bound.TheVariants.{Included, Unbounded}
use Rattle.collections.proofs.Segmented.{none_up_to, last_up_to}
use Rattle.collections.proofs.laid.start_for.Goals as goal

pub returns-in-None : goal.returns-in-None
returns-in-None g c =
    let read : c.range-earlier.result ≡ entries_between int_cmp Unbounded (Included (to_z w64 (of_z w64 c.args.time))) c.args.segments.now.entries = c.range-earlier.ensures.between tt in
    let found = rw (to_z-of_z w64 c.args.time c.ranges.time) at read in
    none_up_to c.args.time c.args.segments.now.entries (sym found ∙ c.in-None.ensures.steps.0)

pub returns-in-Some : goal.returns-in-Some
returns-in-Some g c =
    let read : c.range-earlier.result ≡ entries_between int_cmp Unbounded (Included (to_z w64 (of_z w64 c.args.time))) c.args.segments.now.entries = c.range-earlier.ensures.between tt in
    let found = rw (to_z-of_z w64 c.args.time c.ranges.time) at read in
    let fits : FitsSigned w64 c.in-Some.start.now = search rules in
    rw (to_z-of_z w64 c.in-Some.start.now fits)
    (last_up_to c.args.time c.args.segments.now.entries c.next_back.new.self (c.in-Some.start.now, c.in-Some.field-0-1.now) c.range-earlier.ensures.ordered (sym found ∙ c.in-Some.ensures.steps))
