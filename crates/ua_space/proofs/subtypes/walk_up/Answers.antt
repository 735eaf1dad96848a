use Rattle.std.proofs.Common.{◌≡◌, ◌-◌, ◌+◌, ◌*◌, Some, ◌<◌, ◌≤◌, ℕ, Bool, List, false, filter, length, suc, sym, ap, subst, ◌∙◌, arith}
use Rattle.std.proofs.lemmas.Bool.{false≢true}
use Rattle.ua_types.specs.declared.node_id.NodeId.{NodeId}
use Rattle.ua_space.specs.Indexes.{stands_under}
use Rattle.ua_space.specs.declared.index.Key.TheVariants as keys
use Rattle.ua_space.specs.Marks.{is_marked, marked}
use Rattle.ua_space.specs.Numbers.{number_at}
use Rattle.ua_space.proofs.Marking.{Climbed, climb_begins, climb_passes, climb_goes_on, climb_ends, marked_fewer, marked_length, unmarked, number_below}
use Rattle.ua_space.proofs.Places.{get_there}
use Rattle.ua_space.proofs.subtypes.walk_up.Goals as goal
use Rattle.ua_space.proofs.subtypes.walk_up.Goals.{then-loop-next-test+else-not-has, else-loop-next-test}

one_less : (u v a b : ℕ) → u + a ≤ v + (b - 1) → 0 < b → u + a < v + b
one_less u v a b le lt = omega arith

pub mark-next-requires : goal.mark-next-requires
mark-next-requires g c = (search, (λ id n e. omega (arith, number_below c.args.numbering.now.types.items c.args.numbering.now.numbers.entries id n c.requires.numbered.each e, c.requires.enough), c.requires.fits))

pub loop-next-init : goal.loop-next-init
loop-next-init g c =
    let ts = c.args.triples.now in
    let types = c.args.numbering.now.types.items in
    let numbers = c.args.numbering.now.numbers.entries in
    let P : List Bool × ℕ → Type 0 = λ r. Climbed ts types numbers c.args.lower.now r.0 r.1 in
    let len = ap (λ (r : List Bool × ℕ). length r.0) c.mark-next.ensures ∙ marked_length (number_at numbers) (c.args.marks.now, 0) c.above.result in (
      subst P (sym (c.mark-next.ensures ∙ ap (marked (number_at numbers) (c.args.marks.now, 0)) c.above.ensures))
          (climb_begins ts types numbers c.args.lower.now c.args.marks.now c.requires.numbered c.requires.enough c.requires.unmarked),
      omega (arith, len, c.requires.fits),
    )

pub has-requires-in-loop-next : goal.has-requires-in-loop-next
has-requires-in-loop-next g c = omega (arith, c.loop-next.invariant.0.low, c.loop-next.invariant.0.size, c.loop-next-test.true)

pub index-requires : goal.index-requires
index-requires g c = omega (arith, c.loop-next.invariant.0.low, c.loop-next-test.true, c.args.numbering.now.types.ok.0)

pub mark-next-requires-then-has : goal.mark-next-requires-then-has
mark-next-requires-then-has g c = (search, (λ id n e. omega (arith, number_below c.args.numbering.now.types.items c.args.numbering.now.numbers.entries id n c.requires.numbered.each e, c.loop-next.invariant.0.size), c.loop-next.invariant.1))

pub loop-next-smaller-then-has : goal.loop-next-smaller-then-has
loop-next-smaller-then-has g c =
    let types = c.args.numbering.now.types.items in
    let numbers = c.args.numbering.now.numbers.entries in
    let n = c.loop-next.next - 1 in
    let k = suc (length types) in
    let few : (id : NodeId) (m : ℕ) → number_at numbers id ≡ Some m → (m < length c.loop-next.marks) × (m < k) = λ id m e.
    let lt = number_below types numbers id m c.requires.numbered.each e in (omega (arith, lt, c.loop-next.invariant.0.size), omega (arith, lt)) in
    let fewer = marked_fewer (number_at numbers) (c.loop-next.marks, n) (filter (stands_under keys.Subtype c.index.result.now) c.args.triples.now) k few in
    let P : List Bool × ℕ → Type 0 = λ r. unmarked r.0 * k + r.1 ≤ unmarked c.loop-next.marks * k + n in
    let after = subst P (sym (c.mark-next-then-has.ensures ∙ ap (marked (number_at numbers) (c.loop-next.marks, n)) c.above-list.ensures)) fewer in
    one_less (unmarked c.mark-next-then-has.new.marks * k) (unmarked c.loop-next.marks * k) c.mark-next-then-has.result c.loop-next.next after c.loop-next-test.true

pub loop-next-preserved-then-has : goal.loop-next-preserved-then-has
loop-next-preserved-then-has g c =
    let ts = c.args.triples.now in
    let types = c.args.numbering.now.types.items in
    let numbers = c.args.numbering.now.numbers.entries in
    let lower = c.args.lower.now in
    let x = c.index.result.now in
    let n = c.loop-next.next - 1 in
    let P : List Bool × ℕ → Type 0 = λ r. Climbed ts types numbers lower r.0 r.1 in
    let len = ap (λ (r : List Bool × ℕ). length r.0) c.mark-next-then-has.ensures ∙ marked_length (number_at numbers) (c.loop-next.marks, n) c.above-list.result in (
      subst P (sym (c.mark-next-then-has.ensures ∙ ap (marked (number_at numbers) (c.loop-next.marks, n)) c.above-list.ensures))
          (climb_goes_on ts types numbers lower x c.loop-next.marks c.loop-next.next c.requires.numbered c.loop-next.invariant.0 c.loop-next-test.true (sym c.has-in-loop-next.ensures ∙ c.if-has.true)
          (get_there types n x (omega (arith, c.loop-next.invariant.0.low, c.loop-next-test.true)) c.index.ensures)),
      omega (arith, len, c.loop-next.invariant.1),
    )

pub loop-next-preserved : goal.loop-next-preserved
loop-next-preserved g c =
    (climb_passes c.args.triples.now c.args.numbering.now.types.items c.args.numbering.now.numbers.entries c.args.lower.now c.loop-next.marks c.loop-next.next c.loop-next.invariant.0 c.loop-next-test.true (sym c.has-in-loop-next.ensures ∙ c.if-has.false), c.loop-next.invariant.1)

pub returns : goal.returns
returns g c =
    let marks = c.loop-next.marks in
    let over : is_marked marks c.args.upper ≡ false → c.loop-next.next ≡ 0 = λ none.
    elim c.loop-next-test.branch [
      | then-loop-next-test+else-not-has w ↦ absurd (false≢true (sym none ∙ sym w.has.ensures ∙ w.if-not-has.false))
      | else-loop-next-test w ↦ omega (arith, w.loop-next-test.false)
    ] in
    λ id e apart. c.has-2.ensures ∙ climb_ends c.args.triples.now c.args.numbering.now.types.items c.args.numbering.now.numbers.entries c.args.lower.now id marks c.loop-next.next c.args.upper c.loop-next.invariant.0 e apart over
