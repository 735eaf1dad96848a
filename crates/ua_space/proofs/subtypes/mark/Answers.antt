use Rattle.std.proofs.Common.{ℕ, Bool, List, length, take, sym, ap, ◌∙◌, arith}
use Rattle.ua_space.specs.Numbers.{number_at}
use Rattle.ua_space.proofs.Places.{none_past}
use Rattle.ua_space.proofs.Marking.{marked_length, marked_more, marked_none, mark_unknown, mark_old, mark_new}
use Rattle.ua_space.proofs.subtypes.mark.Goals as goal
use Rattle.ua_space.proofs.subtypes.mark.Goals.{in-None, in-Some+in-None-get, in-Some+in-Some-get+then-not-has, in-Some+in-Some-get+else-not-has}

pub loop-place-init : goal.loop-place-init
loop-place-init g c = marked_none (number_at c.args.numbers.now.entries) (c.args.marks.now, c.args.next)

pub has-requires : goal.has-requires
has-requires g c =
    let number = number_at c.args.numbers.now.entries in
    let same = ap (λ (s : List Bool × ℕ). length s.0) c.loop-place.invariant ∙ marked_length number (c.args.marks.now, c.args.next) (take c.loop-place.place c.args.list.now) in
    omega (arith, same, c.requires.numbered c.in-Some.triple.now.source c.in-Some-get.number.now (sym c.in-Some-get.ensures.value))

pub add-requires : goal.add-requires
add-requires g c =
    let number = number_at c.args.numbers.now.entries in
    let same = ap (λ (s : List Bool × ℕ). length s.0) c.loop-place.invariant ∙ marked_length number (c.args.marks.now, c.args.next) (take c.loop-place.place c.args.list.now) in
    omega (arith, same, c.requires.numbered c.in-Some.triple.now.source c.in-Some-get.number.now (sym c.in-Some-get.ensures.value))

pub overflow_add-number : goal.overflow_add-number
overflow_add-number g c =
    let number = number_at c.args.numbers.now.entries in
    let same = ap (λ (s : List Bool × ℕ). length s.0) c.loop-place.invariant ∙ marked_length number (c.args.marks.now, c.args.next) (take c.loop-place.place c.args.list.now) in
    omega (arith, same, c.requires.fits, c.requires.numbered c.in-Some.triple.now.source c.in-Some-get.number.now (sym c.in-Some-get.ensures.value))

pub loop-place-preserved : goal.loop-place-preserved
loop-place-preserved g c =
    let number = number_at c.args.numbers.now.entries in
    let start : List Bool × ℕ = (c.args.marks.now, c.args.next) in
    let now : List Bool × ℕ = (c.loop-place.marks, c.loop-place.next) in
    elim c.match-get.branch [
      | in-None w ↦ absurd (none_past c.args.list.now c.loop-place.place w.in-None.ensures (omega (arith, c.len-place-end.ensures, c.loop-place-test.true)))
      | in-Some+in-None-get w ↦
          rw (w.marks-is, w.next-is)
          (sym (mark_unknown now (number w.in-Some.triple.now.source) w.in-None-get.ensures.value)
          ∙ marked_more number start now c.args.list.now c.loop-place.place w.in-Some.triple.now c.loop-place.invariant w.in-Some.ensures)
      | in-Some+in-Some-get+then-not-has w ↦
          rw (w.marks-is, w.next-is, w.add.ensures, w.max-next.ensures)
          (sym (mark_new now (number w.in-Some.triple.now.source) w.in-Some-get.number.now w.in-Some-get.ensures.value (sym w.has.ensures ∙ w.if-not-has.true))
          ∙ marked_more number start now c.args.list.now c.loop-place.place w.in-Some.triple.now c.loop-place.invariant w.in-Some.ensures)
      | in-Some+in-Some-get+else-not-has w ↦
          rw (w.marks-is, w.next-is)
          (sym (mark_old now (number w.in-Some.triple.now.source) w.in-Some-get.number.now w.in-Some-get.ensures.value (sym w.has.ensures ∙ w.if-not-has.false))
          ∙ marked_more number start now c.args.list.now c.loop-place.place w.in-Some.triple.now c.loop-place.invariant w.in-Some.ensures)
    ]
