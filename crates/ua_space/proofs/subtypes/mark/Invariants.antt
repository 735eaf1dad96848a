use Rattle.std.proofs.Common.{◌≡◌, take}
use Rattle.ua_space.specs.Marks.{marked}
use Rattle.ua_space.specs.Numbers.{number_at}
use Rattle.ua_space.proofs.subtypes.mark.Given as goal

abbrev pub invariant-loop-place : goal.invariant-loop-place
invariant-loop-place g l = (l.marks, l.next) ≡ marked (number_at l.numbers.entries) (l.initial.marks, l.fn.next) (take l.place l.list)
