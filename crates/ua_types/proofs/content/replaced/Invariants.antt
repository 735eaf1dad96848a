use Rattle.std.proofs.Common.{◌≡◌, ◌+◌, ◌++◌, take, drop, length, vec_len}
use Rattle.std.specs.Vec.Iter.{into_iter_items}
use Rattle.ua_types.proofs.content.replaced.Given as goal

-- the elements so far stand in their places, and the rest is left
abbrev pub invariant-loop-element : goal.invariant-loop-element
invariant-loop-element g l = record {
  place : l.at ≡ l.from + length l.yielded;
  replaced : l.elements.items ≡ take l.from l.fn.whole.items ++ l.yielded ++ drop l.at l.fn.whole.items;
  len : vec_len l.elements ≡ vec_len l.fn.whole;
  left : l.yielded ++ into_iter_items l.element-iterator ≡ l.fn.part.items;
}
