use Rattle.std.proofs.Common.{◌≡◌, ◌-◌}
use Rattle.std.specs.Vec.{vec_len}
use Rattle.ua_binary.specs.Arrays.{elements_reading}
use Rattle.ua_binary.proofs.Elements.{with_front}
use Rattle.ua_binary.proofs.arrays.elements.Given as goal

-- the elements so far and those to come are those of the whole list
abbrev pub invariant-loop : goal.invariant-loop
invariant-loop g l =
    let reading = g.T.Wire.reading in
    record {
      read : with_front l.items.items (elements_reading reading (l.count - l.counter) l.cursor) ≡ elements_reading reading l.count l.fn.cursor;
      len : vec_len l.items ≡ l.counter;
    }
