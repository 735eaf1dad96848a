use Rattle.std.proofs.Common.{◌≡◌, ◌++◌, All, take, length, ◌≤◌}
use Rattle.std.specs.List.{flat_map}
use Rattle.ua_binary.specs.Reading.{IsReadAgain}
use Rattle.ua_binary.proofs.arrays.write_all.Given as goal

-- the items so far are written, and each of them is read again
abbrev pub invariant-loop-item : goal.invariant-loop-item
invariant-loop-item g l = record {
  written : l.out.items ≡ l.fn.out.items ++ flat_map g.W.Written.encoding (take l.item-index l.items);
  some : l.item-index ≤ length (flat_map g.W.Written.encoding (take l.item-index l.items));
  again : All (IsReadAgain g.W.Written.reading g.W.Written.encoding) (take l.item-index l.items);
}
