use Rattle.std.proofs.Common.{◌≡◌, take}
use Rattle.std.specs.Vec.{vec_len}
use Rattle.ua_types.proofs.copyable.copy_all.Given as goal

-- the elements so far are copied
abbrev pub invariant-loop-item : goal.invariant-loop-item
invariant-loop-item g l = record {
  items : l.copies.items ≡ take l.item-index l.items;
  len : vec_len l.copies ≡ l.item-index;
}
