use Rattle.std.proofs.Common.{◌≡◌, ◌++◌}
use Rattle.std.specs.Map.{keys_of}
use Rattle.collections.proofs.slots.keys_of.Given as goal

-- the keys so far and those of what is left are all
abbrev pub invariant-loop-number : goal.invariant-loop-number
invariant-loop-number g l = l.keys.items ++ keys_of l.number-iterator ≡ keys_of l.entries.entries
