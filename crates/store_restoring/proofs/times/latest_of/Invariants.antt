use Rattle.std.proofs.Common.{◌≡◌, take}
use Rattle.store_restoring.specs.Times.{latest_of}
use Rattle.store_restoring.proofs.times.latest_of.Given as goal

abbrev pub invariant-loop-one : goal.invariant-loop-one
invariant-loop-one l = l.latest ≡ latest_of l.fn.known (take l.one-index l.kept)
