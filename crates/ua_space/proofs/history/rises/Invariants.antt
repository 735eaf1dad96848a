use Rattle.std.proofs.Common.{◌≡◌, drop}
use Rattle.ua_space.specs.Histories.{rises}
use Rattle.ua_space.proofs.Histories.{rises_on}
use Rattle.ua_space.proofs.history.rises.Given as goal

abbrev pub invariant-loop-value : goal.invariant-loop-value
invariant-loop-value l = rises_on l.last (drop l.value-index l.values) ≡ rises l.values
