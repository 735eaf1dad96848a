use Rattle.std.proofs.Common.{◌≡◌, take}
use Rattle.std.specs.Prelude.{fold}
use Rattle.ua_monitored_items.specs.Sampling.{index_shown}
use Rattle.ua_monitored_items.proofs.sampling.sample_all.Given as goal

-- what was written so far was seen
abbrev pub invariant-loop-change : goal.invariant-loop-change
invariant-loop-change l = l.items ≡ fold (index_shown l.on_node) l.fn.items (take l.change-index l.changed)
