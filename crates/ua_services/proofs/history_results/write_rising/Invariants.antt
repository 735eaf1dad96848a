use Rattle.std.proofs.Common.{take}
use Rattle.ua_services.specs.HistoryResults.{all_shown, AreWritten}
use Rattle.ua_services.proofs.history_results.write_rising.Given as goal

-- the values so far are written
abbrev pub invariant-loop-value : goal.invariant-loop-value
invariant-loop-value l = AreWritten l.fn.out.items l.out.items (all_shown l.timestamps (take l.value-index l.run))
