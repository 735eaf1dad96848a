use Rattle.std.proofs.Common.{true, false, take}
use Rattle.ua_history.specs.Runs.{told}
use Rattle.ua_services.specs.HistoryResults.{all_shown, AreWritten}
use Rattle.ua_services.proofs.history_results.write_values.Given as goal

-- the runs so far are written
abbrev pub invariant-loop-run : goal.invariant-loop-run
invariant-loop-run l = AreWritten l.fn.out.items l.out.items (all_shown l.timestamps (told false (take l.run-index l.runs)))

abbrev pub invariant-loop-run-2 : goal.invariant-loop-run-2
invariant-loop-run-2 l = AreWritten l.fn.out.items l.out.items (all_shown l.timestamps (told true (take l.run-index l.runs)))
