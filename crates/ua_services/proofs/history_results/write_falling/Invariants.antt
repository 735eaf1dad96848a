use Rattle.std.proofs.Common.{map}
use Rattle.ua_services.specs.HistoryResults.{all_shown, AreWritten}
use Rattle.ua_services.proofs.history_results.write_falling.Given as goal

-- the values so far are written
abbrev pub invariant-loop-value : goal.invariant-loop-value
invariant-loop-value l =
    (goal.iterator-loop-value).can_next l.value-iterator × (goal.iterator-loop-value).is_finite l.value-iterator
    × AreWritten l.fn.out.items l.out.items (all_shown l.timestamps (map (λ e. e.now) l.yielded))
