-- Values that are told run by run: a run is a slice in which they stand by rising time.
use Rattle.std.specs.Prelude.{Bool, true, false, List}
use Rattle.std.specs.Borrow.{Bor}
use Rattle.std.specs.List.{flat_map}
use Rattle.ua_history.specs.Histories.{Values}
use Rattle.ua_history.specs.Intervals.{in_order}
use Rattle.ua_history.specs.declared.kept_values.KeptRuns.{KeptRuns}
use Rattle.ua_history.specs.declared.kept_values.KeptRuns.TheVariants as kept

-- the values of runs, one behind the other, each run in this order
abbrev pub told : Bool → List (Bor Values) → Values
told is_falling runs = flat_map (λ run. in_order is_falling run.now) runs

-- the values of the code's runs
abbrev pub runs_seen : KeptRuns → Values
runs_seen (kept.Rising runs) = told false runs.now
runs_seen (kept.Falling runs) = told true runs.now
