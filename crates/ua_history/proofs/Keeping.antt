-- Values of a node, and how many are kept.
use Rattle.std.proofs.Common.{◌≤◌, ◌+◌, ℕ, ℤ, [], ◌∷◌, length, arith}
use Rattle.std.proofs.lemmas.List.{length-drop}
use Rattle.std.specs.BTreeMap.{insert_entry}
use Rattle.std.specs.List.Sorted.{IsStrictlySortedBy}
use Rattle.std.specs.Ordering.{int_cmp, match_ordering}
use Rattle.std.specs.declared.cmp.Ordering.{Ordering}
use Rattle.std.specs.declared.cmp.Ordering.TheVariants.{Less, Equal, Greater}
use Rattle.ua_types.specs.declared.data_value.DataValue.{DataValue}
use Rattle.ua_history.specs.Histories.{Values, put_in, latest}
use Rattle.ua_history.specs.HistoryLaws.{KeepsWithinBounds, IsByTime}

pub one_more : (time : ℤ) (value : DataValue) (values : Values) → length (put_in time value values) ≤ length values + 1
one_more time value [] = omega arith
one_more time value (e ∷ es) = by (int_cmp time e.0) (one_more time value es)
  where
    by : (r : Ordering) → length (put_in time value es) ≤ length es + 1 → length (match_ordering r ((time, value) ∷ e ∷ es) ((e.0, value) ∷ es) (e ∷ insert_entry int_cmp es time value)) ≤ length (e ∷ es) + 1
    by Less rest = omega arith
    by Equal rest = omega arith
    by Greater rest = omega (arith, rest)

bounded : (most : ℕ) (values : Values) → length values ≤ most + 1 → length (latest most values) ≤ most
bounded most values few = grind (arith, few, length-drop)

pub keeps_within_bounds : KeepsWithinBounds
keeps_within_bounds most time value values few = let more = one_more time value values in bounded most (put_in time value values) (omega (arith, few, more))

pub none_by_time : IsByTime []
unfolding IsStrictlySortedBy
none_by_time = tt
