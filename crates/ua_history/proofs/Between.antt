-- Times between two bounds.
use Rattle.std.proofs.Common.{◌≡◌, ℤ, Bool, true, false, [], ◌∷◌, arith, refl}
use Rattle.std.specs.Prelude.{not}
use Rattle.std.specs.Ordering.{int_cmp, is_gt, is_lt}
use Rattle.std.specs.BTreeMap.Range.{IsLeBy, IsLtBy, range_contains, entries_between}
use Rattle.std.specs.Range.Bound.{IsForward}
use Rattle.std.specs.declared.ops.Bound.{Bound}
use Rattle.std.specs.declared.ops.Bound.TheVariants.{Included, Excluded, Unbounded}
use Rattle.std.specs.declared.cmp.Ordering.{Ordering}
use Rattle.std.specs.declared.cmp.Ordering.TheVariants.{Less, Equal, Greater}
use Rattle.ua_history.specs.Histories.{Values}
use Rattle.ua_history.specs.Intervals.{is_forward, in_order, raw}
use Rattle.ua_history.specs.declared.intervals.Interval.{Interval}

not_greater : (r : Ordering) → not (is_gt r) ≡ true → is_gt r ≡ false
not_greater Less e = refl
not_greater Equal e = refl
not_greater Greater e = absurd cc

lesser : (r : Ordering) → is_lt r ≡ true → r ≡ Less
lesser Less e = refl
lesser Equal e = absurd cc
lesser Greater e = absurd cc

pub goes_forward : (low high : Bound ℤ) → is_forward low high ≡ true → IsForward (IsLeBy int_cmp) (IsLtBy int_cmp) low high
goes_forward Unbounded high e = tt
goes_forward (Included a) Unbounded e = tt
goes_forward (Included a) (Included b) e = not_greater (int_cmp a b) e
goes_forward (Included a) (Excluded b) e = not_greater (int_cmp a b) e
goes_forward (Excluded a) Unbounded e = tt
goes_forward (Excluded a) (Included b) e = not_greater (int_cmp a b) e
goes_forward (Excluded a) (Excluded b) e = lesser (int_cmp a b) e

-- ---- bounds between which no time lies

outside : (low high : Bound ℤ) (q : ℤ) → is_forward low high ≡ false → range_contains int_cmp low high q ≡ false
outside Unbounded high q e = absurd cc
outside (Included a) Unbounded q e = absurd cc
outside (Included a) (Included b) q e = grind arith
outside (Included a) (Excluded b) q e = grind arith
outside (Excluded a) Unbounded q e = absurd cc
outside (Excluded a) (Included b) q e = grind arith
outside (Excluded a) (Excluded b) q e = grind arith

pub none_backward : (low high : Bound ℤ) (values : Values) → is_forward low high ≡ false → entries_between int_cmp low high values ≡ []
none_backward low high [] e = refl
none_backward low high (v ∷ vs) e = rw (outside low high v.0 e) (none_backward low high vs e)

order_of_none : (is_falling : Bool) → in_order is_falling [] ≡ []
order_of_none true = refl
order_of_none false = refl

-- ---- a node without a history

pub none_raw : (i : Interval) → raw [] i ≡ []
none_raw i = order_of_none i.is_falling
