-- Moments of a clock that counts from 1970.
use Rattle.std.specs.Prelude.{ℕ, ◌+◌, ◌-◌, ◌/◌, ◌^◌, min, pos}
use Rattle.ua_types.specs.declared.moment.Moment.{Moment}

-- so many nanoseconds after 1970-01-01 00:00 UTC, in steps of 100 ns since 1601-01-01 00:00 UTC, which is 116444736000000000 steps
-- before it; or the last moment that there is
abbrev pub moment_since_1970 : ℕ → Moment
moment_since_1970 nanos = record { 0 = pos (min (nanos / 100 + 116444736000000000) (2 ^ 63 - 1)) }
