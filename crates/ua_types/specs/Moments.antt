-- Moments.
use Rattle.std.specs.Prelude.{int_lt, if◌then◌else◌}
use Rattle.ua_types.specs.declared.moment.Moment.{Moment}

-- the later of two moments
abbrev pub later : Moment → Moment → Moment
later a b = if int_lt a.0 b.0 then b else a
