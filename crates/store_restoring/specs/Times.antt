-- The latest time at which the server had a value that was kept.
use Rattle.std.specs.Prelude.{List, Option, Some, None, fold}
use Rattle.ua_types.specs.Moments.{later}
use Rattle.ua_types.specs.declared.moment.Moment.{Moment}
use Rattle.server_messages.specs.declared.kept_values.KeptValue.{KeptValue}

abbrev pub later_of : Option Moment → Option Moment → Option Moment
later_of None b = b
later_of (Some a) None = Some a
later_of (Some a) (Some b) = Some (later a b)

-- the latest of their server times and of one that is known
abbrev pub latest_of : Option Moment → List KeptValue → Option Moment
latest_of known ks = fold (λ (latest : Option Moment) (k : KeptValue). later_of latest k.value.server_time) known ks
