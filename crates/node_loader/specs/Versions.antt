-- The versions of node files, and what a version says of ranges.
use Rattle.std.specs.Prelude.{◌≤◌}
use Rattle.ua_types.specs.declared.number_range.NumberRange.{NumberRange}
use Rattle.node_loader.specs.declared.version.Version.{Version}
use Rattle.node_loader.specs.declared.version.Version.TheVariants.{One, Two}

-- the one range lies within the other
abbrev pub IsPartOf : NumberRange → NumberRange → Type 0
IsPartOf part whole = (whole.least ≤ part.least) × (part.most ≤ whole.most)

-- the range that a number has in a version
abbrev pub range_of : Version → NumberRange → NumberRange → NumberRange
range_of One first later = first
range_of Two first later = later
