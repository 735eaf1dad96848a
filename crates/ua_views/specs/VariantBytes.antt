-- What the first byte of a Variant announces (IEC 62541-6, 5.2.2.16): its low six bits are the number of the type, and 0
-- means no value. 128 says that a list follows in place of one value, and 64 that dimensions follow the list.
use Rattle.std.specs.Prelude.{ℕ, ◌/◌, ◌%◌, ◌==◌, if◌then◌else◌}
use Rattle.ua_types.specs.declared.shape.Shape.{Shape}
use Rattle.ua_types.specs.declared.shape.Shape.TheVariants as shapes

-- by the flags 0, 2 and 3
abbrev pub shape_flagged : ℕ → ℕ → Shape
shape_flagged number flags =
    if number == 0 then shapes.Null
    else if flags == 0 then shapes.Scalar
    else if flags == 2 then shapes.List
    else shapes.Matrix

unfoldable pub shape_announced : ℕ → Shape
shape_announced first = shape_flagged (first % 64) (first / 64)
