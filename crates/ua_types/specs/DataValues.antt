-- Data values that are made.
use Rattle.std.specs.Prelude.{Some}
use Rattle.ua_types.specs.declared.moment.Moment.{Moment}
use Rattle.ua_types.specs.declared.variant.Variant.{Variant}
use Rattle.ua_types.specs.declared.data_value.DataValue.{DataValue}

-- a value that is good since a moment
abbrev pub value_since : Moment → Variant → DataValue
value_since moment value =
    record { value = Some value; status = record { 0 = 0 }; source_time = Some moment; server_time = Some moment }
