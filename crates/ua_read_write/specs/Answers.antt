-- How an attribute is written that isn't stored as a Variant.
use Rattle.std.specs.Prelude.{ℕ, ◌+◌, ◌*◌, List, ◌++◌, Option, is_some}
use Rattle.ua_types.specs.declared.moment.Moment.{Moment}
use Rattle.ua_binary.specs.Numbers.{byte_encoding}
use Rattle.ua_binary.specs.Parts.{flag}
use Rattle.ua_binary.specs.Scalars.{moment_encoding}
use Rattle.ua_binary.specs.DataValues.{optional_encoding}

-- a data value that is good and has no source time, of one value of the type with this number
abbrev pub scalar_encoding : {A : Type 0} → ℕ → (A → List ℕ) → A → Option Moment → List ℕ
scalar_encoding number encoding value server_time =
    byte_encoding (1 + 8 * flag (is_some server_time))
    ++ (byte_encoding number ++ encoding value)
    ++ optional_encoding moment_encoding server_time
