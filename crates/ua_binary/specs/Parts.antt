-- Parts that are there where a bit says so.
use Rattle.std.specs.Prelude.{ℕ, Bool, List, [], Option, Some, None, ◌==◌, if◌then◌else◌}
use Rattle.std.specs.Int.{w32}
use Rattle.ua_binary.specs.Reading.{Reading, done}
use Rattle.ua_binary.specs.Numbers.{number_encoding}
use Rattle.ua_binary.specs.Texts.{text_encoding}

-- a part is read where its bit is set, and else has this value
abbrev pub where_set : {A : Type 0} → ℕ → A → Reading A → Reading A
where_set bit absent part = if bit == 0 then done absent else part

abbrev pub flag : Bool → ℕ
flag b = if b then 1 else 0

-- a text is written unless it is null
abbrev pub text_unless_null : Option (List ℕ) → List ℕ
text_unless_null None = []
text_unless_null (Some t) = text_encoding (Some t)

-- a number is written unless it is 0
abbrev pub number_unless_0 : ℕ → List ℕ
number_unless_0 n = if n == 0 then [] else number_encoding w32 n
