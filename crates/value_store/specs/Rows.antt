-- What is kept, as the rows of the two tables.
use Rattle.std.specs.Prelude.{ℤ, [], ◌∷◌, string_bytes, IsUtf8, ⊤, Option, Some, None, ◌<ℤ◌}
use Rattle.sqlite.specs.declared.types.Value.{Value}
use Rattle.sqlite.specs.declared.types.Value.TheVariants.{Null, Int, Real, Text, Blob}
use Rattle.sqlite.specs.Order.{Row, column}
use Rattle.sqlite.specs.Values.{or_null}
use Rattle.value_store.specs.declared.rows.Scalar.{Scalar}
use Rattle.value_store.specs.declared.rows.Scalar.TheVariants.{Nothing, Integer, Words, Bytes}
use Rattle.value_store.specs.declared.rows.Key.{Key}
use Rattle.value_store.specs.declared.rows.StoredRow.{StoredRow}
use Rattle.value_store.specs.declared.rows.TableName.{TableName}
use Rattle.value_store.specs.declared.rows.TableName.TheVariants as table

abbrev pub sql_of : Scalar → Value
sql_of Nothing = Null
sql_of (Integer n) = Int n
sql_of (Words t) = Text (string_bytes t)
sql_of (Bytes b) = Blob b.items

-- no float, and no text that is not UTF-8
abbrev pub is_scalar : Value → Type 0
is_scalar Null = ⊤
is_scalar (Int n) = ⊤
is_scalar (Real x) = ⊥
is_scalar (Text t) = IsUtf8 t
is_scalar (Blob b) = ⊤

-- the columns of a row of each table
abbrev pub row_in : TableName → StoredRow → Row
row_in table.Value r = Text (string_bytes r.node) ∷ Int r.kind ∷ sql_of r.value ∷ Int r.status ∷ or_null Int r.source_time ∷ or_null Int r.server_time ∷ []
row_in table.History r = Text (string_bytes r.node) ∷ or_null Int r.source_time ∷ Int r.kind ∷ sql_of r.value ∷ Int r.status ∷ or_null Int r.server_time ∷ []

-- what a row of `history` is found by
abbrev pub key_in : Key → Row
key_in k = Text (string_bytes k.node) ∷ Int k.time ∷ []

-- the six columns of a row in either file, whose number stands before them
abbrev pub columns : Row → Row
columns r = column r 1 ∷ column r 2 ∷ column r 3 ∷ column r 4 ∷ column r 5 ∷ column r 6 ∷ []

-- the number and the columns, as the queries show them
abbrev pub with_number : Row → Row
with_number r = column r 0 ∷ column r 1 ∷ column r 2 ∷ column r 3 ∷ column r 4 ∷ column r 5 ∷ column r 6 ∷ []

-- the number is above the last, if there was one
abbrev pub IsAbove : Option ℤ → ℤ → Type 0
IsAbove None number = ⊤
IsAbove (Some last) number = last <ℤ number
