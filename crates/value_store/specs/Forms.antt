-- What a row says: a value with its status and times.
use Rattle.std.specs.Prelude.{◌≡◌, ◌==◌, ◌^◌, ℕ, nat_lt, ℤ, pos, negsuc, Bool, true, false, if◌then◌else◌, List, [], ◌∷◌, Option, Some, None, option_map, slice_index_or, Result, Ok, Err}
use Rattle.std.specs.Option.{option_and_then}
use Rattle.ua_types.specs.declared.moment.Moment.{Moment}
use Rattle.ua_types.specs.declared.content.Content.{Content}
use Rattle.ua_types.specs.declared.content.Content.TheVariants.{Scalar as Single, Array, Matrix}
use Rattle.ua_types.specs.declared.variant.Variant.{Variant}
use Rattle.ua_types.specs.declared.variant.Variant.TheVariants as variants
use Rattle.ua_types.specs.declared.data_value.DataValue.{DataValue}
use Rattle.ua_types.specs.Variants.{type_number}
use Rattle.ua_binary.specs.declared.fault.TakeFault.{TakeFault}
use Rattle.ua_binary.specs.Variants.{variant_reading}
use Rattle.sqlite.specs.declared.types.Value.{Value}
use Rattle.sqlite.specs.declared.types.Value.TheVariants.{Null, Int, Real, Text, Blob}
use Rattle.sqlite.specs.Order.{Row, column}
use Rattle.sqlite.specs.Values.{or_null}
use Rattle.value_store.specs.declared.rows.Scalar.{Scalar}
use Rattle.value_store.specs.declared.rows.StoredRow.{StoredRow}
use Rattle.value_store.specs.declared.rows.TableName.{TableName}
use Rattle.value_store.specs.declared.rows.TableName.TheVariants as table
use Rattle.value_store.specs.Rows.{sql_of}

infixl 10 ◌>>=◌
abbrev pub ◌>>=◌ : {A B : Type 0} → Option A → (A → Option B) → Option B
o >>= f = option_and_then f o

-- ---- which values stand as what

abbrev pub is_single : {A : Type 0} → Content A → Bool
is_single (Single x) = true
is_single (Array elements) = false
is_single (Matrix m) = false

-- what fits an INTEGER
abbrev pub is_small : Content ℕ → Bool
is_small (Single n) = nat_lt n (2 ^ 63)
is_small (Array elements) = false
is_small (Matrix m) = false

-- a text that isn't null
abbrev pub is_text : Content (Option (List ℕ)) → Bool
is_text (Single (Some t)) = true
is_text (Single None) = false
is_text (Array elements) = false
is_text (Matrix m) = false

-- a value that stands as an INTEGER or as TEXT
abbrev pub is_plain : Variant → Bool
is_plain (variants.Boolean c) = is_single c
is_plain (variants.SByte c) = is_single c
is_plain (variants.Byte c) = is_single c
is_plain (variants.Int16 c) = is_single c
is_plain (variants.UInt16 c) = is_single c
is_plain (variants.Int32 c) = is_single c
is_plain (variants.UInt32 c) = is_single c
is_plain (variants.Int64 c) = is_single c
is_plain (variants.UInt64 c) = is_small c
is_plain (variants.DateTime c) = is_single c
is_plain (variants.StatusCode c) = is_single c
is_plain (variants.String c) = is_text c
is_plain other = false

-- ---- what an INTEGER says

abbrev pub natural : ℤ → Option ℕ
natural (pos n) = Some n
natural (negsuc n) = None

abbrev pub truth_in : ℤ → Option Bool
truth_in (pos n) = if n == 0 then Some false else if n == 1 then Some true else None
truth_in (negsuc n) = None

-- by the number of its type
abbrev pub integer_said : ℕ → ℤ → Option Variant
integer_said kind n =
    if kind == 1 then option_map (λ b. variants.Boolean (Single b)) (truth_in n)
    else if kind == 2 then Some (variants.SByte (Single n))
    else if kind == 3 then option_map (λ m. variants.Byte (Single m)) (natural n)
    else if kind == 4 then Some (variants.Int16 (Single n))
    else if kind == 5 then option_map (λ m. variants.UInt16 (Single m)) (natural n)
    else if kind == 6 then Some (variants.Int32 (Single n))
    else if kind == 7 then option_map (λ m. variants.UInt32 (Single m)) (natural n)
    else if kind == 8 then Some (variants.Int64 (Single n))
    else if kind == 9 then option_map (λ m. variants.UInt64 (Single m)) (natural n)
    else if kind == 13 then Some (variants.DateTime (Single (record { 0 = n })))
    else if kind == 19 then option_map (λ m. variants.StatusCode (Single (record { 0 = m }))) (natural n)
    else None

-- ---- what TEXT and a BLOB say

abbrev pub text_said : ℕ → List ℕ → Option Variant
text_said kind t = if kind == 12 then Some (variants.String (Single (Some t))) else None

-- the value, if nothing stands behind it
abbrev pub alone : Variant → List ℕ → Option Variant
alone v [] = Some v
alone v (x ∷ more) = None

-- what was read, if it was all
abbrev pub whole : Result (Variant × List ℕ) TakeFault → Option Variant
whole (Ok read) = alone read.0 read.1
whole (Err e) = None

-- only what stands as nothing else
abbrev pub unless_plain : Variant → Option Variant
unless_plain v = if is_plain v then None else Some v

-- the value's binary encoding, whose first byte is the row's type
abbrev pub bytes_said : ℕ → List ℕ → Option Variant
bytes_said kind b = if kind == slice_index_or b 0 0 then whole (variant_reading b) >>= unless_plain else None

-- ---- what a row says

-- NULL of the type 0 says that there is no value
abbrev pub value_said : ℕ → Value → Option (Option Variant)
value_said kind Null = if kind == 0 then Some None else None
value_said kind (Int n) = option_map (λ v. Some v) (integer_said kind n)
value_said kind (Real x) = None
value_said kind (Text t) = option_map (λ v. Some v) (text_said kind t)
value_said kind (Blob b) = option_map (λ v. Some v) (bytes_said kind b)

abbrev pub number_said : Value → Option ℕ
number_said (Int n) = natural n
number_said other = None

abbrev pub time_said : Value → Option (Option Moment)
time_said Null = Some None
time_said (Int n) = Some (Some (record { 0 = n }))
time_said other = None

-- from the type, the value, the status and both times
abbrev pub columns_said : Value → Value → Value → Value → Value → Option DataValue
columns_said kind value status source server = do
  k ← number_said kind
  v ← value_said k value
  s ← number_said status
  from ← time_said source
  at ← time_said server
  Some (record { status = record { 0 = s }; source_time = from; server_time = at; value = v })

-- a row of either table
abbrev pub said_of : StoredRow → Option DataValue
said_of r = columns_said (Int r.kind) (sql_of r.value) (Int r.status) (or_null Int r.source_time) (or_null Int r.server_time)

-- the columns of a row of `value`, and of one of `history`, whose time is the source's
abbrev pub said_in : TableName → Row → Option DataValue
said_in table.Value r = columns_said (column r 1) (column r 2) (column r 3) (column r 4) (column r 5)
said_in table.History r = columns_said (column r 2) (column r 3) (column r 4) (column r 1) (column r 5)

-- ---- what is written of a value

-- the one value of a content, as it is and as a number
abbrev pub IsSole : {A : Type 0} → Content A → Option A → Type 0
IsSole c None = is_single c ≡ false
IsSole c (Some x) = c ≡ Single x

abbrev pub IsSmall : Content ℕ → Option ℤ → Type 0
IsSmall c None = is_small c ≡ false
IsSmall c (Some n) = option_map (λ m. Single m) (natural n) ≡ Some c

abbrev pub IsTruth : Content Bool → Option ℤ → Type 0
IsTruth c None = is_single c ≡ false
IsTruth c (Some n) = option_map (λ b. Single b) (truth_in n) ≡ Some c

-- the value as an INTEGER or TEXT says it, or none says it
abbrev pub StandsAs : Variant → Option Scalar → Type 0
StandsAs v None = is_plain v ≡ false
StandsAs v (Some s) = value_said (type_number v) (sql_of s) ≡ Some (Some v)
