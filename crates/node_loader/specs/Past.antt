-- The values that a variable had before the server began, oldest first.
use Rattle.std.specs.Prelude.{ℕ, ◌+◌, pos, nat_le, List, [], ◌∷◌, Bool, codes, Option, Some, None, Result, Ok, Err, if◌then◌else◌}
use Rattle.toml.specs.Data.{Items, no_items, item, Members, as_table}
use Rattle.ua_types.specs.Answers.{◌>>=◌}
use Rattle.ua_types.specs.declared.moment.Moment.{Moment}
use Rattle.ua_types.specs.declared.number_range.NumberRange.{NumberRange}
use Rattle.ua_types.specs.declared.data_value.DataValue.{DataValue}
use Rattle.ua_types.specs.declared.variant.Variant.{Variant}
use Rattle.node_loader.specs.Keys.{list_at, number_at, only, required_number, up_to}
use Rattle.node_loader.specs.Lists.{count}
use Rattle.node_loader.specs.Value.{ranked_value}
use Rattle.node_loader.specs.declared.fault.Cause.{Cause}
use Rattle.node_loader.specs.declared.fault.Cause.TheVariants.{WrongKind, OutOfRange}
use Rattle.node_loader.specs.declared.past.Past.{Past}
use Rattle.node_loader.specs.declared.past.Setting.{Setting}
use Rattle.node_loader.specs.declared.value.Form.{Form}

abbrev pub past_keys : List (List ℕ)
past_keys = codes "time" ∷ codes "value" ∷ codes "status" ∷ []

-- the times after the last one
abbrev pub after_time : ℕ → NumberRange
after_time last = record { least = last + 1; most = 9223372036854775807 }

-- a value that the source had at a time, and the server has known since its start
abbrev pub past_value : Moment → ℕ → Variant → ℕ → DataValue
past_value start time value status =
    record { value = Some value; status = record { 0 = status }; source_time = Some (record { 0 = pos time }); server_time = Some start }

-- an entry of the list: first the unknown keys, and then the others one by one
unfoldable pub past_of : Setting → Form → ℕ → Members → Result Past Cause
past_of setting form last ms = do
  known ← only past_keys ms
  time ← required_number (codes "time") (after_time last) ms
  value ← ranked_value form.value_type form.rank setting.highest ms
  status ← number_at (codes "status") 0 (up_to 4294967295) ms
  Ok (record { time = time; value = past_value setting.start time value status })

abbrev pub listed_past_of : Setting → Form → ℕ → Option Members → Result Past Cause
listed_past_of setting form last None = Err WrongKind
listed_past_of setting form last (Some ms) = past_of setting form last ms

-- the entries one after the other, each after the last time
abbrev pub pasts_of : Setting → Form → ℕ → Items → Result (List DataValue) Cause
pasts_of setting form last no_items = Ok []
pasts_of setting form last (item d ds) = do
  past ← listed_past_of setting form last (as_table d)
  pasts ← pasts_of setting form past.time ds
  Ok (past.value ∷ pasts)

-- the most values: those of the setting, and none where the history isn't kept
abbrev pub most_past : Setting → Bool → ℕ
most_past setting historizing = if historizing then setting.history else 0

abbrev pub few_pasts : Setting → Form → Bool → Items → Result (List DataValue) Cause
few_pasts setting form historizing ds = if nat_le (count ds) (most_past setting historizing) then pasts_of setting form 0 ds else Err OutOfRange

unfoldable pub history_of : Setting → Form → Bool → Members → Result (List DataValue) Cause
history_of setting form historizing ms = do
  entries ← list_at (codes "history") ms
  few_pasts setting form historizing entries
