-- What stands one after another up to the line's end.
use Rattle.std.specs.Prelude.{ℕ, zero, suc, List, [], ◌∷◌, length, if◌then◌else◌}
use Rattle.scenario_text.specs.Readings.{Reading, ◌>>=◌, done}
use Rattle.scenario_text.specs.Words.{has_more}

-- what is read where a further word stands, and what is so where none does
abbrev pub while_more : {A : Type 0} → Reading A → A → Reading A
while_more p x line = if has_more line then p line else done x line

-- at most so many
unfoldable pub entries_within : {A : Type 0} → ℕ → Reading A → Reading (List A)
entries_within zero entry = done []
entries_within (suc n) entry = while_more (do
  x ← entry
  xs ← entries_within n entry
  done (x ∷ xs)) []

-- All of them: each has a character at least, so they are no more than the characters that are left.
unfoldable pub entries_reading : {A : Type 0} → Reading A → Reading (List A)
entries_reading entry line = entries_within (length line) entry line
