-- What is read one after the other, up to the first fault.
use Rattle.std.specs.Prelude.{ℕ, suc, ◌+◌, Bool, true, ◌&&◌, List, [], ◌∷◌, ◌++◌, Result, Ok, Err}
use Rattle.toml.specs.Data.{Data, Items, no_items, item}
use Rattle.ua_types.specs.Answers.{◌>>=◌}

-- the items one after the other, counted from a number on, up to the first fault
abbrev pub each : {A F : Type 0} → (ℕ → Data → Result A F) → ℕ → Items → Result (List A) F
each f n no_items = Ok []
each f n (item d ds) = do
  x ← f n d
  xs ← each f (n + 1) ds
  Ok (x ∷ xs)

-- each item passes the test
abbrev pub all_items : (Data → Bool) → Items → Bool
all_items test no_items = true
all_items test (item d ds) = test d && all_items test ds

abbrev pub count : Items → ℕ
count no_items = 0
count (item d ds) = suc (count ds)

-- what stands before, and what is said of the rest
abbrev pub after : {A F : Type 0} → List A → Result (List A) F → Result (List A) F
after front (Err e) = Err e
after front (Ok xs) = Ok (front ++ xs)
