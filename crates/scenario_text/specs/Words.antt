-- The words of a line: split by spaces, texts in double quotes without escapes, and a comment from `#` to the line's end.
use Rattle.std.specs.Prelude.{◌≡◌, option_map, ℕ, List, [], ◌∷◌, Bool, true, false, not, ◌||◌, ◌==◌, nat_lt, length, codes, slice_index, Option, Some, None, Result, Ok, Err, if◌then◌else◌}
use Rattle.std.specs.Borrow.{Bor}
use Rattle.std.specs.List.{before_first, after_first, position_or_len}
use Rattle.ua_types.specs.IdTexts.{behind, or_else}
use Rattle.std.specs.Option.{ok_or}
use Rattle.scenario_text.specs.Readings.{Reading, ◌>>=◌, done, judged}
use Rattle.scenario_text.specs.declared.fault.Cause.{Cause}
use Rattle.scenario_text.specs.declared.fault.Cause.TheVariants.{Word}

-- the part of a line behind the spaces at its front
abbrev pub past_spaces : List ℕ → List ℕ
past_spaces [] = []
past_spaces (c ∷ cs) = if 32 == c then past_spaces cs else c ∷ cs

-- a character stands in a text
abbrev pub has : ℕ → List ℕ → Bool
has c t = nat_lt (position_or_len (λ b. b == c) t) (length t)

-- what stands before the first such character, or all
abbrev pub before : ℕ → List ℕ → List ℕ
before c t = before_first (λ b. b == c) t

abbrev pub behind_first : ℕ → List ℕ → List ℕ
behind_first c t = after_first (λ b. b == c) t

-- no further word: the line ends here, or a comment begins
abbrev pub ends : List ℕ → Bool
ends t = length t == 0 || slice_index t 0 == 35

-- a space, a comment or the line's end
abbrev pub is_apart : List ℕ → Bool
is_apart t = (length t == 0 || slice_index t 0 == 32) || slice_index t 0 == 35

-- a word: its characters without the quotes, and whether it stands in quotes
abbrev pub Spelled : Type 0
Spelled = List ℕ × Bool

-- a quoted word goes up to the next quote, and nothing is glued to it
abbrev pub quoted : List ℕ → Result (Option Spelled × List ℕ) Cause
quoted t =
    if not (has 34 t) then Err Word
    else if is_apart (behind_first 34 t) then Ok (Some (before 34 t, true), behind_first 34 t)
    else Err Word

-- a word with no quote in it
abbrev pub whole : List ℕ → List ℕ → Result (Option Spelled × List ℕ) Cause
whole t rest = if has 34 t then Err Word else Ok (Some (t, false), rest)

-- another word goes up to the next space, or up to a comment
abbrev pub bare : List ℕ → Result (Option Spelled × List ℕ) Cause
bare t =
    if has 35 (before 32 t) then whole (before 35 (before 32 t)) [] else whole (before 32 t) (behind_first 32 t)

abbrev pub word_at : List ℕ → Result (Option Spelled × List ℕ) Cause
word_at t = if ends t then Ok (None, t) else or_else (behind (codes "\"") t) quoted (bare t)

-- the next word, if there is one
unfoldable pub next_word : Reading (Option Spelled)
next_word line = word_at (past_spaces line)

-- there is a further word, good or bad
unfoldable pub has_more : List ℕ → Bool
has_more line = not (ends (past_spaces line))

-- a word that has to be there
unfoldable pub spelled : Reading Spelled
spelled = do
  found ← next_word
  judged (ok_or found Word)

-- its characters, quoted or not
unfoldable pub word : Reading (List ℕ)
word = do
  w ← spelled
  done w.0

-- a text, which has to be quoted
abbrev pub if_quoted : Spelled → Result (List ℕ) Cause
if_quoted w = if w.1 then Ok w.0 else Err Word

unfoldable pub text : Reading (List ℕ)
text = do
  w ← spelled
  judged (if_quoted w)

-- nothing more stands in the line
unfoldable pub end_of_line : Reading (Unit {0})
end_of_line line = if has_more line then Err Word else Ok (tt, line)

-- ---- words of the contracts

-- what a function found, seen as characters
abbrev pub FoundAs : Result (Option (Bor (List ℕ) × Bool) × Bor (List ℕ)) Cause → Result (Option Spelled × List ℕ) Cause → Type 0
FoundAs (Ok found) said = said ≡ Ok (option_map (λ s. (s.0.now, s.1)) found.0, found.1.now)
FoundAs (Err e) said = said ≡ Err e
