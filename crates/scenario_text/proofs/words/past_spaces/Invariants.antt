use Rattle.std.proofs.Common.{◌≡◌, length}
use denote.Shadow.{shadow}
use denote.Text.{Utf8}
use Rattle.scenario_text.specs.Words.{past_spaces}
use Rattle.scenario_text.proofs.words.past_spaces.Given as goal

-- past the spaces of the rest it is past those of the line
abbrev pub invariant-loop-more : goal.invariant-loop-more
invariant-loop-more l = (past_spaces l.rest ≡ past_spaces l.initial.rest) × shadow (Utf8 l.rest)

abbrev pub decreases-loop-more : goal.decreases-loop-more
decreases-loop-more l = length l.rest
