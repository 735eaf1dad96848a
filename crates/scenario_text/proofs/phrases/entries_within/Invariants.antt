use Rattle.std.proofs.Common.{◌≡◌, ◌-◌}
use Rattle.scenario_text.specs.Entries.{entries_within}
use Rattle.scenario_text.proofs.Entries.{with_front}
use Rattle.scenario_text.proofs.phrases.entries_within.Given as goal

-- the entries so far and those to come are those of the whole line
abbrev pub invariant-loop : goal.invariant-loop
invariant-loop g l =
    let entry = g.T.Phrase.reading in
    with_front l.entries.items (entries_within (l.most - l.counter) entry l.words) ≡ entries_within l.most entry l.fn.words
