use Rattle.std.proofs.Common.{◌≡◌, ◌++◌, map}
use Rattle.scenario_text.proofs.sent.all_ranged.Given as goal

-- what was sent so far and what is left are the whole
abbrev pub invariant-loop-entry : goal.invariant-loop-entry
invariant-loop-entry g l = l.items.items ++ map (g.S.Ranged.form l.range) l.entry-iterator.rest.items ≡ map (g.S.Ranged.form l.range) l.fn.entries.items
