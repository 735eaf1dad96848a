use Rattle.std.proofs.Common.{◌≡◌, ◌≤◌, length}
use Rattle.scenario_run.specs.Assembly.{event_limit, groups_from, joined}
use Rattle.scenario_run.specs.Members.{nothing_sent}
use Rattle.scenario_run.specs.Meaning.{plain_manner, happenings_of}
use Rattle.scenario_run.specs.Reading.{AllCounted}
use Rattle.scenario_run.proofs.AssemblyLemmas.{behind_events}
use Rattle.scenario_run.proofs.HappeningLemmas.{GoesOn}
use Rattle.scenario_run.proofs.assembly.events_of.Given as goal

-- the events so far, and those of the lines that are left; and the groups of what is left, as those of it all
abbrev pub invariant-loop-line : goal.invariant-loop-line
invariant-loop-line l = record {
  whole : behind_events l.events.items (groups_from l.fault l.assembler (length l.events.items) l.line-iterator.rest.items) ≡ joined (groups_from l.fn.fault nothing_sent 0 l.fn.lines.items);
  few : length l.events.items ≤ event_limit;
  counted : AllCounted l.assembler;
  grouped : GoesOn (happenings_of plain_manner l.fn.lines.items) l.assembler l.line-iterator.rest.items l.events.items;
}
