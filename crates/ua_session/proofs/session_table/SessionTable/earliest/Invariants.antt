use Rattle.std.proofs.Common.{◌≤ℤ◌, ℤ}
use Rattle.ua_session.specs.SessionTables.{held_in, AreNumbered}
use Rattle.ua_session.proofs.DueLemmas.{NoneBefore}
use Rattle.ua_session.proofs.session_table.SessionTable.earliest.Given as goal

-- what is left at or after a moment up to this one, all is
abbrev pub invariant-loop-slot : goal.invariant-loop-slot
invariant-loop-slot l =
    (goal.iterator-loop-slot).can_next l.slot-iterator × (goal.iterator-loop-slot).is_finite l.slot-iterator
    × AreNumbered l.self-inside.slots.slots l.slot-iterator
    × ((bound : ℤ) → bound ≤ℤ l.earliest → NoneBefore bound (held_in l.self-inside.slots.slots l.slot-iterator) → NoneBefore bound (held_in l.self-inside.slots.slots l.self-inside.numbers.entries))
