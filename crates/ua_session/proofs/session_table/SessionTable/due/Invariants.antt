use Rattle.std.proofs.Common.{◌≡◌, ◌++◌}
use Rattle.ua_session.specs.SessionTables.{due_in, held_in, AreNumbered}
use Rattle.ua_session.proofs.session_table.SessionTable.due.Given as goal

-- the numbers found so far and those among what is left are all
abbrev pub invariant-loop-number : goal.invariant-loop-number
invariant-loop-number l =
    (goal.iterator-loop-number).can_next l.number-iterator × (goal.iterator-loop-number).is_finite l.number-iterator
    × AreNumbered l.self-inside.slots.slots l.number-iterator
    × (l.due.items ++ due_in l.clock (held_in l.self-inside.slots.slots l.number-iterator) ≡ due_in l.clock (held_in l.self-inside.slots.slots l.self-inside.numbers.entries))
