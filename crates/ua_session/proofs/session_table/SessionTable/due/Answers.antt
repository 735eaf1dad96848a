use Rattle.std.proofs.Common.{◌∙◌, ◌++◌, ap, sym, append-nil}
use Rattle.std.specs.FinMap as map
use Rattle.ua_session.specs.SessionTables.{due_in, held_in}
use Rattle.ua_session.proofs.TableLemmas.{entries_held, some_due}
use Rattle.ua_session.proofs.session_table.SessionTable.due.Goals as goal

pub returns-in_err-push-clause-idle : goal.returns-in_err-push-clause-idle
returns-in_err-push-clause-idle c none =
    let slots = c.self.inside.slots.slots in
    let es = c.self.inside.numbers.entries in
    let entries_are = ap map.entries (sym c.self.view_is) ∙ entries_held slots es c.self.invariant.numbered c.into_iter-number-iterator.ensures.into_iter_gives.5 in
    absurd (some_due slots c.args.clock c.loop-number.due.items (due_in c.args.clock (held_in slots es)) c.in-Some.number.now c.in-Some.slot.now c.next.new.self c.loop-number.number-iterator c.in-Some-get.held.now
    c.in-Some.ensures.steps (sym c.in-Some-get.ensures) (sym c.is_due.ensures ∙ c.if-is_due.true) c.loop-number.invariant.3 (sym (ap (due_in c.args.clock) entries_are) ∙ none))

pub returns-clause-due : goal.returns-clause-due
returns-clause-due c =
    let slots = c.self.inside.slots.slots in
    let es = c.self.inside.numbers.entries in
    sym (append-nil c.loop-number.due.items)
    ∙ ap (λ left. c.loop-number.due.items ++ due_in c.args.clock (held_in slots left)) (sym c.in-None.ensures.steps.0)
    ∙ c.loop-number.invariant.3
    ∙ sym (ap (due_in c.args.clock) (ap map.entries (sym c.self.view_is) ∙ entries_held slots es c.self.invariant.numbered c.into_iter-number-iterator.ensures.into_iter_gives.5))
