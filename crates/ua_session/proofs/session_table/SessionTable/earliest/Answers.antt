use Rattle.std.proofs.Common.{◌∙◌, ap, sym, subst, to_z, w64}
use Rattle.std.specs.FinMap as map
use Rattle.std.specs.Int.Signed.{≤ℤ_refl}
use Rattle.ua_session.specs.SessionTables.{held_in}
use Rattle.ua_session.proofs.TableLemmas.{entries_held}
use Rattle.ua_session.proofs.DueLemmas.{NoneBefore, points_from_all}
use Rattle.ua_session.proofs.session_table.SessionTable.earliest.Goals as goal

pub returns : goal.returns
returns c =
    let slots = c.self.inside.slots.slots in
    let es = c.self.inside.numbers.entries in
    let bound = to_z w64 c.loop-slot.earliest-bits in
    let entries_are = ap map.entries (sym c.self.view_is) ∙ entries_held slots es c.self.invariant.numbered c.into_iter-slot-iterator.ensures.into_iter_gives.5 in
    let none_left = subst (λ left. NoneBefore bound (held_in slots left)) (sym c.in-None.ensures.steps.0) tt in
    points_from_all (record { 0 = bound }) c.args.self.now (subst (NoneBefore bound) (sym entries_are) (c.loop-slot.invariant.3 bound (≤ℤ_refl bound) none_left))
