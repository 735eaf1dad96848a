use Rattle.std.proofs.Common.{◌∙◌, ◌+◌, ap, sym, subst, cond, is_some, length}
use Rattle.slab.specs.Slab.{slab_len}
use Rattle.std.specs.FinMap as map
use Rattle.ua_session.proofs.TableLemmas.{Has, number_at, one_less, numbered_by_remove, held_by_remove, held_by_none}
use Rattle.ua_session.proofs.session_table.SessionTable.remove.Goals as goal

pub invariant_of-self : goal.invariant_of-self
invariant_of-self c = record {
  numbered =
      numbered_by_remove c.self.inside.slots.slots c.try_remove.new.self.slots c.self.inside.numbers.entries c.self.invariant.numbered c.args.number c.in-Some.slot
      c.try_remove.ensures.updates.others c.remove.new.self.entries
      (number_at c.self.inside.slots.slots c.self.inside.numbers.entries c.self.invariant.numbered c.args.number c.in-Some.slot (sym c.remove.ensures.value ∙ c.in-Some.is))
      c.remove.ensures.entries c.remove.ensures.updates.1;
  full =
      let slots = c.self.inside.slots.slots in
      let es = c.self.inside.numbers.entries in
      one_less (slab_len c.self.inside.slots) (slab_len c.try_remove.new.self) (length es) (length c.remove.new.self.entries) c.args.number c.try_remove.result
      (subst (Has c.args.number) (sym c.try_remove.ensures.value) (number_at slots es c.self.invariant.numbered c.args.number c.in-Some.slot (sym c.remove.ensures.value ∙ c.in-Some.is)))
      c.try_remove.ensures.len c.self.invariant.full
      (sym (ap (λ o. length c.remove.new.self.entries + cond (is_some o) 1 0) c.in-Some.is) ∙ c.remove.ensures.len);
}

pub returns-in-Some : goal.returns-in-Some
returns-in-Some c =
    held_by_remove c.self.inside.slots.slots c.try_remove.new.self.slots c.self.inside.numbers.entries c.self.invariant.numbered c.args.number c.in-Some.slot
    c.try_remove.ensures.updates.others c.remove.new.self.entries
    (number_at c.self.inside.slots.slots c.self.inside.numbers.entries c.self.invariant.numbered c.args.number c.in-Some.slot (sym c.remove.ensures.value ∙ c.in-Some.is))
    (invariant_of-self c).numbered c.remove.ensures.updates.0
    ∙ ap (λ m. map.remove m c.args.number) c.self.view_is

pub returns-in_default : goal.returns-in_default
returns-in_default c =
    held_by_none c.self.inside.slots.slots c.self.inside.numbers.entries c.remove.new.self.entries c.self.invariant.numbered c.args.number c.remove.ensures.entries c.remove.ensures.updates.0
    ∙ ap (λ m. map.remove m c.args.number) c.self.view_is
