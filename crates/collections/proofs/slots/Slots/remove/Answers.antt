use Rattle.std.proofs.Common.{◌∙◌, ap, sym, Some}
use Rattle.std.specs.BTreeMap.{is_at}
use Rattle.std.specs.Map.{lookup, remove_entry}
use Rattle.std.specs.Ordering.{nat_cmp}
use Rattle.collections.specs.Slots.{held_in}
use Rattle.collections.proofs.SlotLemmas.{value_in, found, value_there, leads_to_one, kept_by_remove, held_removed, removed_nowhere}
use Rattle.collections.proofs.slots.Slots.remove.Goals as goal

pub returns-in_default-clause-value : goal.returns-in_default-clause-value
returns-in_default-clause-value g c =
    let slots = c.self.inside.slots.slots in
    let es = c.self.inside.places.entries in
    let none = found slots es c.self.invariant.numbered c.args.number ∙ ap (value_in slots) (sym c.remove.ensures.value ∙ c.in_default.is) in
    sym none ∙ ap (lookup (is_at (nat_cmp c.args.number))) c.self.view_is

pub returns-in_default-clause-entries : goal.returns-in_default-clause-entries
returns-in_default-clause-entries g c =
    let slots = c.self.inside.slots.slots in
    let es = c.self.inside.places.entries in
    let test = is_at (nat_cmp c.args.number) in
    let none = found slots es c.self.invariant.numbered c.args.number ∙ ap (value_in slots) (sym c.remove.ensures.value ∙ c.in_default.is) in
    ap (held_in slots) (c.in_default.ensures.unchanged) ∙ sym (removed_nowhere test (held_in slots es) none) ∙ ap (remove_entry test) c.self.view_is

pub unreachable-requires : goal.unreachable-requires
unreachable-requires g c =
    leads_to_one c.self.inside.slots.slots c.self.inside.places.entries c.self.invariant c.args.number c.in-Some.slot (sym c.remove.ensures.value ∙ c.in-Some.is) (sym c.try_remove.ensures.value ∙ c.in_default-try_remove.is)

pub invariant_of-self-2 : goal.invariant_of-self-2
invariant_of-self-2 g c =
    kept_by_remove c.self.inside.slots.slots c.try_remove.new.self.slots c.in-Some.slot c.try_remove.ensures.updates.others c.self.inside.places.entries c.self.invariant c.args.number
    c.try_remove.ensures.updates.changed (sym c.remove.ensures.value ∙ c.in-Some.is) c.remove.new.self.entries c.remove.ensures.entries c.remove.ensures.updates.0 c.remove.ensures.ordered

pub returns-clause-value : goal.returns-clause-value
returns-clause-value g c =
    ap Some c.into_value.ensures
    ∙ sym (value_there c.self.inside.slots.slots c.self.inside.places.entries c.self.invariant c.args.number c.in-Some.slot (sym c.remove.ensures.value ∙ c.in-Some.is) c.in-Some-try_remove.held
    (sym c.try_remove.ensures.value ∙ c.in-Some-try_remove.is))
    ∙ ap (lookup (is_at (nat_cmp c.args.number))) c.self.view_is

pub returns-clause-entries : goal.returns-clause-entries
returns-clause-entries g c =
    let slots = c.self.inside.slots.slots in
    let es = c.self.inside.places.entries in
    let test = is_at (nat_cmp c.args.number) in
    ap (held_in c.try_remove.new.self.slots) c.remove.ensures.entries
    ∙ held_removed slots c.try_remove.new.self.slots c.in-Some.slot c.try_remove.ensures.updates.others c.args.number c.try_remove.ensures.updates.changed es c.self.invariant.numbered c.self.invariant.rising
    (sym c.remove.ensures.value ∙ c.in-Some.is)
    ∙ ap (remove_entry test) c.self.view_is
