use Rattle.std.proofs.Common.{◌∙◌, refl, ap, sym, Some}
use Rattle.std.specs.BTreeMap.{is_at}
use Rattle.std.specs.Map.{lookup, set_value}
use Rattle.std.specs.Option.{option_copied_mut}
use Rattle.std.specs.Ordering.{nat_cmp}
use Rattle.collections.proofs.SlotLemmas.{value_in, found, value_there, leads_to_one, kept_by_write, held_by_write}
use Rattle.collections.proofs.slots.Slots.get_mut.Goals as goal

pub returns-in_default : goal.returns-in_default
returns-in_default g c =
    let slots = c.self.inside.slots.slots in
    let es = c.self.inside.places.entries in
    let none = found slots es c.self.invariant.numbered c.args.number ∙ ap (value_in slots) (sym c.slot_of.ensures ∙ c.in_default.is) in
    ((refl, λ w. tt, c.self.view_is), record { writes_back = tt; value = sym none ∙ ap (lookup (is_at (nat_cmp c.args.number))) c.self.view_is })

pub invariant_of-self-lent : goal.invariant_of-self-lent
invariant_of-self-lent g c =
    kept_by_write c.self.inside.slots.slots c.self.inside.places.entries c.self.invariant c.args.number c.in-Some.slot (sym c.slot_of.ensures ∙ c.in-Some.is) c.in-Some-get_mut.held.now
    (sym c.get_mut.ensures.value ∙ ap option_copied_mut c.in-Some-get_mut.is)

pub returns-in-Some-get_mut : goal.returns-in-Some-get_mut
returns-in-Some-get_mut g c =
    let slots = c.self.inside.slots.slots in
    let es = c.self.inside.places.entries in
    let leads = sym c.slot_of.ensures ∙ c.in-Some.is in
    let there = sym c.get_mut.ensures.value ∙ ap option_copied_mut c.in-Some-get_mut.is in
    let value = value_there slots es c.self.invariant c.args.number c.in-Some.slot leads c.in-Some-get_mut.held.now there in (
      (
        refl,
        λ w. held_by_write slots es c.self.invariant c.args.number c.in-Some.slot leads c.in-Some-get_mut.held.now there w ∙ ap (λ xs. set_value (is_at (nat_cmp c.args.number)) xs w) c.self.view_is,
        refl,
      ),
      record { writes_back = tt; value = ap Some c.value_mut.ensures.value ∙ sym value ∙ ap (lookup (is_at (nat_cmp c.args.number))) c.self.view_is },
    )

pub returns-in-None : goal.returns-in-None
returns-in-None g c =
    absurd (leads_to_one c.self.inside.slots.slots c.self.inside.places.entries c.self.invariant c.args.number c.in-Some.slot (sym c.slot_of.ensures ∙ c.in-Some.is)
    (sym c.get_mut.ensures.value ∙ ap option_copied_mut c.in-None.is))
