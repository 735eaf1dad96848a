use Rattle.std.proofs.Common.{◌∙◌, ap, sym, is_some}
use Rattle.std.specs.FinMap as map
use Rattle.ua_session.proofs.TableLemmas.{same_count, numbered_by_set, held_by_set, leads_somewhere, leads_to_one}
use Rattle.ua_session.proofs.session_table.SessionTable.set.Goals as goal

pub invariant_of-self : goal.invariant_of-self
invariant_of-self c = record {
  numbered =
      numbered_by_set c.self.inside.slots.slots c.self.inside.numbers.entries c.self.invariant.numbered c.args.number c.in-Some.slot.now (sym c.in-Some.ensures.value)
      c.in-Some-get_mut.held.now (sym c.in-Some-get_mut.ensures.value) c.args.session;
  full = same_count c.self.inside.slots.slots c.in-Some.slot.now c.in-Some-get_mut.held.now (sym c.in-Some-get_mut.ensures.value) c.args.session ∙ c.self.invariant.full;
}

pub returns-in-Some-get_mut : goal.returns-in-Some-get_mut
returns-in-Some-get_mut c =
    held_by_set c.self.inside.slots.slots c.self.inside.numbers.entries c.self.invariant.numbered c.args.number c.in-Some.slot.now (sym c.in-Some.ensures.value)
    c.in-Some-get_mut.held.now (sym c.in-Some-get_mut.ensures.value) c.args.session
    ∙ ap (λ m. map.insert m c.args.number c.args.session) c.self.view_is

pub returns-in_default-get_mut : goal.returns-in_default-get_mut
returns-in_default-get_mut c =
    absurd (leads_to_one c.self.inside.slots.slots c.self.inside.numbers.entries c.self.invariant.numbered c.args.number c.in-Some.slot.now (sym c.in-Some.ensures.value) (sym c.in_default-get_mut.ensures.value))

pub returns-in_default : goal.returns-in_default
returns-in_default c =
    absurd (leads_somewhere c.self.inside.slots.slots c.self.inside.numbers.entries c.self.invariant.numbered c.args.number (sym c.in_default.ensures.value)
    (ap (λ m. is_some (map.get m c.args.number)) c.self.view_is ∙ c.requires))
