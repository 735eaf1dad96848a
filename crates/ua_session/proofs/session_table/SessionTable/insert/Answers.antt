use Rattle.std.proofs.Common.{◌∙◌, ◌+◌, ap, sym, cond, length, count_by, is_some, Some}
use Rattle.std.specs.BTreeMap.{is_at, insert_entry}
use Rattle.std.specs.FinMap as map
use Rattle.std.specs.Ordering.{nat_cmp}
use Rattle.ua_session.specs.SessionTables.{slot_at}
use Rattle.ua_session.proofs.TableLemmas.{at, leads_nowhere, numbered_by_insert, held_by_insert}
use Rattle.ua_session.proofs.session_table.SessionTable.insert.Goals as goal

pub invariant_of-self-2 : goal.invariant_of-self-2
invariant_of-self-2 c =
    let same = ap (λ s. s.slots) c.reserve.ensures.rest_kept in
    let absent = leads_nowhere c.self.inside.slots.slots c.self.inside.numbers.entries c.self.invariant.numbered c.args.number (ap (λ m. map.get m c.args.number) c.self.view_is ∙ c.requires) in
    record {
      numbered =
          numbered_by_insert c.self.inside.slots.slots c.insert_reserved.new.self.slots c.self.inside.numbers.entries c.self.invariant.numbered c.args.number c.insert_reserved.result
          (λ key apart. c.insert_reserved.ensures.updates.others key apart ∙ ap (λ s. slot_at s key) same)
          c.insert.new.self.entries c.args.session c.insert_reserved.ensures.updates.changed
          (sym (ap (λ s. slot_at s c.insert_reserved.result) same) ∙ c.insert_reserved.ensures.was_vacant)
          (c.in_ok-insert.ensures.entries ∙ ap (λ k. insert_entry nat_cmp c.self.inside.numbers.entries c.args.number k) (c.vacant_key-slot.ensures.value ∙ sym c.insert_reserved.ensures.key));
      full =
          c.insert_reserved.ensures.len ∙ ap (λ s. count_by is_some s + 1) same ∙ ap (λ n. n + 1) c.self.invariant.full
          ∙ sym (c.in_ok-insert.ensures.len ∙ ap (λ o. length c.self.inside.numbers.entries + cond (is_some o) 0 1) (c.in_ok-insert.ensures.old ∙ absent));
    }

pub returns-clause-ok : goal.returns-clause-ok
returns-clause-ok c =
    let same = ap (λ s. s.slots) c.reserve.ensures.rest_kept in
    let key_is = c.vacant_key-slot.ensures.value ∙ sym c.insert_reserved.ensures.key in
    held_by_insert c.self.inside.slots.slots c.insert_reserved.new.self.slots c.self.inside.numbers.entries c.self.invariant.numbered c.args.number c.insert_reserved.result
    (λ key apart. c.insert_reserved.ensures.updates.others key apart ∙ ap (λ s. slot_at s key) same)
    c.insert.new.self.entries c.args.session c.insert_reserved.ensures.updates.changed
    (sym (ap (λ s. slot_at s c.insert_reserved.result) same) ∙ c.insert_reserved.ensures.was_vacant)
    (invariant_of-self-2 c).numbered
    (λ q. c.in_ok-insert.ensures.updates.0 q ∙ ap (λ k. cond (is_at (nat_cmp c.args.number) q) (Some k) (at q c.self.inside.numbers.entries)) key_is)
    ∙ ap (λ m. map.insert m c.args.number c.args.session) c.self.view_is
