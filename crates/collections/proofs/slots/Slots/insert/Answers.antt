use Rattle.std.proofs.Common.{◌≡◌, ◌≢◌, ℕ, ◌∙◌, ap, sym, cond, Some}
use Rattle.std.specs.BTreeMap.{is_at, insert_entry}
use Rattle.std.specs.Map.{lookup}
use Rattle.std.specs.Ordering.{nat_cmp}
use Rattle.collections.specs.Slots.{slot_at, held_in, IsHeld}
use Rattle.collections.proofs.SlotLemmas.{at, leads_nowhere, kept_by_insert, held_by_insert}
use Rattle.collections.proofs.slots.Slots.insert.Given as given
use Rattle.collections.proofs.slots.Slots.insert.Goals as goal

-- the value lies in the slot that its number leads to
one_more : (g : given.Over) (c : goal.After-insert_reserved g)
    → IsHeld c.insert_reserved.new.self.slots c.insert.new.self.entries
    × (held_in c.insert_reserved.new.self.slots c.insert.new.self.entries ≡ insert_entry nat_cmp c.args.self.now c.args.number c.args.value)
one_more g c =
    let n = c.args.number in
    let slots = c.self.inside.slots.slots in
    let es = c.self.inside.places.entries in
    let new = c.insert_reserved.new.self.slots in
    let k = c.insert_reserved.result in
    let same = ap (λ s. s.slots) c.reserve.ensures.rest_kept in
    let others : (key : ℕ) → key ≢ k → slot_at new key ≡ slot_at slots key = λ key apart. c.insert_reserved.ensures.updates.others key apart ∙ ap (λ s. slot_at s key) same in
    let filled = c.insert_reserved.ensures.updates.changed in
    let empty = sym (ap (λ s. slot_at s k) same) ∙ c.insert_reserved.ensures.was_vacant in
    let free = leads_nowhere slots es c.self.invariant n (ap (lookup (is_at (nat_cmp n))) c.self.view_is ∙ c.requires) in
    let key_is = c.vacant_key-slot.ensures.value ∙ sym c.insert_reserved.ensures.key in
    let made = c.in-Ok-insert.ensures.entries ∙ ap (insert_entry nat_cmp es n) key_is in (
      kept_by_insert slots new k others es c.self.invariant n c.args.value filled empty free c.insert.new.self.entries made
          (λ q. c.in-Ok-insert.ensures.updates.0 q ∙ ap (λ key. cond (is_at (nat_cmp n) q) (Some key) (at q es)) key_is) c.insert.ensures.ordered,
      ap (held_in new) made ∙ held_by_insert slots new k others es c.self.invariant n c.args.value filled empty free ∙ ap (λ xs. insert_entry nat_cmp xs n c.args.value) c.self.view_is,
    )

pub invariant_of-self-2 : goal.invariant_of-self-2
invariant_of-self-2 g c = (one_more g c).0

pub returns-clause-ok : goal.returns-clause-ok
returns-clause-ok g c = (one_more g c).1
