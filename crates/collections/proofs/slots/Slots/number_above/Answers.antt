use Rattle.std.proofs.Common.{ap, sym, ◌∙◌, is_some}
use Rattle.std.proofs.lemmas.Option.{IfSome_then}
use Rattle.std.specs.BTreeMap.{is_at}
use Rattle.std.specs.Map.{lookup}
use Rattle.std.specs.Ordering.{nat_cmp}
use Rattle.collections.proofs.SlotLemmas.{leads_held}
use Rattle.collections.proofs.slots.Slots.number_above.Goals as goal

pub returns-clause-held : goal.returns-clause-held
returns-clause-held g c =
    IfSome_then c.key_above.result c.key_above.ensures.held
    (λ number there. sym (ap (λ held. is_some (lookup (is_at (nat_cmp number)) held)) c.self.view_is) ∙ leads_held c.self.inside.slots.slots c.self.inside.places.entries c.self.invariant number ∙ there)

pub returns-clause-lowest : goal.returns-clause-lowest
returns-clause-lowest g c =
    λ number above there.
    c.key_above.ensures.lowest number above
    (sym (leads_held c.self.inside.slots.slots c.self.inside.places.entries c.self.invariant number) ∙ ap (λ held. is_some (lookup (is_at (nat_cmp number)) held)) c.self.view_is ∙ there)
