use Rattle.std.proofs.Common.{sym, ap, ◌∙◌}
use Rattle.std.specs.Prelude.{find}
use Rattle.ua_subscriptions.specs.Messages.{has_number}
use Rattle.ua_subscriptions.proofs.Keepings.{none_found, one_found}
use Rattle.ua_subscriptions.proofs.kept.Kept.find.Goals as goal

pub returns-in-None : goal.returns-in-None
returns-in-None c =
    sym (none_found c.args.number c.self.inside.messages.entries c.self.inside.places.keys c.first_place.ensures.ordered c.self.invariant c.in-None.ensures.first)
    ∙ ap (find (has_number c.args.number)) c.self.view_is

pub returns-in-Some : goal.returns-in-Some
returns-in-Some c =
    c.get.ensures.value ∙ sym (one_found c.args.number c.self.inside.messages.entries c.self.inside.places.keys c.first_place.ensures.ordered c.self.invariant c.in-Some.serial c.in-Some.ensures.first)
    ∙ ap (find (has_number c.args.number)) c.self.view_is
