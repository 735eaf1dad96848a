use Rattle.std.proofs.Common.{sym, ap, ◌∙◌}
use Rattle.std.specs.List.{position}
use Rattle.std.specs.Map.{values_of}
use Rattle.std.specs.Option.{is_some}
use Rattle.ua_subscriptions.specs.Messages.{has_number}
use Rattle.ua_subscriptions.specs.Publishing.{forgotten}
use Rattle.ua_subscriptions.proofs.Keepings.{none_known, one_known, none_forgotten, one_forgotten}
use Rattle.ua_subscriptions.proofs.kept.Kept.forget.Goals as goal

pub returns-in-None-clause-known : goal.returns-in-None-clause-known
returns-in-None-clause-known c =
    sym (none_known c.args.number c.self.inside.messages.entries c.self.inside.places.keys c.first_place.ensures.ordered c.self.invariant c.in-None.ensures.first)
    ∙ ap (λ kept. is_some (position (has_number c.args.number) kept)) c.self.view_is

pub returns-in-None-clause-kept : goal.returns-in-None-clause-kept
returns-in-None-clause-kept c =
    sym c.self.view_is
    ∙ none_forgotten c.args.number c.self.inside.messages.entries c.self.inside.places.keys c.first_place.ensures.ordered c.self.invariant c.in-None.ensures.first
    ∙ ap (forgotten c.args.number) c.self.view_is

pub returns-in-Some-clause-known : goal.returns-in-Some-clause-known
returns-in-Some-clause-known c =
    sym (one_known c.args.number c.self.inside.messages.entries c.self.inside.places.keys c.first_place.ensures.ordered c.self.invariant c.in-Some.serial c.in-Some.ensures.first)
    ∙ ap (λ kept. is_some (position (has_number c.args.number) kept)) c.self.view_is

pub returns-in-Some-clause-kept : goal.returns-in-Some-clause-kept
returns-in-Some-clause-kept c =
    ap values_of c.remove.ensures.entries
    ∙ one_forgotten c.args.number c.self.inside.messages.entries c.self.inside.places.keys c.first_place.ensures.ordered c.self.invariant c.in-Some.serial c.in-Some.ensures.first
    ∙ ap (forgotten c.args.number) c.self.view_is
