use Rattle.std.proofs.Common.{◌++◌, [], ◌∷◌, ap, ◌∙◌}
use Rattle.std.specs.Map.{values_of}
use Rattle.ua_subscriptions.proofs.Keepings.{pushed, one_placed}
use Rattle.ua_subscriptions.proofs.kept.Kept.push.Goals as goal

pub returns : goal.returns
returns c =
    ap values_of c.in-Ok.ensures.entries ∙ pushed c.in-Some.serial c.args.message c.self.inside.messages.entries c.in-Some.ensures ∙ ap (λ kept. kept ++ c.args.message ∷ []) c.self.view_is

pub invariant_of-self-in-Ok : goal.invariant_of-self-in-Ok
invariant_of-self-in-Ok c =
    one_placed c.in-Some.serial c.args.message c.self.inside.messages.entries c.insert-2.new.self.entries c.self.inside.places.keys c.insert.new.self.keys c.self.invariant c.in-Some.ensures
    c.in_ok-insert.ensures.updates.0 c.in-Ok.ensures.updates.0
