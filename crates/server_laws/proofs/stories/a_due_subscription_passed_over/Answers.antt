use Rattle.std.proofs.Common.{◌≡◌, [], ◌∷◌, map, sym, ap, ◌∙◌}
use Rattle.subscription_laws.specs.Concern.{concern_of}
use Rattle.server_laws.proofs.stories.a_due_subscription_passed_over.Goals as goal

pub returns : goal.returns
returns c config space events first second row is fired =
    let each : map concern_of (row ∷ []) ≡ first ∷ second ∷ [] = ap (map concern_of) (sym fired) ∙ (c.table.ensures.one_row config space events).each ∙ is in
    absurd (cc)
