use Rattle.std.proofs.Common.{◌∙◌, ap}
use Rattle.std.specs.FinMap as map
use Rattle.collections.proofs.NumberMaps.{one_gone}
use Rattle.ua_session.proofs.session_points.SessionPoints.remove.Goals as goal

pub returns : goal.returns
returns c =
    one_gone c.self.inside.entries.entries c.remove.new.self.entries c.args.number c.remove.ensures.updates.0 ∙ ap (λ m. map.remove m c.args.number) c.self.view_is
