use Rattle.std.proofs.Common.{◌∙◌, ap}
use Rattle.std.specs.FinMap as map
use Rattle.collections.proofs.NumberMaps.{one_given}
use Rattle.ua_session.proofs.session_points.SessionPoints.insert.Goals as goal

pub returns-clause-ok : goal.returns-clause-ok
returns-clause-ok c =
    one_given c.self.inside.entries.entries c.insert.new.self.entries c.args.number c.args.points c.in_ok-insert.ensures.updates.0 ∙ ap (λ m. map.insert m c.args.number c.args.points) c.self.view_is
