use Rattle.std.proofs.Common.{◌∙◌, ap}
use Rattle.std.specs.FinMap as map
use Rattle.collections.proofs.NumberMaps.{count_is}
use Rattle.ua_session.proofs.points.Points.len.Goals as goal

pub returns : goal.returns
returns c = c.len.ensures.len ∙ count_is c.self.inside.held.entries c.len.ensures.ordered ∙ ap (λ s. map.len s.held) c.self.view_is
