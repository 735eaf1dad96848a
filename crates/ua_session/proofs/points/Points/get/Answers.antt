use Rattle.std.proofs.Common.{◌∙◌, ap, sym}
use Rattle.std.specs.FinMap as map
use Rattle.collections.proofs.NumberMaps.{get_is}
use Rattle.ua_session.proofs.points.Points.get.Goals as goal

pub returns : goal.returns
returns c = c.get.ensures.value ∙ sym (get_is c.self.inside.held.entries c.args.serial) ∙ ap (λ s. map.get s.held c.args.serial) c.self.view_is
