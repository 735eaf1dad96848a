use Rattle.std.proofs.Common.{◌∙◌, ap, sym, is_some}
use Rattle.std.specs.FinMap as map
use Rattle.collections.proofs.NumberMaps.{get_is}
use Rattle.ua_session.proofs.session_points.SessionPoints.contains.Goals as goal

pub returns : goal.returns
returns c =
    c.contains_key.ensures ∙ ap is_some (sym (get_is c.self.inside.entries.entries c.args.number) ∙ ap (λ m. map.get m c.args.number) c.self.view_is)
