use Rattle.std.proofs.Common.{◌∙◌, ap, sym}
use Rattle.std.specs.FinMap as map
use Rattle.collections.proofs.NumberMaps.{get_is, one_gone}
use Rattle.ua_session.specs.Points.{PointsState, without_point}
use Rattle.ua_session.proofs.points.Points.give_up.Goals as goal

pub returns-clause-point : goal.returns-clause-point
returns-clause-point c =
    c.remove.ensures.value ∙ sym (get_is c.self.inside.held.entries c.args.serial) ∙ ap (λ s. map.get s.held c.args.serial) c.self.view_is

pub returns-clause-rest : goal.returns-clause-rest
returns-clause-rest c =
    let held = one_gone c.self.inside.held.entries c.remove.new.self.entries c.args.serial c.remove.ensures.updates.0 in
    let was : PointsState = record { most = c.self.inside.most; made = c.self.inside.made; held = map.from_entries c.self.inside.held.entries } in
    ap (λ m. record was { held = m }) held ∙ ap (λ s. without_point s c.args.serial) c.self.view_is
