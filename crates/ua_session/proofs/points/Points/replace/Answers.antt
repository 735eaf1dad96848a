use Rattle.std.proofs.Common.{◌≡◌, ◌∙◌, ap, sym, subst, false, Ok}
use Rattle.std.specs.FinMap as map
use Rattle.collections.proofs.NumberMaps.{one_gone}
use Rattle.ua_types.specs.Answers.{step}
use Rattle.ua_session.specs.Points.{PointsState, is_overspent, without_point, replace_of}
use Rattle.ua_session.proofs.points.Points.replace.Goals as goal

pub returns-clause-taken : goal.returns-clause-taken
unfolding replace_of
returns-clause-taken c =
    let put = c.in_ok-next.ensures.taken in
    let held = one_gone c.self.inside.held.entries c.remove.new.self.entries c.args.serial c.remove.ensures.updates.0 in
    let was : PointsState = record { most = c.self.inside.most; made = c.self.inside.made; held = map.from_entries c.self.inside.held.entries } in (
      ap (λ s. step s.answer (without_point s.state c.args.serial)) put.0
          ∙ ap (λ s. step (Ok c.in_ok-next.next) (without_point s c.args.serial)) (sym c.self.view_is)
          ∙ ap (λ m. step (Ok c.in_ok-next.next) (record was { held = m })) (sym held),
      λ counted. subst (λ (s : PointsState). is_overspent s ≡ false) (sym c.self.view_is) (put.1 counted),
    )
