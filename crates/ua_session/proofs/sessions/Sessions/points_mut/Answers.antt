use Rattle.std.proofs.Common.{◌∙◌, refl, ap}
use Rattle.std.specs.FinMap as map
use Rattle.ua_session.proofs.LentPoints.{on_some, given_points, same_points}
use Rattle.ua_session.proofs.sessions.Sessions.points_mut.Goals as goal

pub returns : goal.returns
returns c = (
  (
    refl,
    λ w. on_some _ _ c.get_mut.result (c.get_mut.follows.holds w) (λ e. given_points _ c.args.self.now c.args.number w _ c.self.view_is e),
    same_points _ c.args.self.now _ c.self.view_is c.get_mut.follows.holds-at-none,
  ),
  record { writes_back = tt; found = c.get_mut.ensures.found ∙ ap (λ s. map.get s.points c.args.number) c.self.view_is },
)
