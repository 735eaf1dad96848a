use Rattle.std.proofs.Common.{rules, ◌≡◌, true, is_some}
use Rattle.std.specs.FinMap as map
use Rattle.ua_session.specs.Points.{no_points}
use Rattle.ua_session.proofs.LentPoints.{points_stay}
use Rattle.ua_session.proofs.sessions.Sessions.open_points.Goals as goal

pub returns-else-not-contains-clause-ok : goal.returns-else-not-contains-clause-ok
returns-else-not-contains-clause-ok c =
    let some : is_some (map.get c.args.self.now.points c.args.number) ≡ true = search rules in
    points_stay c.args.self.now c.args.number (no_points c.args.self.now.most_points) some
