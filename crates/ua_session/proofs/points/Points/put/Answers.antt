use Rattle.std.proofs.Common.{◌∙◌, ◌+◌, ap, sym, arith, Ok}
use Rattle.std.specs.FinMap as map
use Rattle.collections.proofs.NumberMaps.{one_given}
use Rattle.ua_types.specs.Answers.{step}
use Rattle.ua_session.specs.Points.{PointsState, put_of}
use Rattle.ua_session.proofs.points.Points.put.Goals as goal

pub returns-clause-taken : goal.returns-clause-taken
returns-clause-taken c =
    let next = c.self.inside.made + 1 in
    let held = one_given c.self.inside.held.entries c.insert.new.self.entries next c.args.point c.in_ok-insert.ensures.updates.0 in
    let was : PointsState = record { most = c.self.inside.most; made = c.self.inside.made; held = map.from_entries c.self.inside.held.entries } in (
      ap (λ s. put_of s c.args.point) (sym c.self.view_is)
          ∙ ap (λ m. step (Ok next) (record was { made = next; held = m })) (sym held),
      λ counted. grind arith,
    )
