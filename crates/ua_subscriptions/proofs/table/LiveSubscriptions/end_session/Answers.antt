use Rattle.std.proofs.Common.{rules, ◌∙◌}
use Rattle.ua_subscriptions.specs.Tables.{stage}
use Rattle.ua_subscriptions.proofs.Askings.{out_asked}
use Rattle.ua_subscriptions.proofs.Places.{end_stops}
use Rattle.ua_subscriptions.proofs.table.LiveSubscriptions.end_session.Goals as goal

pub returns-in-Err : goal.returns-in-Err
returns-in-Err c =
    end_stops c.in-Err.halt c.args.session c.args.deleting c.as_slice.result.now (stage c.args.round.now c.args.self.now c.args.items.now)
    (stage c.fire_all.new.round c.fire_all.new.self c.fire_all.new.items) (stage c.fire_all.new.round c.fire_all.new.self c.fire_all.new.items) (search rules) c.in-Err.ensures

pub invariant_of-self : goal.invariant_of-self
invariant_of-self c = (
  c.self.invariant.0,
  out_asked c.args.session c.self.inside.sessions.entries c.remove.new.self.entries c.self.inside.askers c.forget.new.self c.remove.ensures.updates.0 c.self.invariant.1
      (λ q apart there. c.forget.ensures.others q apart ∙ there),
)
