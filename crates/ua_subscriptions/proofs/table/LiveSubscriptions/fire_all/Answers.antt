use Rattle.std.proofs.Common.{rules}
use Rattle.ua_subscriptions.specs.Tables.{stage}
use Rattle.ua_subscriptions.proofs.Places.{stops}
use Rattle.ua_subscriptions.proofs.table.LiveSubscriptions.fire_all.Goals as goal

pub returns-in-Err : goal.returns-in-Err
returns-in-Err c =
    stops c.in-Err.halt c.args.call c.args.numbers.now c.loop-number.number-index (stage c.args.round.now c.args.self.now c.args.items.now) (stage c.loop-number.round c.loop-number.self c.loop-number.items)
    (stage c.fire_one.new.round c.fire_one.new.self c.fire_one.new.items) (stage c.fire_one.new.round c.fire_one.new.self c.fire_one.new.items) c.loop-number.invariant (search rules) c.in-Err.ensures.meets
