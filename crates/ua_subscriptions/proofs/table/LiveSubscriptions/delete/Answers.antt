use Rattle.ua_views.specs.Views.{or_none}
use Rattle.ua_subscriptions.specs.Tables.{stage}
use Rattle.ua_subscriptions.proofs.Places.{deleted_stops}
use Rattle.ua_subscriptions.proofs.table.LiveSubscriptions.delete.Goals as goal

pub returns-in-Err : goal.returns-in-Err
returns-in-Err c =
    deleted_stops c.in-Err.halt c.args.session (or_none c.args.numbers) (stage c.args.round.now c.args.self.now c.args.items.now)
    (stage c.fire_named.new.round c.fire_named.new.self c.fire_named.new.items) (stage c.fire_named.new.round c.fire_named.new.self c.fire_named.new.items) c.in-Err.ensures
