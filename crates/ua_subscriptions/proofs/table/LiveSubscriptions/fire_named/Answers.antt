use Rattle.std.proofs.Common.{◌∙◌, ◌++◌, ap, sym}
use Rattle.ua_views.specs.Views.{or_none}
use Rattle.ua_subscriptions.specs.Tables.{stage}
use Rattle.ua_subscriptions.proofs.Places.{named_stops}
use Rattle.ua_subscriptions.proofs.table.LiveSubscriptions.fire_named.Goals as goal

pub returns-in-Err : goal.returns-in-Err
returns-in-Err c =
    named_stops c.in-Err.halt c.args.session c.args.call c.loop-number.yielded c.in-Some.number (or_none c.next.new.self) (or_none c.args.numbers)
    (stage c.args.round.now c.args.self.now c.args.items.now) (stage c.loop-number.round c.loop-number.self c.loop-number.items)
    (stage c.fire_own.new.round c.fire_own.new.self c.fire_own.new.items) (stage c.fire_own.new.round c.fire_own.new.self c.fire_own.new.items) c.loop-number.results
    c.loop-number.invariant.met (ap (λ xs. c.loop-number.yielded ++ xs) (sym c.in-Some.ensures.steps) ∙ c.loop-number.invariant.left) c.in-Err.ensures
