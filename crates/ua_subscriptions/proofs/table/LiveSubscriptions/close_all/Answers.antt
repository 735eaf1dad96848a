use Rattle.std.proofs.Common.{◌≡◌, ◌<◌, length, Some, rules, sym, ap, subst, ◌∙◌}
use Rattle.std.specs.Map.{keys_of}
use Rattle.ua_subscriptions.specs.Queues.{first_of}
use Rattle.ua_subscriptions.specs.Tables.{Stage, stage}
use Rattle.ua_subscriptions.proofs.Shutdowns.{all_closed, first_closed, fewer_left, none_first, none_lives, close_stops}
use Rattle.ua_subscriptions.proofs.table.LiveSubscriptions.close_all.Goals as goal

pub loop-number-smaller : goal.loop-number-smaller
loop-number-smaller c =
    let first : first_of (keys_of c.loop-number.self.subscriptions) ≡ Some c.in-Some.number = search rules in
    subst (λ (v : Stage). length v.table.subscriptions < length c.loop-number.self.subscriptions) (sym c.in-Ok.ensures.meets)
    (fewer_left (stage c.loop-number.round c.loop-number.self c.loop-number.items) c.in-Some.number first)

pub loop-number-preserved : goal.loop-number-preserved
loop-number-preserved c =
    let first : first_of (keys_of c.loop-number.self.subscriptions) ≡ Some c.in-Some.number = search rules in (
      ap all_closed c.in-Ok.ensures.meets ∙ sym (first_closed (stage c.loop-number.round c.loop-number.self c.loop-number.items) c.in-Some.number first) ∙ c.loop-number.invariant.0,
      λ none. absurd (none_lives c.loop-number.self.subscriptions c.in-Some.number (c.loop-number.invariant.1 none) first),
    )

pub returns-in-Err-clause-met : goal.returns-in-Err-clause-met
returns-in-Err-clause-met c =
    let first : first_of (keys_of c.loop-number.self.subscriptions) ≡ Some c.in-Some.number = search rules in
    close_stops c.in-Err.halt (stage c.args.round.now c.args.self.now c.args.items.now) (stage c.loop-number.round c.loop-number.self c.loop-number.items)
    (stage c.fire_one.new.round c.fire_one.new.self c.fire_one.new.items) (stage c.fire_one.new.round c.fire_one.new.self c.fire_one.new.items) c.in-Some.number c.loop-number.invariant.0 first c.in-Err.ensures.meets

pub returns-in-Err-clause-calm : goal.returns-in-Err-clause-calm
returns-in-Err-clause-calm c = λ none.
    let first : first_of (keys_of c.loop-number.self.subscriptions) ≡ Some c.in-Some.number = search rules in
    absurd (none_lives c.loop-number.self.subscriptions c.in-Some.number (c.loop-number.invariant.1 none) first)

pub returns-clause-none : goal.returns-clause-none
returns-clause-none c = none_first (stage c.loop-number.round c.loop-number.self c.loop-number.items) (search rules)
