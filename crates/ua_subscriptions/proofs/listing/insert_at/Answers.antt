use Rattle.std.proofs.Common.{◌≡◌, ◌≢◌, false, cond, sym, ap, subst, ◌∙◌, rules}
use Rattle.std.specs.BTreeMap.{is_at}
use Rattle.ua_subscriptions.specs.DueLists.{due_at, due_cmp, has_due, has_moved}
use Rattle.ua_subscriptions.specs.Tables.{subscription_at}
use Rattle.collections.proofs.NumberMaps.{same_number}
use Rattle.ua_subscriptions.proofs.Listings.{HasMoment, had_moment, moved, stayed, swapped}
use Rattle.ua_subscriptions.proofs.listing.insert_at.Goals as goal

pub returns-then-ne-clause-listed : goal.returns-then-ne-clause-listed
returns-then-ne-clause-listed c = λ q.
    let number = c.args.number in
    let before = c.in-Some.before in
    let subscriptions = c.args.subscriptions.now.entries in
    let apart : before ≢ c.args.subscription.due = search rules in
    let was_there : HasMoment before (subscription_at number subscriptions) = had_moment before (subscription_at number subscriptions) (sym c.in-Some.is ∙ c.moment_of-before.ensures) in
    let changed =
    c.remove-then-ne.ensures q
    ∙ ap (cond (is_at (due_cmp (due_at before number)) q) false) (c.in_ok-insert.ensures.ok q)
    ∙ swapped number before c.args.subscription.due q (has_due c.args.dues.now q) apart in
    moved number before c.args.subscription q (subscription_at q.number subscriptions) (subscription_at q.number c.insert-2.new.self.entries)
    (has_due c.args.dues.now q) (has_due c.remove-then-ne.new.self q)
    (λ at. subst (λ k. HasMoment before (subscription_at k subscriptions)) (same_number number q.number at) was_there)
    (c.in-Ok.ensures.updates.0 q.number) (c.requires q) changed

pub returns-else-ne-clause-listed : goal.returns-else-ne-clause-listed
returns-else-ne-clause-listed c = λ q.
    let number = c.args.number in
    let before = c.in-Some.before in
    let subscriptions = c.args.subscriptions.now.entries in
    let same : before ≡ c.args.subscription.due = search rules in
    let was_there : HasMoment before (subscription_at number subscriptions) = had_moment before (subscription_at number subscriptions) (sym c.in-Some.is ∙ c.moment_of-before.ensures) in
    let changed =
    c.in_ok-insert.ensures.ok q
    ∙ stayed number c.args.subscription.due q (has_due c.args.dues.now q)
    ∙ ap (λ m. has_moved number m c.args.subscription.due q (has_due c.args.dues.now q)) (sym same) in
    moved number before c.args.subscription q (subscription_at q.number subscriptions) (subscription_at q.number c.insert-2.new.self.entries)
    (has_due c.args.dues.now q) (has_due c.insert.new.self q)
    (λ at. subst (λ k. HasMoment before (subscription_at k subscriptions)) (same_number number q.number at) was_there)
    (c.in-Ok.ensures.updates.0 q.number) (c.requires q) changed
