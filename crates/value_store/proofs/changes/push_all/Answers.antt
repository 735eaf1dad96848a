use Rattle.std.proofs.Common.{rules, ◌≡◌, true, false}
use Rattle.value_store.specs.Keeping.{kept_after}
use Rattle.value_store.proofs.Closing.{on_ok}
use Rattle.value_store.proofs.Telling.{stored_now, stored_past}
use Rattle.value_store.proofs.changes.push_all.Goals as goal

pub returns-then-not-stored-clause-changes : goal.returns-then-not-stored-clause-changes
returns-then-not-stored-clause-changes c rows =
    let not : c.args.stored.now.is_historical ≡ false = search rules in
    stored_now c.args.stored.now not (kept_after rows c.args.changes.now.items) (kept_after rows c.push_value.new.changes.items) (c.in_ok-push_value.ensures.changes rows)

pub returns-clause-changes : goal.returns-clause-changes
returns-clause-changes c =
    let is : c.args.stored.now.is_historical ≡ true = search rules in
    on_ok c.push_dropped.result c.push_dropped.ensures.changes (λ drop rows. stored_past c.args.stored.now is (kept_after rows c.args.changes.now.items)
    (kept_after rows c.push_value.new.changes.items) (kept_after rows c.push_past.new.changes.items) (kept_after rows c.push_dropped.new.changes.items) (c.in_ok-push_value.ensures.changes rows)
    (c.in_ok-push_past.ensures.changes rows) (drop rows))
