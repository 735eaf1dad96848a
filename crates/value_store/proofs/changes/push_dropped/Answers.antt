use Rattle.std.proofs.Common.{Option, Some, sym, subst}
use Rattle.ua_types.specs.declared.moment.Moment.{Moment}
use Rattle.server_messages.specs.Kept.{dropped_at}
use Rattle.value_store.specs.Keeping.{HasHistory, Grows}
use Rattle.value_store.specs.declared.rows.RowChange.TheVariants as change
use Rattle.value_store.proofs.Telling.{grows_push, has_dropped}
use Rattle.value_store.proofs.changes.push_dropped.Goals as goal

pub returns-in_ok-push-in-Some-clause-changes : goal.returns-in_ok-push-in-Some-clause-changes
returns-in_ok-push-in-Some-clause-changes c =
    let id = c.args.id.now in
    let time = c.in-Some.time in
    let key = c.in_ok-key-in-Some.key in
    let told = c.in_ok-key-in-Some.ensures in
    let old = c.args.changes.now.items in
    let new = c.push.new.self.items in
    let grown = grows_push (HasHistory id (dropped_at (Some time))) (change.Forget key) (λ rows. has_dropped id told.again rows time key told.key.0 told.key.1) old new c.in_ok-push-in-Some.ensures.items in
    subst (λ (d : Option Moment). Grows (HasHistory id (dropped_at d)) old new) (sym c.in-Some.is) grown
