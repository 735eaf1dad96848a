use Rattle.server_messages.specs.Kept.{put_at}
use Rattle.value_store.specs.Keeping.{HasHistory}
use Rattle.value_store.specs.declared.rows.RowChange.TheVariants as change
use Rattle.value_store.specs.declared.rows.TableName.TheVariants as table
use Rattle.value_store.proofs.Telling.{grows_push, has_put}
use Rattle.value_store.proofs.changes.push_past.Goals as goal

pub returns-in_ok-push-in-Some-clause-changes : goal.returns-in_ok-push-in-Some-clause-changes
returns-in_ok-push-in-Some-clause-changes c =
    let id = c.args.stored.now.node_id in
    let value = c.args.stored.now.value in
    let row = c.in_ok-row-in-Some.row in
    let told = c.in_ok-row-in-Some.ensures in
    grows_push (HasHistory id (put_at value.source_time value)) (change.Put table.History row) (λ rows. has_put id told.again rows value row told.node told.source told.said) c.args.changes.now.items c.push.new.self.items
    c.in_ok-push-in-Some.ensures.items
