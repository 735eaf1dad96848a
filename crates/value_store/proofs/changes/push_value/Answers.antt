use Rattle.value_store.specs.Keeping.{HasValue}
use Rattle.value_store.specs.declared.rows.RowChange.TheVariants as change
use Rattle.value_store.specs.declared.rows.TableName.TheVariants as table
use Rattle.value_store.proofs.Telling.{grows_push, has_value}
use Rattle.value_store.proofs.changes.push_value.Goals as goal

pub returns-clause-changes : goal.returns-clause-changes
returns-clause-changes c =
    let id = c.args.stored.now.node_id in
    let value = c.args.stored.now.value in
    let row = c.in_ok-row.row in
    let told = c.in_ok-row.ensures in
    grows_push (HasValue id value) (change.Put table.Value row) (λ rows. has_value id told.again rows value row told.node told.said) c.args.changes.now.items c.push.new.self.items c.in_ok-push.ensures.items
