-- What the texts mean.
use Rattle.std.proofs.Common.{refl}
use Rattle.sqlite_tied.specs.Compute.{everything}
use Rattle.sqlite.specs.Listing.{understood}
use Rattle.sqlite.proofs.Callers.{IsPlain}
use Rattle.value_store.specs.declared.rows.TableName.{TableName}
use Rattle.value_store.specs.declared.rows.TableName.TheVariants as table
use Rattle.value_store.specs.Tables.{store_schema}
use Rattle.value_store.specs.Laws.{add_text, renew_text, forget_text, rows_text, TablesAreUnderstood, AddsAreUnderstood, RenewalsAreUnderstood, DropsAreUnderstood, ReadsAreUnderstood}

pub tables_are : TablesAreUnderstood
unfolding understood everything
tables_are = (refl, refl, refl)

pub adds_are : AddsAreUnderstood
unfolding understood everything
adds_are table.Value = refl
adds_are table.History = refl

pub renewals_are : RenewalsAreUnderstood
unfolding understood everything
renewals_are table.Value = refl
renewals_are table.History = refl

pub drops_are : DropsAreUnderstood
unfolding understood everything
drops_are = refl

pub reads_are : ReadsAreUnderstood
unfolding understood everything
reads_are table.Value = (refl, refl)
reads_are table.History = (refl, refl)

pub add_plain : (t : TableName) → IsPlain (understood store_schema (add_text t))
unfolding understood everything
add_plain table.Value = (refl, refl)
add_plain table.History = (refl, refl)

pub renew_plain : (t : TableName) → IsPlain (understood store_schema (renew_text t))
unfolding understood everything
renew_plain table.Value = (refl, refl)
renew_plain table.History = (refl, refl)

pub forget_plain : IsPlain (understood store_schema forget_text)
unfolding understood everything
forget_plain = (refl, refl)

pub rows_plain : (t : TableName) → IsPlain (understood store_schema (rows_text t))
unfolding understood everything
rows_plain table.Value = (refl, refl)
rows_plain table.History = (refl, refl)
