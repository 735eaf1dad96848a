use Rattle.std.proofs.Common.{◌≡◌, ℕ, ◌+◌, ◌<◌, slice_index_or}
use Rattle.std.specs.declared.cmp.Ordering.TheVariants.{Less}
use Rattle.server_messages.specs.declared.kept_values.KeptValue.{KeptValue}
use Rattle.value_store.specs.Restoring.{order_in}
use Rattle.value_store.proofs.restoring.rise.Given as goal

abbrev pub invariant-each : goal.invariant-each
invariant-each l = (i : ℕ) (d : KeptValue) → i + 1 < l.place → order_in l.table (slice_index_or l.kept i d) (slice_index_or l.kept (i + 1) d) ≡ Less
