-- What is read back of the tables.
use Rattle.std.specs.Prelude.{◌≡◌, ◌<◌, ◌+◌, ℕ, ℤ, pos, List, length, slice_index_or, string_bytes, Option, Some, None, Ok}
use Rattle.std.specs.declared.cmp.Ordering.{Ordering}
use Rattle.std.specs.declared.cmp.Ordering.TheVariants.{Less}
use Rattle.std.specs.Ordering.{int_cmp, ordering_then}
use Rattle.ua_types.specs.IdTexts.{id_text, id_of}
use Rattle.ua_types.specs.NodeIdOrder.{id_cmp}
use Rattle.ua_types.specs.declared.moment.Moment.{Moment}
use Rattle.server_messages.specs.declared.kept_values.KeptValue.{KeptValue}
use Rattle.sqlite.specs.declared.types.Value.TheVariants.{Int}
use Rattle.sqlite.specs.Values.{or_null}
use Rattle.value_store.specs.declared.rows.StoredRow.{StoredRow}
use Rattle.value_store.specs.declared.rows.TableName.{TableName}
use Rattle.value_store.specs.declared.rows.TableName.TheVariants as table
use Rattle.value_store.specs.Forms.{said_of, time_said}

-- the row says the value, of the variable whose id its text is written for
pub record IsOf (r : StoredRow) (k : KeptValue) : Type 0 where
  pub text : id_text k.node_id ≡ string_bytes r.node
  pub again : id_of (id_text k.node_id) ≡ Ok k.node_id
  pub value : said_of r ≡ Some k.value
  pub source : time_said (or_null Int r.source_time) ≡ Some k.value.source_time

abbrev pub source_ticks : Option Moment → ℤ
source_ticks None = pos 0
source_ticks (Some moment) = moment.0

-- the order of ids, and in `history` then that of times
abbrev pub order_in : TableName → KeptValue → KeptValue → Ordering
order_in table.Value a b = id_cmp a.node_id b.node_id
order_in table.History a b = ordering_then (id_cmp a.node_id b.node_id) (int_cmp (source_ticks a.value.source_time) (source_ticks b.value.source_time))

-- each stands before the next, so that no two are of one key
abbrev pub Rise : (KeptValue → KeptValue → Ordering) → List KeptValue → Type 0
Rise order kept = (i : ℕ) (d : KeptValue) → i + 1 < length kept → order (slice_index_or kept i d) (slice_index_or kept (i + 1) d) ≡ Less
