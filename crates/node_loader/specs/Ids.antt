-- Node ids in a file: a malformed text is BadId, and a namespace that the server doesn't have is OutOfRange.
use Rattle.std.specs.Prelude.{ℕ, List, nat_le, Option, Some, None, Result, Ok, Err, if◌then◌else◌}
use Rattle.toml.specs.Data.{Members}
use Rattle.ua_types.specs.IdTexts.{id_of}
use Rattle.ua_types.specs.NodeIds.{numeric_id}
use Rattle.ua_types.specs.declared.id_texts.IdFault.{IdFault}
use Rattle.ua_types.specs.declared.node_id.NodeId.{NodeId}
use Rattle.ua_types.specs.Answers.{◌>>=◌}
use Rattle.node_loader.specs.declared.fault.Cause.{Cause}
use Rattle.node_loader.specs.declared.fault.Cause.TheVariants.{BadId, OutOfRange}
use Rattle.node_loader.specs.Keys.{word_at, required_word}

abbrev pub served_id : ℕ → Result NodeId IdFault → Result NodeId Cause
served_id highest (Ok id) = if nat_le id.namespace highest then Ok id else Err OutOfRange
served_id highest (Err e) = Err BadId

-- the id that a text says
unfoldable pub id_within : ℕ → List ℕ → Result NodeId Cause
id_within highest t = served_id highest (id_of t)

unfoldable pub id_at : ℕ → List ℕ → Members → Result NodeId Cause
id_at highest key ms = do
  text ← required_word key ms
  id_within highest text

-- or the id with this number in namespace 0
abbrev pub within_or : ℕ → ℕ → Option (List ℕ) → Result NodeId Cause
within_or highest fallback None = Ok (numeric_id 0 fallback)
within_or highest fallback (Some t) = id_within highest t

unfoldable pub id_or : ℕ → List ℕ → ℕ → Members → Result NodeId Cause
id_or highest key fallback ms = do
  found ← word_at key ms
  within_or highest fallback found

abbrev pub some_id : Result NodeId Cause → Result (Option NodeId) Cause
some_id (Ok id) = Ok (Some id)
some_id (Err c) = Err c

abbrev pub within_if_any : ℕ → Option (List ℕ) → Result (Option NodeId) Cause
within_if_any highest None = Ok None
within_if_any highest (Some t) = some_id (id_within highest t)

unfoldable pub id_if_any : ℕ → List ℕ → Members → Result (Option NodeId) Cause
id_if_any highest key ms = do
  found ← word_at key ms
  within_if_any highest found
