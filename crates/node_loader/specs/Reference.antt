-- An entry of the list `reference`: three ids, all required.
use Rattle.std.specs.Prelude.{ℕ, List, [], ◌∷◌, codes, Option, Some, None, Result, Ok, Err}
use Rattle.toml.specs.Data.{Members}
use Rattle.ua_space.specs.declared.triple.Part.{Part}
use Rattle.ua_space.specs.declared.triple.Triple.{Triple}
use Rattle.ua_types.specs.Answers.{◌>>=◌}
use Rattle.node_loader.specs.Ids.{id_at}
use Rattle.node_loader.specs.Keys.{only}
use Rattle.node_loader.specs.declared.fault.Cause.{Cause}
use Rattle.node_loader.specs.declared.fault.Cause.TheVariants.{WrongKind}

abbrev pub reference_keys : List (List ℕ)
reference_keys = codes "from" ∷ codes "type" ∷ codes "to" ∷ []

unfoldable pub reference_of : ℕ → Part → Members → Result Triple Cause
reference_of highest part ms = do
  known ← only reference_keys ms
  source ← id_at highest (codes "from") ms
  reference_type ← id_at highest (codes "type") ms
  target ← id_at highest (codes "to") ms
  Ok (record { source = source; reference_type = reference_type; target = target; part = part })

-- an entry that is no table is of the wrong kind
abbrev pub listed_reference_of : ℕ → Part → Option Members → Result Triple Cause
listed_reference_of highest part None = Err WrongKind
listed_reference_of highest part (Some ms) = reference_of highest part ms
