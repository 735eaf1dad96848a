use Rattle.std.proofs.Common.{◌≡◌, ◌+◌, drop}
use Rattle.toml.specs.Data.{as_table}
use Rattle.toml.specs.View.{items_view}
use Rattle.ua_space.specs.declared.triple.Part.TheVariants as part
use Rattle.node_loader.specs.Lists.{each, after}
use Rattle.node_loader.specs.File.{in_part, references_of}
use Rattle.node_loader.specs.Reference.{listed_reference_of}
use Rattle.node_loader.proofs.file.with_references.Given as goal

-- the references so far, and what the others say
abbrev pub invariant-loop-place : goal.invariant-loop-place
invariant-loop-place l =
    after l.all.items (each (λ n d. in_part (part.Reference n) (listed_reference_of l.highest (part.Reference n) (as_table d))) (l.place + 1) (items_view (drop l.place l.values)))
    ≡ after l.initial.all.items (references_of l.highest (items_view l.values))
