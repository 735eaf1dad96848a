use Rattle.std.proofs.Common.{◌≡◌, ◌+◌, drop}
use Rattle.toml.specs.Data.{as_table}
use Rattle.toml.specs.View.{items_view}
use Rattle.ua_space.specs.declared.triple.Part.TheVariants as part
use Rattle.node_loader.specs.Lists.{each}
use Rattle.node_loader.specs.File.{in_part, nodes_of}
use Rattle.node_loader.specs.Node.{entry_of}
use Rattle.node_loader.proofs.Loops.{joined}
use Rattle.node_loader.proofs.file.nodes.Given as goal

-- the nodes and the references so far, and what the others say
abbrev pub invariant-loop-place : goal.invariant-loop-place
invariant-loop-place l =
    joined l.nodes.items l.triples.items (each (λ n d. in_part (part.Node n) (entry_of l.setting (part.Node n) (as_table d))) (l.place + 1) (items_view (drop l.place l.values)))
    ≡ nodes_of l.setting (items_view l.values)
