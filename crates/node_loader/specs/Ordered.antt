-- The nodes of a file stand in its order: at each place the one that the entry there means, counted from 1.
use Rattle.std.specs.Prelude.{◌≡◌, ℕ, ◌+◌, List, Some, Ok, slice_get}
use Rattle.toml.specs.Data.{Data, Items, get_item, as_table}
use Rattle.ua_space.specs.declared.node.Node.{Node}
use Rattle.ua_space.specs.declared.triple.Part.TheVariants as part
use Rattle.ua_space.specs.declared.triple.Triple.{Triple}
use Rattle.node_loader.specs.File.{nodes_of}
use Rattle.node_loader.specs.Node.{entry_of}
use Rattle.node_loader.specs.declared.node.Entry.{Entry}
use Rattle.node_loader.specs.declared.past.Setting.{Setting}

abbrev pub NodesAreInOrder : Type 0
NodesAreInOrder = (setting : Setting) (list : Items) (nodes : List Node) (triples : List Triple) → nodes_of setting list ≡ Ok (nodes, triples)
    → (k : ℕ) (d : Data) → get_item k list ≡ Some d
    → (entry : Entry) × (entry_of setting (part.Node (1 + k)) (as_table d) ≡ Ok entry) × (slice_get nodes k ≡ Some entry.node)
