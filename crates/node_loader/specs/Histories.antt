-- The values from before that the nodes of a file have.
use Rattle.std.specs.Prelude.{◌≡◌, true, List, Ok}
use Rattle.std.specs.List.{list_all}
use Rattle.toml.specs.Data.{Items}
use Rattle.ua_space.specs.Histories.{is_history}
use Rattle.ua_space.specs.declared.node.Node.{Node}
use Rattle.ua_space.specs.declared.triple.Triple.{Triple}
use Rattle.node_loader.specs.File.{nodes_of}
use Rattle.node_loader.specs.declared.past.Setting.{Setting}

-- each node's are a history, as a space asks for it
abbrev pub NodesHaveHistories : Type 0
NodesHaveHistories = (setting : Setting) (list : Items) (nodes : List Node) (triples : List Triple) → nodes_of setting list ≡ Ok (nodes, triples) → list_all is_history nodes ≡ true
