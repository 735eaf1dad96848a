-- The space that nodes and references make, or the first thing that is wrong with them.
use Rattle.std.specs.Prelude.{ℕ, ◌+◌, List, [], ◌∷◌, ◌++◌, Bool, not, ◌||◌, nat_lt, length, Option, Some, None, is_some, Result, Ok, Err, if◌then◌else◌}
use Rattle.std.specs.List.{list_any, find}
use Rattle.std.specs.BTreeMap.{insert_entry}
use Rattle.ua_types.specs.Answers.{◌>>=◌}
use Rattle.ua_types.specs.Configuration.{Configuration}
use Rattle.ua_types.specs.NodeIdOrder.{id_cmp}
use Rattle.ua_space.specs.declared.node.Node.{Node}
use Rattle.ua_space.specs.declared.triple.Triple.{Triple}
use Rattle.ua_space.specs.declared.triple.Part.TheVariants as part
use Rattle.ua_space.specs.declared.fault.SpaceFault.{SpaceFault}
use Rattle.ua_space.specs.declared.fault.SpaceFault.TheVariants.{Duplicate, DanglingReference, SubtypeLoop, Limit, History}
use Rattle.ua_space.specs.Histories.{is_history}
use Rattle.ua_space.specs.Nodes.{Nodes, SpaceState, node_at}
use Rattle.ua_space.specs.TripleOrder.{same_triple}
use Rattle.ua_space.specs.Spaces.{most_nodes, most_triples, fits}
use Rattle.ua_space.specs.Subtypes.{lies_on_loop}
use Rattle.ua_space.specs.BaseNodes.{base_nodes, base_triples}

-- what is given comes beside the base set
abbrev pub is_too_much : ℕ → ℕ → ℕ → Bool
is_too_much most base given = nat_lt most (base + given)

abbrev pub within_limits : List Node → List Node → List Triple → Result (Unit {0}) SpaceFault
within_limits base nodes triples =
    if is_too_much most_nodes (length base) (length nodes) || is_too_much most_triples (length base_triples) (length triples) then Err Limit else Ok tt

-- each node under its id, up to the first whose id is there already, or whose history is none; the nodes count from n
unfoldable pub named : ℕ → Nodes → List Node → Result Nodes SpaceFault
named n known [] = Ok known
named n known (node ∷ nodes) =
    if is_some (node_at node.id known) then Err (Duplicate (part.Node n))
    else if not (is_history node) then Err (History (part.Node n))
    else named (n + 1) (insert_entry id_cmp known node.id node) nodes

-- the base nodes, whose ids are distinct, and then the given ones
unfoldable pub all_named : List Node → List Node → Result Nodes SpaceFault
all_named base nodes = do
  known ← named 0 [] base
  named 1 known nodes

-- each reference fits and is new, up to the first that isn't
unfoldable pub linked : Nodes → List Triple → List Triple → Result (Unit {0}) SpaceFault
linked nodes before [] = Ok tt
linked nodes before (t ∷ ts) =
    if not (fits nodes t) then Err (DanglingReference t.part)
    else if list_any (same_triple t) before then Err (Duplicate t.part)
    else linked nodes (before ++ t ∷ []) ts

abbrev pub no_loop : Option Triple → Result (Unit {0}) SpaceFault
no_loop None = Ok tt
no_loop (Some t) = Err (SubtypeLoop t.part)

-- the base set and then what is given, or the first fault: of the limits, of the nodes in order, of the references
-- in order, and of loops of HasSubtype, told by their first reference
unfoldable pub space_of : Configuration → List Node → List Triple → Result SpaceState SpaceFault
space_of config nodes triples = do
  few ← within_limits (base_nodes config) nodes triples
  known ← all_named (base_nodes config) nodes
  sound ← linked known [] (base_triples ++ triples)
  ordered ← no_loop (find (lies_on_loop (base_triples ++ triples)) (base_triples ++ triples))
  Ok (record { nodes = known; triples = base_triples ++ triples })
