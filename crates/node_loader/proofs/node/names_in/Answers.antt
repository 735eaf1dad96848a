use Rattle.std.proofs.Common.{rules}
use Rattle.node_loader.specs.Node.{names_of}
use Rattle.node_loader.proofs.node.names_in.Goals as goal

pub returns : goal.returns
unfolding names_of
returns c = rw (← c.in_ok-name.ensures.given, ← c.in_ok-name_ns.ensures.given, c.in_ok-display.ensures.given, c.in_ok-description.ensures.given) (search rules)
