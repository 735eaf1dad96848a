use Rattle.std.proofs.Common.{refl}
use Rattle.toml.specs.Data.{as_table}
use Rattle.toml.specs.View.{items_view}
use Rattle.ua_space.specs.declared.triple.Part.TheVariants as part
use Rattle.node_loader.specs.File.{in_part, nodes_of}
use Rattle.node_loader.specs.Node.{entry_of}
use Rattle.node_loader.proofs.Loops.{nodes_begin, node_goes_on}
use Rattle.node_loader.proofs.file.nodes.Goals as goal

pub loop-place-init : goal.loop-place-init
loop-place-init c =
    rw (c.new-nodes.ensures.items, c.new-triples.ensures.items) (nodes_begin c.args.setting.now (items_view c.args.values.now))

pub loop-place-preserved : goal.loop-place-preserved
loop-place-preserved c =
    rw (c.in_ok-keep-in-Ok.ensures.nodes, c.in_ok-keep-in-Ok.ensures.triples)
    (node_goes_on (λ n d. in_part (part.Node n) (entry_of c.args.setting.now (part.Node n) (as_table d)))
    c.args.values.now c.loop-place.place c.index-values-place.result c.in-Ok.entry
    c.loop-place.nodes.items c.loop-place.triples.items (nodes_of c.args.setting.now (items_view c.args.values.now))
    c.loop-place-test.true c.index-values-place.is (rw c.in-Ok.ensures.given refl) c.loop-place.invariant)
