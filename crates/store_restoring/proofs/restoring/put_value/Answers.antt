use Rattle.store_restoring.proofs.Ids.{valued_keys}
use Rattle.store_restoring.proofs.Steps.{value_put}
use Rattle.store_restoring.proofs.restoring.put_value.Goals as goal

pub returns-clause-nodes : goal.returns-clause-nodes
returns-clause-nodes c =
    let put = value_put c.args.kept c.args.space.now.nodes c.in-Ok.ensures.fits in
    rw (c.set_value_in.ensures.nodes c.args.kept.node_id c.in-Ok.ensures.place) put

pub returns-clause-ids : goal.returns-clause-ids
returns-clause-ids c =
    rw (c.set_value_in.ensures.nodes c.args.kept.node_id c.in-Ok.ensures.place) (valued_keys c.args.kept.node_id c.args.kept.value c.args.space.now.nodes)
