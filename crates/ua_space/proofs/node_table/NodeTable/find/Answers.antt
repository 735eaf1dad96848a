use Rattle.std.proofs.Common.{◌∙◌, sym}
use Rattle.ua_space.proofs.Placing.{node_there}
use Rattle.ua_space.proofs.Searching.{found_none, place_found}
use Rattle.ua_space.proofs.node_table.NodeTable.find.Goals as goal

pub returns-in-Err : goal.returns-in-Err
returns-in-Err c = sym (found_none c.args.self.now (rw c.self.view_is at c.self.invariant) c.args.id.now c.in-Err.field-0 (rw c.self.view_is at c.in-Err.ensures))

pub returns-in-Ok : goal.returns-in-Ok
returns-in-Ok c =
    c.node_in_order.ensures
    ∙ node_there c.args.id.now c.args.self.now c.in-Ok.place
    (place_found c.args.self.now (rw c.self.view_is at c.self.invariant) c.args.id.now c.in-Ok.place (rw c.self.view_is at c.in-Ok.ensures))
