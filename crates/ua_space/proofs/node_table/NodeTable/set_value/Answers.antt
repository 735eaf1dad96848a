use Rattle.std.proofs.Common.{sym, ◌∙◌, ap}
use Rattle.ua_space.specs.Values.{put}
use Rattle.ua_space.proofs.Searching.{keys_kept, found_none, set_there, taken_there}
use Rattle.ua_space.proofs.node_table.NodeTable.set_value.Goals as goal

pub set_in-requires : goal.set_in-requires
set_in-requires c = taken_there c.self.inside.entries.items c.self.invariant c.of.result c.in-Ok.place c.args.value c.in-Ok.ensures (rw (c.self.view_is, c.of.ensures) c.requires)

pub invariant_of-self : goal.invariant_of-self
invariant_of-self c = rw (c.set_in.ensures, keys_kept c.self.inside.entries.items c.in-Ok.place c.args.value) c.self.invariant

pub returns-in-Err : goal.returns-in-Err
returns-in-Err c = rw (← c.of.ensures) (sym (ap (put c.of.result c.args.value c.args.self.now) (found_none c.args.self.now (rw c.self.view_is at c.self.invariant) c.of.result c.in-Err.field-0 (rw c.self.view_is at c.in-Err.ensures))))

pub returns-in-Ok : goal.returns-in-Ok
returns-in-Ok c =
    rw (← c.of.ensures) ((rw c.self.view_is at c.set_in.ensures) ∙ set_there c.args.self.now (rw c.self.view_is at c.self.invariant) c.of.result c.in-Ok.place c.args.value (rw c.self.view_is at c.in-Ok.ensures))
