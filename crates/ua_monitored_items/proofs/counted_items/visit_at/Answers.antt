use Rattle.ua_monitored_items.specs.Item.{seen}
use Rattle.ua_monitored_items.proofs.Edits.{changed_there, same_there}
use Rattle.ua_monitored_items.proofs.Serving.{on_any}
use Rattle.ua_monitored_items.proofs.counted_items.visit_at.Goals as goal

pub returns-in_err-see-clause-err : goal.returns-in_err-see-clause-err
returns-in_err-see-clause-err c =
    on_any c.from_residual.result
    (same_there c.args.number c.args.items.now (c.get_mut.follows.lender c.see.new.self) c.get_mut.result c.in-Some.item c.see.new.self
    c.in-Some.is c.get_mut.ensures.value (c.get_mut.follows.holds c.see.new.self) c.in_err-see.ensures.err)

pub returns-clause-ok : goal.returns-clause-ok
returns-clause-ok c =
    changed_there c.args.number (seen c.args.value.now) c.args.items.now (c.get_mut.follows.lender c.see.new.self) c.get_mut.result c.in-Some.item c.see.new.self
    c.in-Some.is c.get_mut.ensures.value (c.get_mut.follows.holds c.see.new.self) c.in_ok-see.ensures.ok
