use Rattle.std.proofs.Common.{◌≡◌, ap, subst}
use Rattle.std.specs.Prelude.{OnOk, OnErr}
use Rattle.ua_monitored_items.specs.ItemTables.{NumberedItems}
use Rattle.ua_monitored_items.specs.Releases.{shown, ShownSome}
use Rattle.ua_monitored_items.proofs.Showing.{table_after, ok_after, err_after}
use Rattle.ua_monitored_items.proofs.item_table.ItemTable.sample.Goals as goal

pub invariant_of-self : goal.invariant_of-self
invariant_of-self c =
    let t = c.self.inside in
    table_after t.made t.of_subscription t.on_node t.items c.self.invariant c.sample_all.new.items c.args.changed.now c.sample_all.result c.sample_all.ensures.ok c.sample_all.ensures.err

pub returns-clause-ok : goal.returns-clause-ok
returns-clause-ok c =
    let t = c.self.inside in
    subst (λ (es : NumberedItems). OnOk c.sample_all.result (c.sample_all.new.items ≡ shown es c.args.changed.now)) (ap (λ s. s.items) c.self.view_is)
    (ok_after t.made t.of_subscription t.on_node t.items c.self.invariant c.sample_all.new.items c.args.changed.now c.sample_all.result c.sample_all.ensures.ok)

pub returns-clause-err : goal.returns-clause-err
returns-clause-err c =
    let t = c.self.inside in
    subst (λ (es : NumberedItems). OnErr c.sample_all.result (ShownSome es c.sample_all.new.items c.args.changed.now)) (ap (λ s. s.items) c.self.view_is)
    (err_after t.made t.of_subscription t.on_node t.items c.self.invariant c.sample_all.new.items c.args.changed.now c.sample_all.result c.sample_all.ensures.err)
