use Rattle.std.proofs.Common.{rules}
use Rattle.ua_subscriptions.proofs.Askings.{own_asked, row_asked}
use Rattle.ua_subscriptions.proofs.Meetings.{absent_scene, absent_part}
use Rattle.ua_subscriptions.proofs.table.fire_in.Goals as goal

pub returns-in-None-clause-ok : goal.returns-in-None-clause-ok
returns-in-None-clause-ok c =
    absent_scene c.fire-in-None.result c.args.round.now c.args.subscription.now c.in-Some.session c.args.sessions.now.entries c.args.items.now
    c.new-in-None.result c.fire-in-None.new.round c.fire-in-None.new.subscription c.fire-in-None.new.part c.fire-in-None.new.items
    c.new-in-None.ensures (search rules) (search rules) c.fire-in-None.ensures

pub returns-in-None-clause-part : goal.returns-in-None-clause-part
returns-in-None-clause-part c =
    absent_part c.fire-in-None.result c.args.subscription.now.session c.in-Some.session c.args.sessions.now.entries c.get_mut.follows.lender-at-none.entries _ (search rules) (search rules) (search rules)

pub fire_of-requires : goal.fire_of-requires
fire_of-requires c = own_asked c.in-Some.session c.in-Some-get_mut.part.now c.args.sessions.now.entries c.args.askers.now (search rules) c.requires

pub returns-in-Some-get_mut-clause-asked : goal.returns-in-Some-get_mut-clause-asked
returns-in-Some-get_mut-clause-asked c =
    row_asked c.in-Some.session c.in-Some-get_mut.part.now c.fire_of.new.part c.args.sessions.now.entries (c.get_mut.follows.lender c.fire_of.new.part).entries c.args.askers.now c.fire_of.new.askers
    (search rules) (search rules) c.requires c.fire_of.ensures.more c.fire_of.ensures.asked
