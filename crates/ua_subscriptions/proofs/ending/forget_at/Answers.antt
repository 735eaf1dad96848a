use Rattle.std.proofs.Common.{◌≡◌, rules, sym, ◌∙◌}
use Rattle.std.specs.BTreeMap.{is_at}
use Rattle.std.specs.Ordering.{nat_cmp}
use Rattle.ua_subscriptions.specs.Ending.{part_without_conn}
use Rattle.ua_subscriptions.specs.Tables.{part_at}
use Rattle.ua_subscriptions.proofs.Meetings.{set_absent}
use Rattle.ua_subscriptions.proofs.ending.forget_at.Goals as goal

pub returns-in-None : goal.returns-in-None
returns-in-None c =
    let same : c.get_mut.follows.lender-at-none.entries ≡ c.args.sessions.now.entries = search rules in
    same ∙ sym (set_absent (is_at (nat_cmp c.args.session)) c.args.sessions.now.entries (part_without_conn c.args.conn (part_at c.args.session c.args.sessions.now.entries)) (search rules))
