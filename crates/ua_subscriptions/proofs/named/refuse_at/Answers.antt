use Rattle.std.proofs.Common.{◌≡◌, rules, sym, ◌∙◌}
use Rattle.std.specs.BTreeMap.{is_at}
use Rattle.std.specs.Ordering.{nat_cmp}
use Rattle.ua_subscriptions.specs.Named.{without_requests}
use Rattle.ua_subscriptions.specs.Tables.{part_at}
use Rattle.ua_subscriptions.proofs.Meetings.{set_absent}
use Rattle.ua_subscriptions.proofs.named.refuse_at.Goals as goal

pub returns-in-None-clause-sessions : goal.returns-in-None-clause-sessions
returns-in-None-clause-sessions c =
    let same : c.get_mut.follows.lender-at-none.entries ≡ c.args.sessions.now.entries = search rules in
    same ∙ sym (set_absent (is_at (nat_cmp c.args.session)) c.args.sessions.now.entries (without_requests (part_at c.args.session c.args.sessions.now.entries)) (search rules))
