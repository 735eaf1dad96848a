use Rattle.std.proofs.Common.{sym, ap, subst, ◌∙◌}
use Rattle.std.specs.Prelude.{map}
use Rattle.std.specs.List.Sorted.{IsStrictlySortedBy}
use Rattle.std.specs.BTreeMap.{is_at}
use Rattle.std.specs.Map.{keys_of}
use Rattle.std.specs.Ordering.{nat_cmp}
use Rattle.ua_subscriptions.specs.Askers.{AreAsked}
use Rattle.ua_subscriptions.specs.Ending.{part_without_conn, entry_without_conn}
use Rattle.ua_subscriptions.specs.Tables.{part_at}
use Rattle.ua_subscriptions.proofs.Askings.{step_asked, one_forgotten, keys_stay, none_left}
use Rattle.ua_subscriptions.proofs.ending.forget_conn.Goals as goal

pub loop-session-preserved : goal.loop-session-preserved
loop-session-preserved c =
    let conn = c.args.conn in
    let session = c.in-Some.session in
    let sessions = c.loop-session.sessions.entries in
    let set = c.forget_at.ensures in (
      subst (λ es. AreAsked es c.take.new.self) (sym set) (step_asked conn session c.loop-session.askers c.take.new.self c.in-Some.ensures.some sessions c.loop-session.invariant.0),
      ap (map (entry_without_conn conn)) set ∙ one_forgotten conn session sessions ∙ c.loop-session.invariant.1,
      subst (IsStrictlySortedBy nat_cmp) (sym (ap keys_of set ∙ keys_stay (is_at (nat_cmp session)) sessions (part_without_conn conn (part_at session sessions)))) c.loop-session.invariant.2,
    )

pub returns-clause-sessions : goal.returns-clause-sessions
returns-clause-sessions c =
    none_left c.args.conn c.loop-session.askers c.in_default.ensures.none c.loop-session.sessions.entries c.loop-session.invariant.2 c.loop-session.invariant.0
    ∙ c.loop-session.invariant.1
