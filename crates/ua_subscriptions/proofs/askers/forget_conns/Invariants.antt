use Rattle.std.proofs.Common.{◌≡◌, false, length}
use Rattle.std.specs.BTreeMap.{is_at}
use Rattle.std.specs.Ordering.{nat_cmp}
use Rattle.ua_subscriptions.specs.declared.askers.Asker.{Asker}
use Rattle.ua_subscriptions.specs.Askers.{has_asker, AreMirrored}
use Rattle.ua_subscriptions.proofs.askers.forget_conns.Given as goal

-- those of other sessions stay, in both
abbrev pub invariant-loop-conn : goal.invariant-loop-conn
invariant-loop-conn l =
    ((q : Asker) → is_at (nat_cmp l.session) q.session ≡ false → has_asker l.by_conn.keys q ≡ has_asker l.fn.by_conn.keys q)
    × AreMirrored l.by_conn.keys l.by_session.keys

abbrev pub decreases-loop-conn : goal.decreases-loop-conn
decreases-loop-conn l = length l.by_session.keys
