use Rattle.std.proofs.Common.{◌≡◌, length}
use Rattle.std.specs.Prelude.{map}
use Rattle.std.specs.List.Sorted.{IsStrictlySortedBy}
use Rattle.std.specs.Map.{keys_of}
use Rattle.std.specs.Ordering.{nat_cmp}
use Rattle.ua_subscriptions.specs.Askers.{AreAsked}
use Rattle.ua_subscriptions.specs.Ending.{entry_without_conn}
use Rattle.ua_subscriptions.proofs.ending.forget_conn.Given as goal

-- the requests that came by it go yet, or went
abbrev pub invariant-loop-session : goal.invariant-loop-session
invariant-loop-session l =
    AreAsked l.sessions.entries l.askers
    × (map (entry_without_conn l.conn) l.sessions.entries ≡ map (entry_without_conn l.conn) l.fn.sessions.entries)
    × IsStrictlySortedBy nat_cmp (keys_of l.sessions.entries)

abbrev pub decreases-loop-session : goal.decreases-loop-session
decreases-loop-session l = length l.askers
