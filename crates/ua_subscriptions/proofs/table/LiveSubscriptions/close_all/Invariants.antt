use Rattle.std.proofs.Common.{◌≡◌, [], length}
use Rattle.ua_subscriptions.specs.Tables.{stage}
use Rattle.ua_subscriptions.proofs.Shutdowns.{all_closed}
use Rattle.ua_subscriptions.proofs.table.LiveSubscriptions.close_all.Given as goal

-- once those that are left are closed, all are, and none is left where there was none
abbrev pub invariant-loop-number : goal.invariant-loop-number
invariant-loop-number l =
    (all_closed (stage l.round l.self l.items) ≡ all_closed (stage l.fn.round l.fn.self l.fn.items)) × (l.fn.self.subscriptions ≡ [] → l.self.subscriptions ≡ [])

abbrev pub decreases-loop-number : goal.decreases-loop-number
decreases-loop-number l = length l.self.subscriptions
