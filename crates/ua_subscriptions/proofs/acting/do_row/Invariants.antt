use Rattle.std.proofs.Common.{◌≡◌, take}
use Rattle.ua_state_table.specs.StateTable.{actions_of}
use Rattle.ua_subscriptions.specs.Scenes.{scene, all_done}
use Rattle.ua_subscriptions.proofs.acting.do_row.Given as goal

-- the actions so far were done
abbrev pub invariant-loop-action : goal.invariant-loop-action
invariant-loop-action l =
    scene l.round l.subscription l.part l.items ≡ all_done (scene l.fn.round l.fn.subscription l.fn.part l.fn.items) (take l.action-index (actions_of l.fn.row))
