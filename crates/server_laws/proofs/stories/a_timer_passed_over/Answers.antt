use Rattle.std.proofs.Common.{map, sym, ◌∙◌}
use Rattle.std.proofs.lemmas.Bool.{false≢true}
use Rattle.subscription_laws.specs.Concern.{subscription_of, concerned}
use Rattle.subscription_laws.specs.Precedence.{IsDueAt}
use Rattle.subscription_laws.specs.Runs.{Move, run}
use Rattle.subscription_laws.proofs.BestFirst.{all_listed}
use Rattle.server_laws.proofs.stories.a_timer_passed_over.Goals as goal

pub returns : goal.returns
returns c config space events before clock rest number s is found due out =
    let r = run config before in
    false≢true (sym out ∙ all_listed (IsDueAt clock) r.subscriptions.table.subscriptions (map subscription_of (concerned r (Move.Timers clock))) number s ((c.table.ensures.best_first config space events).due before clock rest is) found due)
