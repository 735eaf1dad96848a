use Rattle.std.proofs.Common.{◌≡◌, ℕ, [], ◌∷◌, map, sym, ap, subst, ◌∙◌}
use Rattle.std.specs.declared.cmp.Ordering.TheVariants.{Less}
use Rattle.ua_subscriptions.specs.Ranks.{rank_of}
use Rattle.ua_subscriptions.specs.declared.subscription.Subscription.{Subscription}
use Rattle.subscription_laws.specs.Concern.{subscription_of}
use Rattle.subscription_laws.specs.Precedence.{precedence, IsBest, WaitsIn}
use Rattle.subscription_laws.specs.Runs.{run}
use Rattle.subscription_laws.proofs.BestFirst.{not_both}
use Rattle.subscription_laws.proofs.Entries.{some_same}
use Rattle.server_laws.proofs.stories.the_second_best_answers.Goals as goal

pub returns : goal.returns
returns c config space events before clock session asked acks rest first second s t met is none found waits behind less other comes its =
    let given = (c.table.ensures.best_first config space events).asked before clock session asked acks rest is first s none found waits in
    let best : IsBest (WaitsIn session) (run config before).subscriptions.table.subscriptions second =
    subst (IsBest (WaitsIn session) (run config before).subscriptions.table.subscriptions) (same met.subscription given.number second (ap (map subscription_of) (sym comes) ∙ given.alone) its) given.is_best in
    let it : best.best ≡ t = some_same (sym best.found ∙ behind) in
    not_both (rank_of first s) (rank_of second t) less (subst (λ (x : Subscription). precedence (rank_of second x) (rank_of first s) ≡ Less) it (best.before first s found waits other))
  where
    same : (n given second : ℕ) → n ∷ [] ≡ given ∷ [] → n ≡ second → given ≡ second
    same n given second e f = cc
