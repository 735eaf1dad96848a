use Rattle.std.proofs.Common.{◌≡◌}
use Rattle.std.proofs.lemmas.Result.{IfOk-weaker}
use Rattle.ua_subscriptions.specs.DueLists.{ranks_at}
use Rattle.ua_subscriptions.specs.Ranks.{due_of}
use Rattle.ua_subscriptions.proofs.Listings.{due_ranks}
use Rattle.ua_subscriptions.proofs.waiting.due_of.Goals as goal

pub returns : goal.returns
returns c =
    let subscriptions = c.args.subscriptions.now.entries in
    let numbers = c.in_ok-numbers.numbers in
    IfOk-weaker c.ranks_of.result (λ ranks. ranks ≡ ranks_at subscriptions numbers.keys) (λ ranks. ranks ≡ due_of c.args.clock subscriptions)
    (λ ranks e. due_ranks c.args.clock subscriptions c.args.dues.now numbers ranks c.requires.listed c.requires.ordered c.ranks_of.ensures.ordered c.in_ok-numbers.ensures e)
    c.ranks_of.ensures.ranks
