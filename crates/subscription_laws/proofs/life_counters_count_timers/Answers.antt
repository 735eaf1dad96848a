use Rattle.subscription_laws.proofs.Reached.{lives_count}
use Rattle.subscription_laws.proofs.life_counters_count_timers.Goals as goal

pub returns : goal.returns
returns c = lives_count
