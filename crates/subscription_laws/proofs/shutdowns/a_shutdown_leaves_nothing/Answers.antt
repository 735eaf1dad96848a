use Rattle.subscription_laws.proofs.ShutdownLemmas.{all_are_answered, all_are_concerned, none_is_left}
use Rattle.subscription_laws.proofs.shutdowns.a_shutdown_leaves_nothing.Goals as goal

pub returns : goal.returns
returns c = record { answered = all_are_answered; nothing = none_is_left; concerned = all_are_concerned }
