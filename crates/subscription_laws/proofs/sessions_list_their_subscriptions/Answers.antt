use Rattle.subscription_laws.proofs.Reached.{sessions_list, lists_own, lists_numbers}
use Rattle.subscription_laws.proofs.sessions_list_their_subscriptions.Goals as goal

pub returns : goal.returns
returns c = record { listed = sessions_list; own = lists_own; lists = lists_numbers }
