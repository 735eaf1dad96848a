use Rattle.subscription_laws.specs.Fates.{queue_moves_at}
use Rattle.subscription_laws.specs.ItemCalls.{item_calls}
use Rattle.subscription_laws.proofs.ValueFates.{all_are_made_of, those_wait, sent_in_order, they_stay, are_caused, have_their_causes}
use Rattle.subscription_laws.proofs.values_have_one_fate.Goals as goal

pub returns : goal.returns
returns c = record {
  all = all_are_made_of;
  waiting = those_wait;
  ordered = sent_in_order;
  for_good = λ config moves more number. they_stay config moves number more;
  caused = λ config moves number. are_caused config (item_calls config moves) number;
  within = λ config moves number. have_their_causes (queue_moves_at config moves number);
}
