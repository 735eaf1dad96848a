use Rattle.subscription_laws.proofs.AskedNumbers.{no_waiting_passed_over}
use Rattle.subscription_laws.proofs.BestFirst.{comes_to_the_best}
use Rattle.subscription_laws.proofs.the_waiting_come_best_first.Goals as goal

pub returns : goal.returns
returns c = record { none_passed_over = no_waiting_passed_over; asked = comes_to_the_best }
