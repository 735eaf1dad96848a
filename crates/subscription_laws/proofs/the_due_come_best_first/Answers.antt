use Rattle.subscription_laws.proofs.BestFirst.{none_passed_over, each_is_met}
use Rattle.subscription_laws.proofs.the_due_come_best_first.Goals as goal

pub returns : goal.returns
returns c = record { none_passed_over = none_passed_over; each_fires = each_is_met }
