use Rattle.subscription_laws.specs.Fates.{queue_moves_at}
use Rattle.subscription_laws.proofs.ValueFates.{losses_are_marked, each_loss_is_marked, marks_what_follows}
use Rattle.subscription_laws.proofs.no_value_is_lost_in_silence.Goals as goal

pub returns : goal.returns
returns c = record { told = losses_are_marked; at_once = λ config moves number. each_loss_is_marked (queue_moves_at config moves number); from_then_on = λ config moves number. marks_what_follows (queue_moves_at config moves number) }
