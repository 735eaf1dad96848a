use Rattle.subscription_laws.proofs.KeepAlives.{keep_alive_told, keep_alive_unused}
use Rattle.subscription_laws.proofs.keep_alives_have_the_next_number.Goals as goal

pub returns : goal.returns
returns c = record { answers = keep_alive_told; unused = keep_alive_unused }
