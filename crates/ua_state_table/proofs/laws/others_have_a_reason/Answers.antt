use Rattle.ua_state_table.proofs.ReasonLemmas.{others_have_a_reason}
use Rattle.ua_state_table.proofs.laws.others_have_a_reason.Goals as goal

pub returns : goal.returns
returns c = others_have_a_reason
