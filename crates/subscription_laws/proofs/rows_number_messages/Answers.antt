use Rattle.subscription_laws.proofs.MadeMessages.{row_makes}
use Rattle.subscription_laws.proofs.rows_number_messages.Goals as goal

pub returns : goal.returns
returns c = row_makes
