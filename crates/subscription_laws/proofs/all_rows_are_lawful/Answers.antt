use Rattle.subscription_laws.proofs.Reached.{rows_are_lawful}
use Rattle.subscription_laws.proofs.all_rows_are_lawful.Goals as goal

pub returns : goal.returns
returns c = rows_are_lawful
