use Rattle.subscription_laws.proofs.RowRequests.{row_given}
use Rattle.subscription_laws.proofs.rows_that_send_have_a_request.Goals as goal

pub returns : goal.returns
returns c = row_given
