use Rattle.std.proofs.Common.{Option, subst}
use Rattle.server_core.specs.declared.world.World.{World}
use Rattle.subscription_laws.specs.Calm.{NoneWaitsBesideARequest}
use Rattle.server_laws.specs.Tables.{IfShown}
use Rattle.server_laws.proofs.stories.a_request_left_beside_a_waiting_subscription.Goals as goal

pub returns : goal.returns
returns c config space events world number session s runs found own waits left =
    left ((subst (λ (server : Option World). IfShown NoneWaitsBesideARequest server) runs (c.table.ensures.no_waiting_beside_a_request config space events)) number session s found own waits)
