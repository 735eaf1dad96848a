use Rattle.subscription_laws.proofs.LiveItemRows.{items_of_live, none_after_shutdown}
use Rattle.subscription_laws.proofs.encounters.items_are_of_live_subscriptions.Goals as goal

pub returns : goal.returns
returns c = record { live = items_of_live; shut = none_after_shutdown }
