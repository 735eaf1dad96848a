-- What the services keep.
use Rattle.ua_types.specs.Configuration.{Configuration}
use Rattle.ua_monitored_items.specs.Items.{no_items}
use Rattle.ua_history.specs.Histories.{histories_begun}
use Rattle.ua_subscriptions.specs.SubscriptionCalls.{no_subscriptions}
use Rattle.ua_session.specs.Sessions.{no_sessions}
use Rattle.ua_space.specs.Histories.{without_histories}
use Rattle.ua_space.specs.Nodes.{SpaceState}
pub use Rattle.ua_services.specs.declared.services.Services.{Services}

-- nothing was served yet; the values that nodes had before are their histories
abbrev pub no_services_used : Configuration → SpaceState → Services
no_services_used config space = record {
  space = record space { nodes = without_histories space.nodes };
  sessions = no_sessions config;
  history = histories_begun config space.nodes;
  items = no_items config;
  subscriptions = no_subscriptions config;
}
