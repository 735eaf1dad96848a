-- Subscriptions and items stay within their bounds, since they come by calls.
use Rattle.std.proofs.Common.{List, subst}
use Rattle.ua_types.specs.Configuration.{Configuration, IsConfigured}
use Rattle.ua_space.specs.Nodes.{SpaceState}
use Rattle.ua_monitored_items.specs.Items.{ItemsState}
use Rattle.ua_subscriptions.specs.SubscriptionCalls.{SubscriptionsState}
use Rattle.subscription_laws.specs.Bounds.{QueuesAreWithin, ItemsAreWithin, AllItemsAreWithin, RequestsAreWithin, SubscriptionsAreWithin, AllSubscriptionsAreWithin, KeptAreWithin}
use Rattle.subscription_laws.proofs.WithinBounds.{queues_within, few_items, few_items_in_all, few_requests, few_subscriptions, few_subscriptions_in_all, few_kept}
use Rattle.server_core.specs.Coherent.{reached, IfRuns}
use Rattle.server_core.specs.declared.event.Event.{Event}
use Rattle.server_laws.specs.Bounds.{KeepsFewSubscriptions}
use Rattle.server_laws.specs.EventMoves.{moves_of}
use Rattle.server_laws.specs.Tables.{rows_of_run, LeadTo}
use Rattle.server_laws.proofs.ServersKept.{if_runs}
use Rattle.server_laws.proofs.TableLemmas.{comes_by_moves}

pub few_subscriptions_kept : (config : Configuration) → IsConfigured config → (space : SpaceState) (events : List Event) → IfRuns (KeepsFewSubscriptions config) (reached config space events).server
few_subscriptions_kept config is space events =
    let r = reached config space events in
    let moves = moves_of config space events in
    if_runs (LeadTo config moves (rows_of_run r)) (KeepsFewSubscriptions config) (λ world c. record {
      queues = subst (λ (items : ItemsState). QueuesAreWithin config items.items) c.items (queues_within config is moves);
      items = subst (λ (items : ItemsState). ItemsAreWithin config items.items) c.items (few_items config is moves);
      all_items = subst (λ (items : ItemsState). AllItemsAreWithin config items.items) c.items (few_items_in_all config is moves);
      requests = subst (λ (subs : SubscriptionsState). RequestsAreWithin config subs.table) c.subscriptions (few_requests config is moves);
      subscriptions = subst (λ (subs : SubscriptionsState). SubscriptionsAreWithin config subs.table) c.subscriptions (few_subscriptions config is moves);
      all_subscriptions = subst (λ (subs : SubscriptionsState). AllSubscriptionsAreWithin config subs.table) c.subscriptions (few_subscriptions_in_all config is moves);
      kept = subst (λ (subs : SubscriptionsState). KeptAreWithin config subs.table) c.subscriptions (few_kept config is moves);
    }) r.server (comes_by_moves config space events)
