use Rattle.subscription_laws.proofs.WithinBounds.{queues_within, few_items, few_items_in_all, few_requests, few_subscriptions, few_subscriptions_in_all, few_kept}
use Rattle.subscription_laws.proofs.bounds.bounds_hold.Goals as goal

pub returns : goal.returns
returns c = record {
  queues = queues_within;
  items = few_items;
  all_items = few_items_in_all;
  requests = few_requests;
  subscriptions = few_subscriptions;
  all_subscriptions = few_subscriptions_in_all;
  kept = few_kept;
}
