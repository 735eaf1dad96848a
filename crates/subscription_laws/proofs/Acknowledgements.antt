-- What holds of subscriptions while one of a session no longer keeps a message holds once all acknowledgements are applied.
use Rattle.std.proofs.Common.{◌≡◌, ℕ, true, List, [], Option, Some, None, refl, ap}
use Rattle.std.proofs.lemmas.Bool.{eqb-true, cond_both}
use Rattle.std.specs.BTreeMap.{is_at}
use Rattle.std.specs.Map.{set_value}
use Rattle.std.specs.Ordering.{nat_cmp}
use Rattle.ua_subscription_messages.specs.declared.publishing.SubscriptionAcknowledgement.{SubscriptionAcknowledgement}
use Rattle.ua_subscriptions.specs.declared.subscription.Subscription.{Subscription}
use Rattle.ua_subscriptions.specs.Publishing.{without_kept, Acknowledged, acknowledged_by, acknowledged, AllAcknowledged, with_acknowledged, acknowledged_all}
use Rattle.ua_subscriptions.specs.Subscriptions.{is_of}
use Rattle.ua_subscriptions.specs.Tables.{subscription_at}
use Rattle.subscription_laws.proofs.Folds.{fold_keeps}

pub of_is : (q : Option ℕ) (session : ℕ) → is_of q session ≡ true → q ≡ Some session
of_is None session e = absurd (cc)
of_is (Some k) session e = ap Some (eqb-true k session e)

module _ (session : ℕ) (P : List (ℕ × Subscription) → Type 0)
    (forgets : (subscriptions : List (ℕ × Subscription)) (n number : ℕ) (s : Subscription) → subscription_at n subscriptions ≡ Some s → s.session ≡ Some session → P subscriptions →
    P (set_value (is_at (nat_cmp n)) subscriptions (without_kept number s))) where
  one_acknowledged : (subscriptions : List (ℕ × Subscription)) (a : SubscriptionAcknowledgement) → P subscriptions → P (acknowledged session subscriptions a).subscriptions
  unfolding acknowledged
  one_acknowledged subscriptions a h = by (subscription_at a.subscription_id subscriptions) refl
    where
      by : (o : Option Subscription) → subscription_at a.subscription_id subscriptions ≡ o → P (acknowledged_by session subscriptions a o).subscriptions
      by None found = h
      by (Some s) found =
          cond_both (is_of s.session session) _ _ (λ (one : Acknowledged). P one.subscriptions) (λ is. forgets subscriptions a.subscription_id a.sequence_number s found (of_is s.session session is) h) (λ is. h)

  pub all_acknowledged : (acks : List SubscriptionAcknowledgement) (subscriptions : List (ℕ × Subscription)) → P subscriptions → P (acknowledged_all session subscriptions acks).subscriptions
  all_acknowledged acks subscriptions h =
      fold_keeps (λ (before : AllAcknowledged). P before.subscriptions) (with_acknowledged session) (λ before a k. one_acknowledged before.subscriptions a k) acks (record { results = []; subscriptions = subscriptions }) h
