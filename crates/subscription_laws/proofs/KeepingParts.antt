-- What every call keeps, while what sessions have of subscriptions changes, or messages are no longer kept.
use Rattle.std.proofs.Common.{◌≡◌, ◌≢◌, ◌⊎◌, inl, inr, ℕ, Bool, true, false, ◌&&◌, cond, List, [], ◌∷◌, ◌++◌, map, Option, Some, None, unwrap_or, refl, sym, ap, ◌∙◌, subst}
use Rattle.std.specs.Prelude.{filter}
use Rattle.std.specs.BTreeMap.{insert_entry, is_at}
use Rattle.std.specs.Map.{lookup, set_value, remove_entry}
use Rattle.std.specs.Option.{is_some}
use Rattle.std.specs.Ordering.{nat_cmp}
use Rattle.server_messages.specs.declared.fired.Fired.{Fired}
use Rattle.ua_state_table.specs.Steady.{IsSteady}
use Rattle.ua_monitored_items.specs.Items.{ItemsState}
use Rattle.ua_subscriptions.specs.declared.messages.KeptMessage.{KeptMessage}
use Rattle.ua_subscriptions.specs.declared.publish_call.PublishCall.{PublishCall}
use Rattle.ua_subscriptions.specs.declared.session_part.SessionSubscriptions.{SessionSubscriptions}
use Rattle.ua_subscriptions.specs.declared.subscription.Subscription.{Subscription}
use Rattle.subscription_laws.specs.Calm.{AreAbove, AreRising, is_listed, ListsItsOwn, AreLists, AreNumbersRising, standing_at, IsCalm}
use Rattle.ua_subscriptions.specs.Ending.{came_by_other, part_without_conn, entry_without_conn}
use Rattle.subscription_laws.specs.Histories.{counts_at, life_at}
use Rattle.ua_subscriptions.specs.Subscriptions.{no_part, is_any}
use Rattle.ua_subscriptions.specs.Tables.{TableState, Stage, subscription_at, part_at, part_of}
use Rattle.subscription_laws.proofs.Entries.{each_set, gone_here, gone_other, put_here, put_other, some_same, same_or_not, set_here, set_other, rising_set}
use Rattle.ua_subscriptions.proofs.Meetings.{set_absent}
use Rattle.subscription_laws.proofs.Keeping.{IsKept}
use Rattle.subscription_laws.proofs.Settling.{still}

abbrev pub with_sessions : TableState → List (ℕ × SessionSubscriptions) → TableState
with_sessions t sessions = record { subscriptions = t.subscriptions; sessions = sessions }

-- ---- sessions have other parts: they list what lives, and no request is there that wasn't

pub fewer_calm : (rows : List Fired) (t : TableState) (items : ItemsState) (sessions : List (ℕ × SessionSubscriptions)) → AreRising sessions →
    ((m : ℕ) (s : Subscription) (k : ℕ) → subscription_at m t.subscriptions ≡ Some s → s.session ≡ Some k → is_listed m (part_at k sessions).numbers ≡ true) →
    ((k : ℕ) → is_any (part_at k sessions).requests ≡ true → is_any (part_at k t.sessions).requests ≡ true) →
    IsCalm rows t items → IsCalm rows (with_sessions t sessions) items
fewer_calm rows t items sessions rising listed fewer h = record {
  listed = record { subscriptions = h.listed.subscriptions; sessions = rising; listed = listed };
  steady = λ m s found.
      still s m (part_of s.session t.sessions) (part_of s.session sessions) items items (counts_at m rows) (counts_at m rows) refl (λ e. e) (λ e. inl (asks s.session e)) (h.steady m s found);
  lives = h.lives;
  lawful = h.lawful;
  reached = h.reached;
}
  where
    asks : (o : Option ℕ) → (is_some o && is_any (part_of o sessions).requests) ≡ true → (is_some o && is_any (part_of o t.sessions).requests) ≡ true
    asks None e = e
    asks (Some k) e = fewer k e

-- parts that list the same, with no request that wasn't there
pub record AreFewer (sessions sessions2 : List (ℕ × SessionSubscriptions)) : Type 0 where
  pub rising : AreRising sessions → AreRising sessions2
  pub numbers : (k : ℕ) → (part_at k sessions2).numbers ≡ (part_at k sessions).numbers
  pub requests : (k : ℕ) → is_any (part_at k sessions2).requests ≡ true → is_any (part_at k sessions).requests ≡ true

module _ (rows : List Fired) (t : TableState) (items : ItemsState) (sessions : List (ℕ × SessionSubscriptions)) (f : AreFewer t.sessions sessions) where
  parts_calm : IsCalm rows t items → IsCalm rows (with_sessions t sessions) items
  parts_calm h =
      fewer_calm rows t items sessions (f.rising h.listed.sessions) (λ m s k found own. ap (is_listed m) (f.numbers k) ∙ h.listed.listed m s k found own) f.requests h

  parts_own : (k : ℕ) → ListsItsOwn t k → ListsItsOwn (with_sessions t sessions) k
  parts_own k own m listed = own m (sym (ap (is_listed m) (f.numbers k)) ∙ listed)

  parts_within : (made : ℕ) → AreLists made t → AreLists made (with_sessions t sessions)
  parts_within made lists = record {
    within = λ m k listed. lists.within m k (sym (ap (is_listed m) (f.numbers k)) ∙ listed);
    rising = λ k. subst AreNumbersRising (sym (f.numbers k)) (lists.rising k);
  }

pub parts_kept : (except : Option ℕ) (made : ℕ) (past : List Fired) (w : Stage) (sessions : List (ℕ × SessionSubscriptions)) → AreFewer w.table.sessions sessions → IsKept except made past w →
    IsKept except made past (record { round = w.round; table = with_sessions w.table sessions; items = w.items })
parts_kept except made past w sessions f k =
    let rows = past ++ w.round.rows in
    record {
      calm = parts_calm rows w.table w.items sessions f k.calm;
      own = λ j other. parts_own rows w.table w.items sessions f j (k.own j other);
      within = parts_within rows w.table w.items sessions f made k.within;
    }

-- one session has another part: what holds of it, and of those that were, holds of each
pub of_set : (k : ℕ) (part : SessionSubscriptions) (sessions : List (ℕ × SessionSubscriptions)) (P : ℕ → SessionSubscriptions → Type 0) → P k part → ((j : ℕ) → P j (part_at j sessions)) →
    (j : ℕ) → P j (part_at j (set_value (is_at (nat_cmp k)) sessions part))
of_set k part sessions P here others j = by (same_or_not j k)
  where
    at_k : (o : Option SessionSubscriptions) → lookup (is_at (nat_cmp k)) sessions ≡ o → P k (part_at k (set_value (is_at (nat_cmp k)) sessions part))
    at_k None none = subst (λ (es : List (ℕ × SessionSubscriptions)). P k (part_at k es)) (sym (set_absent (is_at (nat_cmp k)) sessions part none)) (others k)
    at_k (Some old) found = subst (λ (o : Option SessionSubscriptions). P k (unwrap_or o no_part)) (sym (set_here k old part sessions found)) here

    by : (j ≡ k) ⊎ (j ≢ k) → P j (part_at j (set_value (is_at (nat_cmp k)) sessions part))
    by (inl same) = subst (λ (i : ℕ). P i (part_at i (set_value (is_at (nat_cmp k)) sessions part))) (sym same) (at_k (lookup (is_at (nat_cmp k)) sessions) refl)
    by (inr other) = subst (λ (o : Option SessionSubscriptions). P j (unwrap_or o no_part)) (sym (set_other k j part other sessions)) (others j)

-- nothing of a session is left
pub of_gone : (k : ℕ) (sessions : List (ℕ × SessionSubscriptions)) → AreRising sessions → (P : ℕ → SessionSubscriptions → Type 0) → P k no_part → ((j : ℕ) → j ≢ k → P j (part_at j sessions)) →
    (j : ℕ) → P j (part_at j (remove_entry (is_at (nat_cmp k)) sessions))
of_gone k sessions rising P here others j = by (same_or_not j k)
  where
    by : (j ≡ k) ⊎ (j ≢ k) → P j (part_at j (remove_entry (is_at (nat_cmp k)) sessions))
    by (inl same) =
        subst (λ (i : ℕ). P i (part_at i (remove_entry (is_at (nat_cmp k)) sessions))) (sym same) (subst (λ (o : Option SessionSubscriptions). P k (unwrap_or o no_part)) (sym (gone_here k sessions rising)) here)
    by (inr other) = subst (λ (o : Option SessionSubscriptions). P j (unwrap_or o no_part)) (sym (gone_other k j other sessions)) (others j other)

-- or a session has a part, where it may have had none
pub of_put : (k : ℕ) (part : SessionSubscriptions) (sessions : List (ℕ × SessionSubscriptions)) (P : ℕ → SessionSubscriptions → Type 0) → P k part → ((j : ℕ) → j ≢ k → P j (part_at j sessions)) →
    (j : ℕ) → P j (part_at j (insert_entry nat_cmp (remove_entry (is_at (nat_cmp k)) sessions) k part))
of_put k part sessions P here others j = by (same_or_not j k)
  where
    rest : List (ℕ × SessionSubscriptions)
    rest = remove_entry (is_at (nat_cmp k)) sessions

    by : (j ≡ k) ⊎ (j ≢ k) → P j (part_at j (insert_entry nat_cmp (remove_entry (is_at (nat_cmp k)) sessions) k part))
    by (inl same) = subst (λ (i : ℕ). P i (part_at i (insert_entry nat_cmp rest k part))) (sym same) (subst (λ (o : Option SessionSubscriptions). P k (unwrap_or o no_part)) (sym (put_here k part rest)) here)
    by (inr other) = subst (λ (o : Option SessionSubscriptions). P j (unwrap_or o no_part)) (sym (put_other k j part other rest ∙ gone_other k j other sessions)) (others j other)

pub set_fewer : (k : ℕ) (part : SessionSubscriptions) (sessions : List (ℕ × SessionSubscriptions)) → part.numbers ≡ (part_at k sessions).numbers → (is_any part.requests ≡ true → is_any (part_at k sessions).requests ≡ true) →
    AreFewer sessions (set_value (is_at (nat_cmp k)) sessions part)
set_fewer k part sessions same fewer = record {
  rising = λ r. rising_set k part sessions r;
  numbers = of_set k part sessions (λ (j : ℕ) (p : SessionSubscriptions). p.numbers ≡ (part_at j sessions).numbers) same (λ j. refl);
  requests = of_set k part sessions (λ (j : ℕ) (p : SessionSubscriptions). is_any p.requests ≡ true → is_any (part_at j sessions).requests ≡ true) fewer (λ j e. e);
}

-- ---- the requests of a connection go

filtered_any : (conn : ℕ) (calls : List PublishCall) → is_any (filter (came_by_other conn) calls) ≡ true → is_any calls ≡ true
filtered_any conn [] h = h
filtered_any conn (call ∷ calls) h = refl

pub conn_part : (conn k : ℕ) (sessions : List (ℕ × SessionSubscriptions)) → part_at k (map (entry_without_conn conn) sessions) ≡ part_without_conn conn (part_at k sessions)
conn_part conn k [] = refl
conn_part conn k (e ∷ es) = by (is_at (nat_cmp k) e.0) (conn_part conn k es)
  where
    by : (b : Bool) → unwrap_or (lookup (is_at (nat_cmp k)) (map (entry_without_conn conn) es)) no_part ≡ part_without_conn conn (unwrap_or (lookup (is_at (nat_cmp k)) es) no_part) →
        unwrap_or (cond b (Some (part_without_conn conn e.1)) (lookup (is_at (nat_cmp k)) (map (entry_without_conn conn) es))) no_part ≡ part_without_conn conn (unwrap_or (cond b (Some e.1) (lookup (is_at (nat_cmp k)) es)) no_part)
    by true rest = refl
    by false rest = rest

conn_above : (conn k : ℕ) (sessions : List (ℕ × SessionSubscriptions)) → AreAbove k sessions → AreAbove k (map (entry_without_conn conn) sessions)
conn_above conn k [] h = tt
conn_above conn k (e ∷ es) h = (h.0, conn_above conn k es h.1)

conn_rises : (conn : ℕ) (sessions : List (ℕ × SessionSubscriptions)) → AreRising sessions → AreRising (map (entry_without_conn conn) sessions)
conn_rises conn [] h = tt
conn_rises conn (e ∷ es) h = (conn_above conn e.0 es h.0, conn_rises conn es h.1)

pub conn_fewer : (conn : ℕ) (sessions : List (ℕ × SessionSubscriptions)) → AreFewer sessions (map (entry_without_conn conn) sessions)
conn_fewer conn sessions = record {
  rising = conn_rises conn sessions;
  numbers = λ k. ap (λ (p : SessionSubscriptions). p.numbers) (conn_part conn k sessions);
  requests = λ k any. filtered_any conn (part_at k sessions).requests (sym (ap (λ (p : SessionSubscriptions). is_any p.requests) (conn_part conn k sessions)) ∙ any);
}

-- ---- a message is no longer kept

abbrev pub with_kept : Subscription → List KeptMessage → Subscription
with_kept s kept = record s { kept = kept }

abbrev pub kept_table : ℕ → Subscription → List KeptMessage → TableState → TableState
kept_table n s kept t = record { subscriptions = set_value (is_at (nat_cmp n)) t.subscriptions (with_kept s kept); sessions = t.sessions }

module _ (rows : List Fired) (t : TableState) (items : ItemsState) (n : ℕ) (s : Subscription) (kept : List KeptMessage) (found : subscription_at n t.subscriptions ≡ Some s) where
  each_kept : (P : ℕ → Subscription → Type 0) → P n (with_kept s kept) → ((m : ℕ) (u : Subscription) → subscription_at m t.subscriptions ≡ Some u → P m u) →
      (m : ℕ) (u : Subscription) → subscription_at m (kept_table n s kept t).subscriptions ≡ Some u → P m u
  each_kept = each_set n s (with_kept s kept) t.subscriptions found

  pub kept_calm : IsCalm rows t items → IsCalm rows (kept_table n s kept t) items
  kept_calm h = record {
    listed = record {
      subscriptions = rising_set n (with_kept s kept) t.subscriptions h.listed.subscriptions;
      sessions = h.listed.sessions;
      listed = λ m u k. each_kept (λ (i : ℕ) (x : Subscription). x.session ≡ Some k → is_listed i (part_at k t.sessions).numbers ≡ true) (λ own. h.listed.listed n s k found own) (λ i x before own. h.listed.listed i x k before own) m u;
    };
    steady = each_kept (λ (m : ℕ) (u : Subscription). IsSteady (standing_at (kept_table n s kept t) items rows m u)) (h.steady n s found) h.steady;
    lives = each_kept (λ (m : ℕ) (u : Subscription). life_at m rows ≡ u.lifetime_count) (h.lives n s found) h.lives;
    lawful = h.lawful;
    reached = h.reached;
  }

  pub kept_own : (k : ℕ) → ListsItsOwn t k → ListsItsOwn (kept_table n s kept t) k
  kept_own k own m listed = by (own m listed) (same_or_not m n)
    where
      by : (u : Subscription) × (subscription_at m t.subscriptions ≡ Some u) × (u.session ≡ Some k) → (m ≡ n) ⊎ (m ≢ n) →
          (u : Subscription) × (subscription_at m (kept_table n s kept t).subscriptions ≡ Some u) × (u.session ≡ Some k)
      by (u, before, its) (inl is) =
          let it : u ≡ s = sym (some_same (sym found ∙ ap (λ (j : ℕ). subscription_at j t.subscriptions) (sym is) ∙ before)) in (
            with_kept s kept,
            ap (λ (j : ℕ). subscription_at j (kept_table n s kept t).subscriptions) is ∙ set_here n s (with_kept s kept) t.subscriptions found,
            ap (λ (x : Subscription). x.session) (sym it) ∙ its,
          )
      by (u, before, its) (inr other) = (u, set_other n m (with_kept s kept) other t.subscriptions ∙ before, its)
