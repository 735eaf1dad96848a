-- Each monitored item is of a live subscription.
use Rattle.std.proofs.Common.{◌+◌, ◌≡◌, ◌≢◌, ◌⊎◌, inl, inr, ℕ, Bool, true, false, not, cond, List, [], ◌∷◌, Option, Some, None, refl, sym, ap, ◌∙◌, subst}
use Rattle.std.proofs.lemmas.Bool.{ne_eqb, eq-eqb}
use Rattle.std.specs.BTreeMap.{is_at, insert_entry}
use Rattle.std.specs.Map.{set_value, remove_entry}
use Rattle.std.specs.Option.{is_some}
use Rattle.std.specs.Ordering.{nat_cmp}
use Rattle.ua_types.specs.Configuration.{Configuration}
use Rattle.ua_types.specs.declared.moment.Moment.{Moment}
use Rattle.ua_read_write.specs.declared.writing.Change.{Change}
use Rattle.ua_state_table.specs.Chosen.{Answers, answers, publish_row, chosen}
use Rattle.ua_state_table.specs.declared.row.RowId.{RowId}
use Rattle.ua_state_table.specs.declared.row.RowId.TheVariants.{C1, N1, N2, L1, L2, G5, G6, G8, G10}
use Rattle.ua_state_table.specs.declared.state.State.{State}
use Rattle.ua_state_table.specs.declared.state.State.TheVariants.{Closed, Normal, Late, KeepAlive}
use Rattle.ua_state_table.specs.Events as events
use Rattle.ua_monitored_items.specs.ItemTables.{NumberedItems, item_at, is_of, with_found, with_item}
use Rattle.ua_monitored_items.specs.Items.{ItemsState, without_all, ended, Visit, visits_of, visited, sampled_items}
use Rattle.ua_monitored_items.specs.Item.{seen, released_in}
use Rattle.ua_monitored_items.specs.Moves as item_moves
use Rattle.ua_monitored_items.specs.Releases.{with_release, all_released, sample_releases, shown_one, shown}
use Rattle.ua_monitored_items.specs.declared.item.Item.{Item}
use Rattle.ua_monitored_items.specs.declared.releases.Release.{Release}
use Rattle.ua_monitored_items.proofs.Tables.{IsThere, there_seen}
use Rattle.ua_monitored_items.proofs.Releasing.{there_released}
use Rattle.ua_subscriptions.specs.declared.call.Call.{Call}
use Rattle.ua_subscriptions.specs.declared.call.Call.TheVariants as call
use Rattle.ua_subscriptions.specs.declared.settings.Settings.{Settings}
use Rattle.ua_subscriptions.specs.declared.subscription.Subscription.{Subscription}
use Rattle.ua_subscriptions.specs.Calls.{event_of}
use Rattle.ua_subscriptions.specs.Firing.{is_closed, vars_in, before_by, row_of, fired}
use Rattle.ua_subscriptions.specs.Making.{refused_one, added}
use Rattle.ua_subscriptions.specs.Named.{all_refused}
use Rattle.ua_subscriptions.specs.Publishing.{without_kept}
use Rattle.ua_subscriptions.specs.Scenes.{Scene, row_done}
use Rattle.ua_subscriptions.specs.Tables.{TableState, Stage, subscription_at, put_back, scene_at}
use Rattle.ua_subscriptions.specs.SubscriptionCalls.{stage_of}
use Rattle.subscription_laws.specs.Calm.{AreRising, AreReached}
use Rattle.subscription_laws.specs.Encounters.{Beside, CallsItems, ShowsItems, Acknowledges, beside, Encounter, Meets, made_scene}
use Rattle.subscription_laws.specs.LiveItems.{AreOfLive}
use Rattle.subscription_laws.specs.Runs.{ItemsCall, Move, Ran, start, moved, run, items_asked}
use Rattle.ua_subscriptions.proofs.Choosing.{either}
use Rattle.subscription_laws.proofs.Acknowledgements.{all_acknowledged}
use Rattle.subscription_laws.proofs.Availability.{reached_on}
use Rattle.subscription_laws.proofs.ChosenRows.{is_create, timer_is_none}
use Rattle.subscription_laws.proofs.Entries.{each_set, each_put, some_same, same_or_not, set_here, set_other, put_here, put_other, rising_set, rising_put}
use Rattle.subscription_laws.proofs.Firings.{fired_items}
use Rattle.subscription_laws.proofs.Folds.{fold_keeps}
use Rattle.subscription_laws.proofs.KeepingItems.{served_apart}
use Rattle.subscription_laws.proofs.RunsKept.{run_kept}
use Rattle.subscription_laws.proofs.Settling.{back_other, IsPutBack, back_is, back_rises}
use Rattle.subscription_laws.proofs.ShutdownLemmas.{none_is_left}
use Rattle.subscription_laws.proofs.Walks.{left, left_is, Fits, Follows, FollowsMaking, Any, any_begins, walked}

-- ---- items that are shown a value keep their subscription

abbrev AllOf : (ℕ → Type 0) → NumberedItems → Type 0
AllOf P items = (m : ℕ) (item : Item) → item_at m items ≡ Some item → P item.subscription

module _ (P : ℕ → Type 0) where
  set_of : (k : ℕ) (v w : Item) (items : NumberedItems) → item_at k items ≡ Some v → w.subscription ≡ v.subscription → AllOf P items → AllOf P (set_value (is_at (nat_cmp k)) items w)
  set_of k v w items found same all = each_set k v w items found (λ (m : ℕ) (item : Item). P item.subscription) (subst P (sym same) (all k v found)) all

  changed_of : (k : ℕ) (change : Item → Item) (items : NumberedItems) → ((item : Item) → IsThere item (change item)) → AllOf P items → AllOf P (with_item k change items)
  changed_of k change items there all = by (item_at k items) refl
    where
      by : (o : Option Item) → item_at k items ≡ o → AllOf P (with_found k change items o)
      by None found = all
      by (Some v) found = set_of k v (change v) items found (there v).subscription all

  released_of : (rs : List Release) (items : NumberedItems) → AllOf P items → AllOf P (all_released items rs)
  released_of = fold_keeps (AllOf P) with_release (λ items r. changed_of r.number (released_in r.subscription) items (there_released r.subscription))

  sampled_of : (vs : List Visit) (items : NumberedItems) → AllOf P items → AllOf P (sampled_items items vs)
  sampled_of = fold_keeps (AllOf P) visited (λ items v. changed_of v.number (seen v.value) items (there_seen v.value))

  shown_of : (cs : List Change) (items : NumberedItems) → AllOf P items → AllOf P (shown items cs)
  shown_of = fold_keeps (AllOf P) shown_one (λ items c all. let vs = visits_of items c in released_of (sample_releases items vs) (sampled_items items vs) (sampled_of vs items all))

-- ---- a row that closes its subscription deletes its items

none_of : (n m : ℕ) (es : NumberedItems) (item : Item) → item_at m (without_all n es) ≡ Some item → is_of n item ≡ true → ⊥
none_of n m [] item found own = absurd (cc)
none_of n m (e ∷ es) item found own = by (is_of n e.1) refl found (none_of n m es item)
  where
    here : (a b : Bool) → is_of n e.1 ≡ false → cond a (Some e.1) (item_at m (without_all n es)) ≡ Some item → (item_at m (without_all n es) ≡ Some item → is_of n item ≡ true → ⊥) → ⊥
    here true b its e1 more = let it : e.1 ≡ item = some_same e1 in let clash : false ≡ true = sym its ∙ ap (is_of n) it ∙ own in absurd (cc)
    here false b its e1 more = more e1 own

    by : (b : Bool) → is_of n e.1 ≡ b → item_at m (cond (not b) (e ∷ without_all n es) (without_all n es)) ≡ Some item → (item_at m (without_all n es) ≡ Some item → is_of n item ≡ true → ⊥) → ⊥
    by true its at_m more = more at_m own
    by false its at_m more = here (is_at (nat_cmp m) e.0) true its at_m more

abbrev is_C1 : RowId → Bool
is_C1 C1 = true
is_C1 r = false

closing : (r : RowId) (c : Scene) → is_closed c.subscription ≡ false → is_C1 r ≡ false → is_closed (row_done r c).subscription ≡ true → (row_done r c).items ≡ ended c.items c.round.own
unfolding row_done
closing G5 c live some closed = refl
closing G6 c live some closed = refl
closing G8 c live some closed = refl
closing G10 c live some closed = refl
closing r c live some closed = absurd (cc)

live_row : (asked : Call) (c : Scene) → is_closed c.subscription ≡ false → is_create asked ≡ false → is_C1 (chosen (before_by asked c) (event_of asked)) ≡ false
live_row (call.Create full settings enabled) c live plain = absurd (cc)
live_row call.Publish c live plain = by c.subscription.state (answers (vars_in c)) live
  where
    by : (s : State) (a : Answers) → events.is_closed s ≡ false → is_C1 (publish_row s a) ≡ false
    by Normal a alive = either (λ (r : RowId). is_C1 r ≡ false) a.enabled_more N2 N1 refl refl
    by Late a alive = either (λ (r : RowId). is_C1 r ≡ false) a.enabled_available L1 L2 refl refl
    by KeepAlive a alive = refl
    by Closed a alive = absurd (cc)
live_row call.Timer c live plain = timer_is_none is_C1 (record { n3 = refl; n4 = refl; n5 = refl; n6 = refl; l3 = refl; k2 = refl; k3 = refl; k4 = refl; k5 = refl; g6 = refl }) (vars_in c)
live_row (call.Republish true) c live plain = refl
live_row (call.Republish false) c live plain = refl
live_row (call.SessionEnd true) c live plain = refl
live_row (call.SessionEnd false) c live plain = refl
live_row asked c live plain = refl

fired_closes : (c : Scene) → is_closed c.subscription ≡ false → is_create c.round.call ≡ false → is_closed (fired c).subscription ≡ true → (fired c).items ≡ ended c.items c.round.own
unfolding fired
fired_closes c live plain closed = closing (row_of c) c live (live_row c.round.call c live plain) closed

-- ---- what holds of the subscriptions and the items of a stage

pub record IsLively (subscriptions : List (ℕ × Subscription)) (items : ItemsState) : Type 0 where
  pub live : (n : ℕ) (s : Subscription) → subscription_at n subscriptions ≡ Some s → is_closed s ≡ false
  pub rising : AreRising subscriptions
  pub reached : AreReached items
  pub owned : AreOfLive subscriptions items.items

-- another subscription of a number, that is live too
set_lively : (k : ℕ) (s u : Subscription) (subscriptions : List (ℕ × Subscription)) (items : ItemsState) → subscription_at k subscriptions ≡ Some s → is_closed u ≡ false →
    IsLively subscriptions items → IsLively (set_value (is_at (nat_cmp k)) subscriptions u) items
set_lively k s u subscriptions items found alive h = record {
  live = each_set k s u subscriptions found (λ (n : ℕ) (t : Subscription). is_closed t ≡ false) alive h.live;
  rising = rising_set k u subscriptions h.rising;
  reached = h.reached;
  owned = λ m item at_m. there item.subscription (same_or_not item.subscription k) (h.owned m item at_m);
}
  where
    there : (n : ℕ) → (n ≡ k) ⊎ (n ≢ k) → is_some (subscription_at n subscriptions) ≡ true → is_some (subscription_at n (set_value (is_at (nat_cmp k)) subscriptions u)) ≡ true
    there n (inl is) was = ap (λ (j : ℕ). is_some (subscription_at j (set_value (is_at (nat_cmp k)) subscriptions u))) is ∙ ap is_some (set_here k s u subscriptions found)
    there n (inr other) was = ap is_some (set_other k n u other subscriptions) ∙ was

-- ---- one encounter

module _ (w : Stage) (n : ℕ) (asked : Call) (s : Subscription) (plain : is_create asked ≡ false) (found : subscription_at n w.table.subscriptions ≡ Some s) (h : IsLively w.table.subscriptions w.items) where
  abbrev d : Scene
  d = fired (scene_at w n asked s)

  own_item : (m : ℕ) (item : Item) → item_at m d.items.items ≡ Some item → item.subscription ≡ n → (b : Bool) → is_closed d.subscription ≡ b →
      is_some (subscription_at n (cond b (remove_entry (is_at (nat_cmp n)) (set_value (is_at (nat_cmp n)) w.table.subscriptions d.subscription)) (set_value (is_at (nat_cmp n)) w.table.subscriptions d.subscription))) ≡ true
  own_item m item at_m own false closed = ap is_some (set_here n s d.subscription w.table.subscriptions found)
  own_item m item at_m own true closed =
      let gone = fired_closes (scene_at w n asked s) (h.live n s found) plain closed in
      absurd (none_of n m w.items.items item (ap (λ (items : ItemsState). item_at m items.items) (sym gone) ∙ at_m) (eq-eqb item.subscription n own))

  one_lively : IsLively (put_back n d.subscription w.table.subscriptions) d.items
  one_lively = record {
    live = λ m u at_m. live m u (back_is n s d.subscription w.table.subscriptions h.rising found m u at_m);
    rising = back_rises n d.subscription w.table.subscriptions h.rising;
    reached = (fired_items (scene_at w n asked s)).reached h.reached;
    owned = λ m item at_m. there m item at_m (same_or_not item.subscription n);
  }
    where
      live : (m : ℕ) (u : Subscription) → IsPutBack n m d.subscription u ⊎ ((m ≢ n) × (subscription_at m w.table.subscriptions ≡ Some u)) → is_closed u ≡ false
      live m u (inl b) = ap is_closed b.is ∙ b.live
      live m u (inr (other, before)) = h.live m u before

      there : (m : ℕ) (item : Item) → item_at m d.items.items ≡ Some item → (item.subscription ≡ n) ⊎ (item.subscription ≢ n) → is_some (subscription_at item.subscription (put_back n d.subscription w.table.subscriptions)) ≡ true
      there m item at_m (inl own) = ap (λ (k : ℕ). is_some (subscription_at k (put_back n d.subscription w.table.subscriptions))) own ∙ own_item m item at_m own (is_closed d.subscription) refl
      there m item at_m (inr other) =
          ap is_some (back_other n item.subscription d.subscription w.table.subscriptions other)
          ∙ h.owned m item (((fired_items (scene_at w n asked s)).stay h.reached).1 m item at_m (ne_eqb item.subscription n other))

-- ---- any call

abbrev Lively : Stage → Type 0
Lively w = IsLively w.table.subscriptions w.items

abbrev StaysLively : Stage → List Encounter → Stage → Type 0
StaysLively w es v = Lively w → Lively v

-- the items of a live subscription were called
served_lively : (w : Stage) (number : ℕ) (asked : Option ItemsCall) → is_some (subscription_at number w.table.subscriptions) ≡ true → Lively w → Lively (beside w (CallsItems number asked))
served_lively w number asked lives h = record {
  live = h.live;
  rising = h.rising;
  reached = (served_apart number asked w.items).reached h.reached;
  owned = λ m item at_m. there m item at_m (same_or_not item.subscription number);
}
  where
    there : (m : ℕ) (item : Item) → item_at m (items_asked w.items number asked).items ≡ Some item → (item.subscription ≡ number) ⊎ (item.subscription ≢ number) → is_some (subscription_at item.subscription w.table.subscriptions) ≡ true
    there m item at_m (inl own) = ap (λ (k : ℕ). is_some (subscription_at k w.table.subscriptions)) own ∙ lives
    there m item at_m (inr other) = h.owned m item (((served_apart number asked w.items).stay h.reached).1 m item at_m (ne_eqb item.subscription number other))

lively_beside : (w : Stage) (b : Beside) → Fits w b → Lively w → Lively (beside w b)
unfolding all_refused
lively_beside w (CallsItems number asked) fits h = served_lively w number asked fits h
lively_beside w (ShowsItems changed) fits h = record {
  live = h.live;
  rising = h.rising;
  reached = reached_on w.items (item_moves.Move.Show changed) h.reached;
  owned = shown_of (λ n. is_some (subscription_at n w.table.subscriptions) ≡ true) changed w.items.items h.owned;
}
lively_beside w (Acknowledges session acks) fits h =
    all_acknowledged session (λ (subscriptions : List (ℕ × Subscription)). IsLively subscriptions w.items)
    (λ subscriptions n number s found its k. set_lively n s (without_kept number s) subscriptions w.items found (k.live n s found) k) acks w.table.subscriptions h
lively_beside w b fits h = h

refused_lively : (session number : ℕ) (settings : Settings) (enabled : Bool) (w : Stage) → StaysLively w (Meets (made_scene true number session settings enabled w) ∷ []) (refused_one session settings enabled w)
unfolding refused_one fired row_done
refused_lively session number settings enabled w h = record { live = h.live; rising = h.rising; reached = h.reached; owned = h.owned }

put_lively : (n : ℕ) (s : Subscription) (subscriptions : List (ℕ × Subscription)) (items : ItemsState) → is_closed s ≡ false → IsLively subscriptions items → IsLively (insert_entry nat_cmp subscriptions n s) items
put_lively n s subscriptions items alive h = record {
  live = each_put n s subscriptions (λ (m : ℕ) (u : Subscription). is_closed u ≡ false) alive (λ m u other. h.live m u);
  rising = rising_put n s subscriptions h.rising;
  reached = h.reached;
  owned = λ m item at_m. there item.subscription (same_or_not item.subscription n) (h.owned m item at_m);
}
  where
    there : (m : ℕ) → (m ≡ n) ⊎ (m ≢ n) → is_some (subscription_at m subscriptions) ≡ true → is_some (subscription_at m (insert_entry nat_cmp subscriptions n s)) ≡ true
    there m (inl is) was = ap (λ (j : ℕ). is_some (subscription_at j (insert_entry nat_cmp subscriptions n s))) is ∙ ap is_some (put_here n s subscriptions)
    there m (inr other) was = ap is_some (put_other n m s other subscriptions) ∙ was

added_lively : (session number : ℕ) (settings : Settings) (enabled : Bool) (w : Stage) → StaysLively w (Meets (made_scene false number session settings enabled w) ∷ []) (added session number settings enabled w)
unfolding added fired row_done
added_lively session number settings enabled w h = put_lively number _ w.table.subscriptions w.items refl h

follows_lively : Follows Any StaysLively
follows_lively = record {
  rest = λ whose asked w n ns given. tt;
  none = λ w h. h;
  next = λ w v u es fs p q h. q (p h);
  passes = λ w n asked h. h;
  aside = lively_beside;
  one = λ whose asked w n ns s plain given meant found h. one_lively w n asked s plain found h;
}

lively_making : FollowsMaking StaysLively
lively_making = record { refuses = refused_lively; adds = λ r clock session settings enabled room. added_lively session (r.subscriptions.made + 1) settings enabled (stage_of r.subscriptions r.items clock) }

one_call : (r : Ran) (m : Move) → IsLively r.subscriptions.table.subscriptions r.items → IsLively (moved r m).subscriptions.table.subscriptions (moved r m).items
one_call r m h =
    let is = left_is r m in
    subst (λ (t : TableState). IsLively t.subscriptions (moved r m).items) (sym is.table)
    (subst (IsLively (left r m).table.subscriptions) (sym is.items) (walked Any StaysLively follows_lively lively_making r m (any_begins r m) h))

run_lively : (config : Configuration) (moves : List Move) → IsLively (run config moves).subscriptions.table.subscriptions (run config moves).items
run_lively config moves = fold_keeps (λ (r : Ran). IsLively r.subscriptions.table.subscriptions r.items) moved one_call moves (start config) (record {
  live = λ n s at_n. absurd (cc);
  rising = tt;
  reached = (run_kept config []).calm.reached;
  owned = λ m item at_m. absurd (cc);
})

pub items_of_live : (config : Configuration) (moves : List Move) → let r = run config moves in AreOfLive r.subscriptions.table.subscriptions r.items.items
items_of_live config moves = (run_lively config moves).owned

pub none_after_shutdown : (config : Configuration) (moves : List Move) (clock : Moment) (number : ℕ) → item_at number (moved (run config moves) (Move.Shutdown clock)).items.items ≡ None
none_after_shutdown config moves clock number = by (item_at number after.items.items) refl
  where
    r : Ran
    r = run config moves

    after : Ran
    after = moved (run config moves) (Move.Shutdown clock)

    by : (o : Option Item) → item_at number (moved (run config moves) (Move.Shutdown clock)).items.items ≡ o → o ≡ None
    by None e = refl
    by (Some item) e =
        let h : IsLively (moved (run config moves) (Move.Shutdown clock)).subscriptions.table.subscriptions (moved (run config moves) (Move.Shutdown clock)).items = one_call (run config moves) (Move.Shutdown clock) (run_lively config moves) in
        let none : is_some (subscription_at item.subscription []) ≡ true = ap (λ (t : TableState). is_some (subscription_at item.subscription t.subscriptions)) (sym (none_is_left config moves clock)) ∙ h.owned number item e in
        absurd (cc)
