-- A request of one session leaves what is of others as it is.
use Rattle.std.proofs.Common.{◌≡◌, ◌≢◌, ◌⊎◌, inl, inr, ℕ, ◌+◌, ◌≤◌, arith, Bool, true, false, List, ◌∷◌, Option, Some, None, unwrap_or, refl, sym, ap, ◌∙◌, subst}
use Rattle.std.proofs.lemmas.Bool.{ne_eqb, false_from_ne_true, false≢true, eq-eqb}
use Rattle.std.specs.BTreeMap.{is_at}
use Rattle.std.specs.List.{AllByRecursion}
use Rattle.std.specs.Map.{set_value}
use Rattle.std.specs.Ordering.{nat_cmp}
use Rattle.ua_types.specs.Configuration.{Configuration}
use Rattle.ua_types.specs.declared.moment.Moment.{Moment}
use Rattle.ua_subscription_messages.specs.declared.publishing.SubscriptionAcknowledgement.{SubscriptionAcknowledgement}
use Rattle.ua_monitored_items.specs.Items.{ItemsState}
use Rattle.ua_monitored_items.specs.ItemTables.{item_at}
use Rattle.ua_monitored_items.specs.declared.item.Item.{Item}
use Rattle.ua_subscriptions.specs.declared.call.Call.{Call}
use Rattle.ua_subscriptions.specs.declared.session_part.SessionSubscriptions.{SessionSubscriptions}
use Rattle.ua_subscriptions.specs.declared.settings.Settings.{Settings}
use Rattle.ua_subscriptions.specs.declared.subscription.Subscription.{Subscription}
use Rattle.subscription_laws.specs.Apartness.{IsRequestOf, OthersStay}
use Rattle.subscription_laws.specs.Calm.{is_listed, AreRising, AreReached}
use Rattle.ua_subscriptions.specs.Firing.{fired}
use Rattle.ua_subscriptions.specs.Making.{refused_one, with_number, added}
use Rattle.ua_subscriptions.specs.Named.{is_own_in, is_own, without_requests, all_refused}
use Rattle.ua_subscriptions.specs.Publishing.{without_kept, part_without_note, without_note, ready, asked_numbers}
use Rattle.subscription_laws.specs.Runs.{Move, Ran, ran_by, moved, run}
use Rattle.subscription_laws.specs.Encounters.{Beside, CallsItems, ShowsItems, Acknowledges, Refuses, Leaves, LeavesAll, Loses, beside, Encounter, is_meant, met_if}
use Rattle.ua_subscriptions.specs.SubscriptionCalls.{stage_of, is_full, refused, created_one, created}
use Rattle.ua_subscriptions.specs.Scenes.{Scene}
use Rattle.ua_subscriptions.specs.Subscriptions.{no_part, is_of as is_of_session}
use Rattle.ua_subscriptions.specs.Tables.{TableState, Stage, part_at, set_part, subscription_at, put_back, stage_after, scene_at}
use Rattle.ua_subscriptions.proofs.Choosing.{either}
use Rattle.subscription_laws.proofs.Acknowledgements.{of_is, all_acknowledged}
use Rattle.subscription_laws.proofs.AskedNumbers.{asked_are, listed_are}
use Rattle.subscription_laws.proofs.Entries.{each_put, same_or_not, set_here, set_other, put_other, gone_other, rising_set}
use Rattle.subscription_laws.proofs.Firings.{fired_items, fired_session}
use Rattle.subscription_laws.proofs.KeepingItems.{served_apart}
use Rattle.subscription_laws.proofs.KeepingMade.{refused_items, added_start, begun_rest}
use Rattle.subscription_laws.proofs.Remains.{AreApart}
use Rattle.subscription_laws.proofs.RunMessages.{run_numbered}
use Rattle.subscription_laws.proofs.RunsKept.{IsRunKept, run_kept}
use Rattle.subscription_laws.proofs.KeepingParts.{of_put, set_fewer}
use Rattle.subscription_laws.proofs.Walks.{all_split, clock_of, makes, left, left_is, Follows, Begins, walked_on, DoneBy, OnBeside, each_done}
use Rattle.subscription_laws.proofs.Settling.{IsPutBack, back_other, back_is, back_rises}

-- ---- whose a subscription is

own_found : (session : ℕ) (o : Option Subscription) (s : Subscription) → o ≡ Some s → s.session ≡ Some session → is_own_in session o ≡ true
own_found session None s e own = absurd (cc)
own_found session (Some u) s e own =
    let it : u ≡ s = cc in
    ap (λ (x : Subscription). is_of_session x.session session) it ∙ ap (λ (q : Option ℕ). is_of_session q session) own ∙ eq-eqb session session refl

found_own : (session : ℕ) (o : Option Subscription) (s : Subscription) → o ≡ Some s → is_own_in session o ≡ true → s.session ≡ Some session
found_own session None s e own = absurd (cc)
found_own session (Some u) s e own =
    let it : u ≡ s = cc in
    ap (λ (x : Subscription). x.session) (sym it) ∙ of_is u.session session own

-- one that is the session's isn't one that isn't
differs : (session : ℕ) (t : TableState) (m n : ℕ) → is_own t session m ≡ false → is_own t session n ≡ true → m ≢ n
differs session t m n foreign mine same = false≢true (sym foreign ∙ ap (λ (i : ℕ). is_own t session i) same ∙ mine)

-- ---- what stays while own subscriptions meet something

module _ (session : ℕ) (t : TableState) (items : ItemsState) where
  -- a subscription is of the session, or of none any more
  abbrev IsOrWas : Subscription → Type 0
  IsOrWas s = (s.session ≡ Some session) ⊎ (s.session ≡ None)

  record SubscriptionsApart (after : List (ℕ × Subscription)) : Type 0 where
    own : (m : ℕ) (s : Subscription) → is_own t session m ≡ true → subscription_at m after ≡ Some s → IsOrWas s
    others : (m : ℕ) → is_own t session m ≡ false → subscription_at m after ≡ subscription_at m t.subscriptions
    rising : AreRising after

  record ItemsApart (after : ItemsState) : Type 0 where
    stay : (m : ℕ) (item : Item) → item_at m items.items ≡ Some item → is_own t session item.subscription ≡ false → item_at m after.items ≡ Some item
    none_comes : (m : ℕ) (item : Item) → item_at m after.items ≡ Some item → is_own t session item.subscription ≡ false → item_at m items.items ≡ Some item
    reached : AreReached after

  record IsApart (w : Stage) : Type 0 where
    parts : (k : ℕ) → k ≢ session → part_at k w.table.sessions ≡ part_at k t.sessions
    subscriptions : SubscriptionsApart w.table.subscriptions
    monitored : ItemsApart w.items

  -- one of its own is another
  changed_apart : (n : ℕ) (before after : List (ℕ × Subscription)) → is_own t session n ≡ true → ((m : ℕ) → m ≢ n → subscription_at m after ≡ subscription_at m before) →
      ((s : Subscription) → subscription_at n after ≡ Some s → IsOrWas s) → AreRising after → SubscriptionsApart before → SubscriptionsApart after
  changed_apart n before after its same here rising h = record {
    own = λ m s mine at_m. by m s mine at_m (same_or_not m n);
    others = λ m foreign. same m (differs session t m n foreign its) ∙ h.others m foreign;
    rising = rising;
  }
    where
      by : (m : ℕ) (s : Subscription) → is_own t session m ≡ true → subscription_at m after ≡ Some s → (m ≡ n) ⊎ (m ≢ n) → IsOrWas s
      by m s mine at_m (inl is) = here s (ap (λ (k : ℕ). subscription_at k after) (sym is) ∙ at_m)
      by m s mine at_m (inr other) = h.own m s mine (sym (same m other) ∙ at_m)

  -- what is its own now was so before
  own_then : (subscriptions : List (ℕ × Subscription)) (n : ℕ) (s : Subscription) → SubscriptionsApart subscriptions → subscription_at n subscriptions ≡ Some s → s.session ≡ Some session → is_own t session n ≡ true
  own_then subscriptions n s h found mine = by (is_own t session n) refl
    where
      by : (b : Bool) → is_own t session n ≡ b → is_own t session n ≡ true
      by true e = e
      by false e = own_found session (subscription_at n t.subscriptions) s (sym (h.others n e) ∙ found) mine

  own_now : (w : Stage) (n : ℕ) → IsApart w → is_own w.table session n ≡ true → is_own t session n ≡ true
  own_now w n h is = by (subscription_at n w.table.subscriptions) refl is
    where
      by : (o : Option Subscription) → subscription_at n w.table.subscriptions ≡ o → is_own_in session o ≡ true → is_own t session n ≡ true
      by None found e = absurd (cc)
      by (Some s) found e = own_then w.table.subscriptions n s h.subscriptions found (of_is s.session session e)

  forgotten_apart : (subscriptions : List (ℕ × Subscription)) (n number : ℕ) (s : Subscription) → subscription_at n subscriptions ≡ Some s → s.session ≡ Some session → SubscriptionsApart subscriptions →
      SubscriptionsApart (set_value (is_at (nat_cmp n)) subscriptions (without_kept number s))
  forgotten_apart subscriptions n number s found mine h =
      changed_apart n subscriptions (set_value (is_at (nat_cmp n)) subscriptions (without_kept number s)) (own_then subscriptions n s h found mine)
      (λ m other. set_other n m (without_kept number s) other subscriptions) (λ u at_n. inl (same u (sym (set_here n s (without_kept number s) subscriptions found) ∙ at_n) ∙ mine))
      (rising_set n (without_kept number s) subscriptions h.rising) h
    where
      same : (u : Subscription) → Some (without_kept number s) ≡ Some u → u.session ≡ s.session
      same u e = let it : u ≡ without_kept number s = cc in ap (λ (x : Subscription). x.session) it

  items_then : (before after : ItemsState) (n : ℕ) → is_own t session n ≡ true → AreApart n before after → ItemsApart before → ItemsApart after
  items_then before after n its a h = record {
    stay = λ m item found foreign. (a.stay h.reached).0 m item (h.stay m item found foreign) (ne_eqb item.subscription n (differs session t item.subscription n foreign its));
    none_comes = λ m item found foreign. h.none_comes m item ((a.stay h.reached).1 m item found (ne_eqb item.subscription n (differs session t item.subscription n foreign its))) foreign;
    reached = a.reached h.reached;
  }

  live_apart : (w : Stage) (n : ℕ) (asked : Call) (s : Subscription) → is_own t session n ≡ true → subscription_at n w.table.subscriptions ≡ Some s → IsApart w → IsApart (stage_after n s (fired (scene_at w n asked s)) w.table)
  live_apart w n asked s its found h = record {
    parts = λ k other. part s.session k other (h.subscriptions.own n s its found) ∙ h.parts k other;
    subscriptions = changed_apart n w.table.subscriptions (put_back n d.subscription w.table.subscriptions) its (λ m other. back_other n m d.subscription w.table.subscriptions other)
        (λ u at_n. here u (back_is n s d.subscription w.table.subscriptions h.subscriptions.rising found n u at_n)) (back_rises n d.subscription w.table.subscriptions h.subscriptions.rising) h.subscriptions;
    monitored = items_then w.items d.items n its (fired_items (scene_at w n asked s)) h.monitored;
  }
    where
      d : Scene
      d = fired (scene_at w n asked s)

      part : (o : Option ℕ) (k : ℕ) → k ≢ session → (o ≡ Some session) ⊎ (o ≡ None) → part_at k (set_part o w.table.sessions d.part) ≡ part_at k w.table.sessions
      part None k other is = refl
      part (Some j) k other (inl e) = ap (λ (o : Option SessionSubscriptions). unwrap_or o no_part) (set_other j k d.part (λ same. let it : j ≡ session = cc in other (same ∙ it)) w.table.sessions)
      part (Some j) k other (inr e) = absurd (cc)

      stays : ((d.subscription.session ≡ s.session) ⊎ (d.subscription.session ≡ None)) → IsOrWas s → IsOrWas d.subscription
      stays (inr e) was = inr e
      stays (inl e) (inl was) = inl (e ∙ was)
      stays (inl e) (inr was) = inr (e ∙ was)

      here : (u : Subscription) → IsPutBack n n d.subscription u ⊎ ((n ≢ n) × (subscription_at n w.table.subscriptions ≡ Some u)) → IsOrWas u
      here u (inl b) = subst IsOrWas (sym b.is) (stays (fired_session (scene_at w n asked s)) (h.subscriptions.own n s its found))
      here u (inr (other, before)) = absurd (other refl)

same_numbers : (session : ℕ) (sessions : List (ℕ × SessionSubscriptions)) → (part_at session (without_note session sessions)).numbers ≡ (part_at session sessions).numbers
same_numbers session sessions = (set_fewer session (part_without_note (part_at session sessions)) sessions refl (λ e. e)).numbers session

-- ---- CreateSubscription

pub none_changes : (session : ℕ) (t : TableState) (items : ItemsState) → OthersStay session t items t items
none_changes session t items = record {
  parts = λ j other. refl;
  subscriptions = λ m s found other. found;
  none_comes = λ m s found other. inl found;
  items_stay = λ m item found foreign. found;
  no_item_comes = λ m item found foreign. found;
}

added_others : (session : ℕ) (made : ℕ) (asked : Settings) (enabled : Bool) (w : Stage) → ((n : ℕ) (s : Subscription) → subscription_at n w.table.subscriptions ≡ Some s → n ≤ made) →
    OthersStay session w.table w.items (added session (made + 1) asked enabled w).table (added session (made + 1) asked enabled w).items
unfolding added
added_others session made asked enabled w given =
    let c = added_start session (made + 1) asked enabled w in
    record {
      parts = of_put session (with_number (made + 1) (fired c).part) w.table.sessions (λ (k : ℕ) (p : SessionSubscriptions). k ≢ session → p ≡ part_at k w.table.sessions) (λ other. absurd (other refl)) (λ k other apart. refl);
      subscriptions = λ m s found other. put_other (made + 1) m (fired c).subscription (fresh m s found) w.table.subscriptions ∙ found;
      -- the one that was made is the session's own
      none_comes = each_put (made + 1) (fired c).subscription w.table.subscriptions
          (λ (m : ℕ) (u : Subscription). u.session ≢ Some session → (subscription_at m w.table.subscriptions ≡ Some u) ⊎ ((is_own w.table session m ≡ true) × (u.session ≡ None)))
          (λ other. absurd (other (begun_rest session (made + 1) asked enabled w).0)) (λ m u apart found other. inl found);
      items_stay = λ m item found foreign. ap (λ (i : ItemsState). item_at m i.items) (begun_rest session (made + 1) asked enabled w).1 ∙ found;
      no_item_comes = λ m item found foreign. ap (λ (i : ItemsState). item_at m i.items) (sym (begun_rest session (made + 1) asked enabled w).1) ∙ found;
    }
  where
    fresh : (m : ℕ) (s : Subscription) → subscription_at m w.table.subscriptions ≡ Some s → m ≢ made + 1
    fresh m s found same = let most : m ≤ made = given m s found in absurd (omega (arith, most, same))

refused_others : (session : ℕ) (asked : Settings) (enabled : Bool) (w : Stage) → OthersStay session w.table w.items (refused_one session asked enabled w).table (refused_one session asked enabled w).items
unfolding refused_one
refused_others session asked enabled w = subst (OthersStay session w.table w.items w.table) (sym (refused_items session asked enabled w)) (none_changes session w.table w.items)

-- ---- any request

abbrev Stays : ℕ → Ran → Ran → Type 0
Stays session r after = OthersStay session r.subscriptions.table r.items after.subscriptions.table after.items

created_stays : (r : Ran) (clock : Moment) (session : ℕ) (settings : Settings) (enabled : Bool) → ((n : ℕ) (s : Subscription) → subscription_at n r.subscriptions.table.subscriptions ≡ Some s → n ≤ r.subscriptions.made) →
    Stays session r (ran_by r (created session settings enabled r.subscriptions r.items clock))
unfolding created refused created_one
created_stays r clock session settings enabled given =
    let w = stage_of r.subscriptions r.items clock in
    either (λ s. Stays session r (ran_by r s)) (is_full r.subscriptions session) (refused session settings enabled r.subscriptions w) (created_one session settings enabled r.subscriptions w)
    (refused_others session settings enabled w) (added_others session r.subscriptions.made settings enabled w given)

begins_apart : (r : Ran) (clock : Moment) (session : ℕ) → IsRunKept r → IsApart session r.subscriptions.table r.items (stage_of r.subscriptions r.items clock)
begins_apart r clock session k = record {
  parts = λ j other. refl;
  subscriptions = record { own = λ m s its found. inl (found_own session (subscription_at m r.subscriptions.table.subscriptions) s found its); others = λ m foreign. refl; rising = k.calm.listed.subscriptions };
  monitored = record { stay = λ m item found foreign. found; none_comes = λ m item found foreign. found; reached = k.calm.reached };
}

-- so what is of others stays
apart_stays : (session : ℕ) (t : TableState) (items : ItemsState) (w : Stage) → IsApart session t items w → OthersStay session t items w.table w.items
apart_stays session t items w h = record {
  parts = h.parts;
  subscriptions = λ m s found other. h.subscriptions.others m (foreign m s found other) ∙ found;
  none_comes = λ m s found other. come m s found other (is_own t session m) refl;
  items_stay = h.monitored.stay;
  no_item_comes = h.monitored.none_comes;
}
  where
    foreign : (m : ℕ) (s : Subscription) → subscription_at m t.subscriptions ≡ Some s → s.session ≢ Some session → is_own t session m ≡ false
    foreign m s found other = false_from_ne_true (is_own t session m) (λ e. other (found_own session (subscription_at m t.subscriptions) s found e))

    come : (m : ℕ) (s : Subscription) → subscription_at m w.table.subscriptions ≡ Some s → s.session ≢ Some session → (b : Bool) → is_own t session m ≡ b → (subscription_at m t.subscriptions ≡ Some s) ⊎ ((is_own t session m ≡ true) × (s.session ≡ None))
    come m s found other false e = inl (sym (h.subscriptions.others m e) ∙ found)
    come m s found other true e = inr (e, left (h.subscriptions.own m s e found))
      where
        left : (s.session ≡ Some session) ⊎ (s.session ≡ None) → s.session ≡ None
        left (inl mine) = absurd (other mine)
        left (inr none) = none

lists_its : (r : Ran) (session : ℕ) → IsRunKept r → (m : ℕ) → is_listed m (part_at session r.subscriptions.table.sessions).numbers ≡ true → is_own r.subscriptions.table session m ≡ true
lists_its r session k m listed = by (k.own session m listed)
  where
    by : (s : Subscription) × (subscription_at m r.subscriptions.table.subscriptions ≡ Some s) × (s.session ≡ Some session) → is_own r.subscriptions.table session m ≡ true
    by (s, found, mine) = own_found session (subscription_at m r.subscriptions.table.subscriptions) s found mine

-- what is done beside is the session's
abbrev IsIts : ℕ → TableState → Beside → Type 0
IsIts session t (CallsItems number asked) = is_own t session number ≡ true
IsIts session t (ShowsItems changed) = ⊥
IsIts session t (Acknowledges own acks) = own ≡ session
IsIts session t (Refuses own code) = own ≡ session
IsIts session t (Leaves own) = own ≡ session
IsIts session t (LeavesAll code) = ⊥
IsIts session t (Loses conn) = ⊥
IsIts session t b = Unit {0}

-- those that are met are its own, or are so where they are named
abbrev GivenIts : ℕ → TableState → Option ℕ → Call → Stage → List ℕ → Type 0
GivenIts session t whose asked w ns = (whose ≡ Some session) ⊎ AllByRecursion (λ (n : ℕ). is_own t session n ≡ true) ns

rest_its : (session : ℕ) (t : TableState) (whose : Option ℕ) (asked : Call) (w v : Stage) (n : ℕ) (ns : List ℕ) → GivenIts session t whose asked w (n ∷ ns) → GivenIts session t whose asked v ns
rest_its session t whose asked w v n ns (inl is) = inl is
rest_its session t whose asked w v n ns (inr its) = inr its.1

module _ (session : ℕ) (t : TableState) (items : ItemsState) where
  abbrev Apart : Stage → Type 0
  Apart w = IsApart session t items w

  abbrev StaysApart : Stage → List Encounter → Stage → Type 0
  StaysApart w es v = AllByRecursion (OnBeside (IsIts session t)) es → Apart w → Apart v

  -- the session has another part
  other_part : (own : ℕ) → own ≡ session → (part : SessionSubscriptions) (w : Stage) → Apart w → (k : ℕ) → k ≢ session → part_at k (set_value (is_at (nat_cmp own)) w.table.sessions part) ≡ part_at k t.sessions
  other_part own is part w h k other = ap (λ (o : Option SessionSubscriptions). unwrap_or o no_part) (set_other own k part (λ same. other (same ∙ is)) w.table.sessions) ∙ h.parts k other

  beside_apart : (w : Stage) (b : Beside) → IsIts session t b → Apart w → Apart (beside w b)
  unfolding all_refused
  beside_apart w (CallsItems number asked) is h = record { parts = h.parts; subscriptions = h.subscriptions; monitored = items_then session t items w.items _ number is (served_apart number asked w.items) h.monitored }
  beside_apart w (ShowsItems changed) is h = absurd is
  beside_apart w (Acknowledges own acks) is h = record {
    parts = other_part own is (part_without_note (part_at own w.table.sessions)) w h;
    subscriptions = all_acknowledged own (SubscriptionsApart session t items) (λ subscriptions n number s found mine k. forgotten_apart session t items subscriptions n number s found (mine ∙ ap Some is) k) acks w.table.subscriptions h.subscriptions;
    monitored = h.monitored;
  }
  beside_apart w (Refuses own code) is h = record { parts = other_part own is (without_requests (part_at own w.table.sessions)) w h; subscriptions = h.subscriptions; monitored = h.monitored }
  beside_apart w (Leaves own) is h = record {
    parts = λ k other. ap (λ (o : Option SessionSubscriptions). unwrap_or o no_part) (gone_other own k (λ same. other (same ∙ is)) w.table.sessions) ∙ h.parts k other;
    subscriptions = h.subscriptions;
    monitored = h.monitored;
  }
  beside_apart w (LeavesAll code) is h = absurd is
  beside_apart w (Loses conn) is h = absurd is
  beside_apart w b is h = record { parts = h.parts; subscriptions = h.subscriptions; monitored = h.monitored }

  met_its : (whose : Option ℕ) (asked : Call) (w : Stage) (n : ℕ) (ns : List ℕ) → GivenIts session t whose asked w (n ∷ ns) → is_meant whose w n ≡ true → Apart w → is_own t session n ≡ true
  met_its whose asked w n ns (inl is) meant h = own_now session t items w n h (subst (λ (o : Option ℕ). is_meant o w n ≡ true) is meant)
  met_its whose asked w n ns (inr its) meant h = its.0

  follows_apart : Follows (GivenIts session t) StaysApart
  follows_apart = record {
    rest = λ whose asked w n ns given. rest_its session t whose asked w (met_if (is_meant whose w n) w n asked) n ns given;
    none = λ w its h. h;
    next = λ w v u es fs p q its h. let both = all_split (OnBeside (IsIts session t)) es fs its in q both.1 (p both.0 h);
    passes = λ w n asked its h. record { parts = h.parts; subscriptions = h.subscriptions; monitored = h.monitored };
    aside = λ w b fits its h. beside_apart w b its.0 h;
    one = λ whose asked w n ns s plain given meant found its h. live_apart session t items w n asked s (met_its whose asked w n ns given meant h) found h;
  }

plain_stays : (session : ℕ) (r : Ran) (m : Move) → makes m ≡ false → IsRunKept r → DoneBy (IsIts session r.subscriptions.table) m → Begins (GivenIts session r.subscriptions.table) r m → Stays session r (moved r m)
plain_stays session r m plain k done given =
    let t = r.subscriptions.table in
    let h = walked_on (GivenIts session t) (StaysApart session t r.items) (follows_apart session t r.items) r m plain given (each_done (IsIts session t) r m done) (begins_apart r (clock_of m) session k) in
    let is = left_is r m in
    subst (λ (after : TableState). OthersStay session t r.items after (moved r m).items) (sym is.table) (subst (OthersStay session t r.items (left r m).table) (sym is.items) (apart_stays session t r.items (left r m) h))

-- those that a Publish request of the session comes to
asked_its : (r : Ran) (clock : Moment) (session : ℕ) (acks : List SubscriptionAcknowledgement) → IsRunKept r → let v = ready session acks (stage_of r.subscriptions r.items clock) in
    AllByRecursion (λ (n : ℕ). is_own r.subscriptions.table session n ≡ true) (asked_numbers v (part_at session v.table.sessions).numbers)
asked_its r clock session acks k =
    let v = ready session acks (stage_of r.subscriptions r.items clock) in
    asked_are (λ (n : ℕ). is_own r.subscriptions.table session n ≡ true) v (part_at session v.table.sessions).numbers
    (listed_are (λ (n : ℕ). is_own r.subscriptions.table session n ≡ true) (part_at session v.table.sessions).numbers (λ m listed. lists_its r session k m (sym (ap (is_listed m) (same_numbers session r.subscriptions.table.sessions)) ∙ listed)))

request_stays : (r : Ran) (m : Move) (session : ℕ) → IsRunKept r → ((n : ℕ) (s : Subscription) → subscription_at n r.subscriptions.table.subscriptions ≡ Some s → n ≤ r.subscriptions.made) → IsRequestOf session r.subscriptions.table m → Stays session r (moved r m)
request_stays r (Move.Create clock own settings enabled) session k given is = let m = Move.Create clock own settings enabled in subst (λ (i : ℕ). Stays i r (moved r m)) is (created_stays r clock own settings enabled given)
request_stays r (Move.Modify clock own number settings) session k given is = let m = Move.Modify clock own number settings in subst (λ (i : ℕ). Stays i r (moved r m)) is (plain_stays own r m refl k tt (inl refl))
request_stays r (Move.SetMode clock own numbers enabled) session k given is = let m = Move.SetMode clock own numbers enabled in subst (λ (i : ℕ). Stays i r (moved r m)) is (plain_stays own r m refl k tt (inl refl))
request_stays r (Move.Delete clock own numbers) session k given is = let m = Move.Delete clock own numbers in subst (λ (i : ℕ). Stays i r (moved r m)) is (plain_stays own r m refl k refl (inl refl))
request_stays r (Move.Publish clock own asked acks) session k given is =
    let m = Move.Publish clock own asked acks in
    subst (λ (i : ℕ). Stays i r (moved r m)) is (plain_stays own r m refl k (refl, λ results. ((λ note. tt), tt, tt)) (λ none. inr (asked_its r clock own acks k)))
request_stays r (Move.Republish clock own number wanted) session k given is = let m = Move.Republish clock own number wanted in subst (λ (i : ℕ). Stays i r (moved r m)) is (plain_stays own r m refl k tt (inl refl))
request_stays r (Move.EndSession clock own deleting) session k given is =
    let m = Move.EndSession clock own deleting in
    subst (λ (i : ℕ). Stays i r (moved r m)) is
    (plain_stays own r m refl k (refl, refl) (inr (listed_are (λ (n : ℕ). is_own r.subscriptions.table own n ≡ true) (part_at own r.subscriptions.table.sessions).numbers (lists_its r own k))))
request_stays r (Move.Items clock number asked) session k given is = plain_stays session r (Move.Items clock number asked) refl k is (λ vars. inr (is, tt))
request_stays r (Move.Timers clock) session k given is = absurd is
request_stays r (Move.Shutdown clock) session k given is = absurd is
request_stays r (Move.Gone conn) session k given is = absurd is
request_stays r (Move.Show changed) session k given is = absurd is

pub requests_stay_apart : (config : Configuration) (moves : List Move) (m : Move) (session : ℕ) → let r = run config moves in IsRequestOf session r.subscriptions.table m →
    OthersStay session r.subscriptions.table r.items (moved r m).subscriptions.table (moved r m).items
requests_stay_apart config moves m session is = request_stays (run config moves) m session (run_kept config moves) (run_numbered config moves).numbered.given is
