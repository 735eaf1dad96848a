-- What every call keeps, while a subscription is made or refused.
use Rattle.std.proofs.Common.{◌≡◌, ◌≢◌, ◌⊎◌, inl, inr, ℕ, ◌≤◌, ◌<◌, ◌==◌, arith, Bool, true, false, ◌&&◌, cond, List, [], ◌∷◌, ◌++◌, Option, Some, None, refl, sym, ap, ◌∙◌, subst, append_assoc}
use Rattle.std.proofs.lemmas.List.Sums.{fold-append}
use Rattle.std.specs.BTreeMap.{insert_entry, is_at}
use Rattle.std.specs.Map.{remove_entry}
use Rattle.std.specs.Option.{is_some}
use Rattle.std.specs.Ordering.{nat_cmp}
use Rattle.server_messages.specs.declared.fired.Fired.{Fired}
use Rattle.ua_state_table.specs.Chosen.{chosen}
use Rattle.ua_state_table.specs.Events.{fits}
use Rattle.ua_state_table.specs.Sound.{IsSound}
use Rattle.ua_state_table.specs.StateTable.{fires}
use Rattle.ua_state_table.specs.Steady.{IsSteady}
use Rattle.ua_state_table.specs.declared.event.TableEvent.{TableEvent}
use Rattle.ua_state_table.specs.declared.event.TableEvent.TheVariants as event
use Rattle.ua_state_table.specs.declared.row.RowId.{RowId}
use Rattle.ua_state_table.specs.declared.row.RowId.TheVariants.{C1, C2, G6}
use Rattle.ua_state_table.specs.declared.state.State.TheVariants.{Closed}
use Rattle.ua_state_table.specs.declared.vars.Vars.{Vars}
use Rattle.ua_state_table.proofs.KeptLemmas.{begins}
use Rattle.ua_state_table.proofs.OneRow.{one_row}
use Rattle.ua_monitored_items.specs.Items.{ItemsState}
use Rattle.ua_subscriptions.specs.declared.call.Call.TheVariants.{Create}
use Rattle.ua_subscriptions.specs.declared.publish_call.PublishCall.{PublishCall}
use Rattle.ua_subscriptions.specs.declared.session_part.SessionSubscriptions.{SessionSubscriptions}
use Rattle.ua_subscriptions.specs.declared.settings.Settings.{Settings}
use Rattle.ua_subscriptions.specs.declared.subscription.Subscription.{Subscription}
use Rattle.subscription_laws.specs.Calm.{is_listed, IsListed, ListsItsOwn, AreLists, AreNumbersRising, standing_at, AreSteady, LivesAreSet, IsCalm}
use Rattle.ua_subscriptions.specs.Firing.{fired}
use Rattle.subscription_laws.specs.Histories.{counted_for, no_counts, life_for, counts_after, counts_at, life_after, life_at, IsLawful}
use Rattle.ua_subscriptions.specs.Making.{refused_scene, refused_one, with_number, added}
use Rattle.ua_subscriptions.specs.Scenes.{Scene, scene, row_done}
use Rattle.subscription_laws.specs.Standings.{Counts, standing, standing_in, circumstances, row_counts}
use Rattle.ua_subscriptions.specs.Subscriptions.{unborn, no_part, is_any, no_vars, vars_of}
use Rattle.ua_subscriptions.specs.Tables.{TableState, Stage, with_call, part_at, part_of, subscription_at}
use Rattle.ua_subscriptions.proofs.Choosing.{either}
use Rattle.subscription_laws.proofs.Entries.{each_put, some_same, put_here, put_other, rising_put, rising_gone, listed_put, listed_still, listed_before, numbers_rising_put}
use Rattle.subscription_laws.proofs.Firings.{firing, fired_rows, fired_number, life_told}
use Rattle.subscription_laws.proofs.Keeping.{IsKept}
use Rattle.subscription_laws.proofs.KeepingParts.{of_put}
use Rattle.subscription_laws.proofs.RowCounts.{counts_own, counts_other, life_other, counts_of_row}
use Rattle.subscription_laws.proofs.RowFairness.{fair}
use Rattle.subscription_laws.proofs.RowLinks.{link_C2}
use Rattle.subscription_laws.proofs.Settling.{still, one_more_lawful}

-- ---- a row of one that is created

no_more : (e : TableEvent) → fits Closed e ≡ true → fires no_vars e ≡ chosen no_vars e ∷ []
no_more e fit = one_row no_vars e (λ live. absurd (live refl)) fit

created_lawful : (rows : List Fired) (f : Fired) (full : Bool) → f.before ≡ no_vars → f.event ≡ event.Create full → f.row ≡ chosen no_vars (event.Create full) → IsLawful rows f
created_lawful rows f full before comes is = record {
  only = ap (λ (v : Vars). fires v f.event) before ∙ ap (fires no_vars) comes ∙ no_more (event.Create full) refl ∙ ap (λ (r : RowId). r ∷ []) (sym is);
  sound = subst (λ (v : Vars). IsSound v) (sym before) (λ live. absurd (live refl));
  times_out = λ e. absurd (never full (sym is ∙ e));
  in_time = λ e last. absurd (other (sym comes ∙ e));
}
  where
    never : (b : Bool) → cond b C1 C2 ≡ G6 → ⊥
    never true e = absurd (cc)
    never false e = absurd (cc)

    other : event.Create full ≡ event.Timer → ⊥
    other e = absurd (cc)

-- ---- one that is refused

-- the row changes no counts
refused_counts : (m : ℕ) (rows : List Fired) (f : Fired) → f.row ≡ C1 → counts_at m (rows ++ f ∷ []) ≡ counts_at m rows
refused_counts m rows f is =
    fold-append (counted_for m) no_counts rows (f ∷ []) ∙ either (λ (k : Counts). k ≡ counts_at m rows) (f.subscription == m) (counts_after (counts_at m rows) f) (counts_at m rows) (rw is refl) refl

refused_life : (m : ℕ) (rows : List Fired) (f : Fired) → f.row ≡ C1 → life_at m (rows ++ f ∷ []) ≡ life_at m rows
refused_life m rows f is = fold-append (life_for m) 0 rows (f ∷ []) ∙ either (λ (k : ℕ). k ≡ life_at m rows) (f.subscription == m) (life_after (life_at m rows) f) (life_at m rows) (rw is refl) refl

refused_calm : (rows : List Fired) (f : Fired) (t : TableState) (items : ItemsState) → f.row ≡ C1 → IsLawful rows f → IsCalm rows t items → IsCalm (rows ++ f ∷ []) t items
refused_calm rows f t items is law h = record {
  listed = h.listed;
  steady = λ m s found. subst (λ (k : Counts). IsSteady (standing (vars_of s (part_of s.session t.sessions) items m) s k)) (sym (refused_counts m rows f is)) (h.steady m s found);
  lives = λ m s found. refused_life m rows f is ∙ h.lives m s found;
  lawful = one_more_lawful rows f h.lawful law;
  reached = h.reached;
}

pub refused_items : (session : ℕ) (asked : Settings) (enabled : Bool) (w : Stage) → (refused_scene session asked enabled w).items ≡ w.items
unfolding fired row_done
refused_items session asked enabled w = refl

abbrev refused_start : ℕ → Settings → Bool → Stage → Scene
refused_start session asked enabled w = scene (with_call w.round 0 (Create true asked enabled)) (unborn session) no_part w.items

pub refused_one_kept : (made : ℕ) (past : List Fired) (session : ℕ) (asked : Settings) (enabled : Bool) (w : Stage) → IsKept None made past w → IsKept None made past (refused_one session asked enabled w)
unfolding refused_one
refused_one_kept made past session asked enabled w k =
    let f = firing (refused_start session asked enabled w) in
    let law = created_lawful (past ++ w.round.rows) f true refl refl refl in
    let rows : (past ++ w.round.rows) ++ f ∷ [] ≡ past ++ (fired (refused_start session asked enabled w)).round.rows =
    append_assoc past w.round.rows (f ∷ []) ∙ ap (λ (fs : List Fired). past ++ fs) (sym (fired_rows (refused_start session asked enabled w))) in
    record {
      calm = subst (λ (fs : List Fired). IsCalm fs w.table (refused_scene session asked enabled w).items) rows
          (subst (λ (items : ItemsState). IsCalm ((past ++ w.round.rows) ++ f ∷ []) w.table items) (sym (refused_items session asked enabled w))
          (refused_calm (past ++ w.round.rows) f w.table w.items refl law k.calm));
      own = k.own;
      within = k.within;
    }

-- ---- one that is made

abbrev pub added_start : ℕ → ℕ → Settings → Bool → Stage → Scene
added_start session number asked enabled w = scene (with_call w.round number (Create false asked enabled)) (unborn session) (part_at session w.table.sessions) w.items

begins_steady : (c : Scene) (counts : Counts) → IsSteady (standing_in c.round.own (row_done C2 c) (row_counts C2 c counts))
begins_steady c counts = subst IsSteady (sym (link_C2 c counts)) (begins (circumstances C2 c (row_done C2 c)) (standing_in c.round.own c counts) (fair C2 c))

-- what is made
record IsBegun (rows : List Fired) (c d : Scene) : Type 0 where
  session : d.subscription.session ≡ c.subscription.session
  requests : d.part.requests ≡ c.part.requests
  numbers : d.part.numbers ≡ c.part.numbers
  items : d.items ≡ c.items
  steady : IsSteady (standing_in c.round.own d (counts_at c.round.own (rows ++ firing c ∷ [])))
  lifetime : life_at c.round.own (rows ++ firing c ∷ []) ≡ d.subscription.lifetime_count

pub begun_rest : (session number : ℕ) (asked : Settings) (enabled : Bool) (w : Stage) → let d = fired (added_start session number asked enabled w) in (d.subscription.session ≡ Some session) × (d.items ≡ w.items)
unfolding fired row_done
begun_rest session number asked enabled w = (refl, refl)

begun_steady : (rows : List Fired) (session number : ℕ) (asked : Settings) (enabled : Bool) (w : Stage) → let c = added_start session number asked enabled w in
    IsSteady (standing_in number (fired c) (counts_at number (rows ++ firing c ∷ [])))
unfolding fired
begun_steady rows session number asked enabled w =
    let c = added_start session number asked enabled w in
    let counts = counts_at number rows in
    subst (λ (k : Counts). IsSteady (standing_in number (row_done C2 c) k)) (sym (counts_own number rows (firing c) (fired_number c) ∙ sym (counts_of_row C2 c counts))) (begins_steady c counts)

begun : (rows : List Fired) (session number : ℕ) (asked : Settings) (enabled : Bool) (w : Stage) → let c = added_start session number asked enabled w in IsBegun rows c (fired c)
unfolding fired row_done
begun rows session number asked enabled w =
    let c = added_start session number asked enabled w in
    let steady = begun_steady rows session number asked enabled w in
    record { session = refl; requests = refl; numbers = refl; items = refl; steady = steady; lifetime = life_told rows c refl (λ e. absurd (cc)) (counts_own number rows (firing c) (fired_number c)) steady.life_counted }

-- the table with it
abbrev with_made : ℕ → ℕ → Subscription → SessionSubscriptions → TableState → TableState
with_made number session s part t = record {
  subscriptions = insert_entry nat_cmp t.subscriptions number s;
  sessions = insert_entry nat_cmp (remove_entry (is_at (nat_cmp session)) t.sessions) session (with_number number part);
}

module _ (rows : List Fired) (t : TableState) (items : ItemsState) (number session : ℕ) (s : Subscription) (part : SessionSubscriptions) (f : Fired) (h : IsCalm rows t items) (is : f.subscription ≡ number) (own : s.session ≡ Some session)
    (numbers : part.numbers ≡ (part_at session t.sessions).numbers) (requests : part.requests ≡ (part_at session t.sessions).requests) where
  of_parts : (P : ℕ → SessionSubscriptions → Type 0) → P session (with_number number part) → ((k : ℕ) → k ≢ session → P k (part_at k t.sessions)) → (k : ℕ) → P k (part_at k (with_made number session s part t).sessions)
  of_parts = of_put session (with_number number part) t.sessions

  same_requests : (k : ℕ) → is_any (part_at k (with_made number session s part t).sessions).requests ≡ is_any (part_at k t.sessions).requests
  same_requests = of_parts (λ (k : ℕ) (p : SessionSubscriptions). is_any p.requests ≡ is_any (part_at k t.sessions).requests) (ap is_any requests) (λ k other. refl)

  same_asks : (o : Option ℕ) → (is_some o && is_any (part_of o (with_made number session s part t).sessions).requests) ≡ (is_some o && is_any (part_of o t.sessions).requests)
  same_asks None = refl
  same_asks (Some k) = same_requests k

  lists_more : (m k : ℕ) → is_listed m (part_at k t.sessions).numbers ≡ true → is_listed m (part_at k (with_made number session s part t).sessions).numbers ≡ true
  lists_more m = of_parts (λ (k : ℕ) (p : SessionSubscriptions). is_listed m (part_at k t.sessions).numbers ≡ true → is_listed m p.numbers ≡ true)
      (λ listed. listed_still m number part.numbers (ap (is_listed m) numbers ∙ listed)) (λ k other listed. listed)

  lists_it : (k : ℕ) → k ≡ session → is_listed number (part_at k (with_made number session s part t).sessions).numbers ≡ true
  lists_it k is = of_parts (λ (j : ℕ) (p : SessionSubscriptions). j ≡ session → is_listed number p.numbers ≡ true) (λ same. listed_put number part.numbers) (λ j other same. absurd (other same)) k is

  -- and nothing else
  lists_less : (m k : ℕ) → is_listed m (part_at k (with_made number session s part t).sessions).numbers ≡ true → ((m ≡ number) × (k ≡ session)) ⊎ (is_listed m (part_at k t.sessions).numbers ≡ true)
  lists_less m = of_parts (λ (k : ℕ) (p : SessionSubscriptions). is_listed m p.numbers ≡ true → ((m ≡ number) × (k ≡ session)) ⊎ (is_listed m (part_at k t.sessions).numbers ≡ true))
      (λ listed. old (listed_before m number part.numbers listed)) (λ k other listed. inr listed)
    where
      old : (m ≡ number) ⊎ (is_listed m part.numbers ≡ true) → ((m ≡ number) × (session ≡ session)) ⊎ (is_listed m (part_at session t.sessions).numbers ≡ true)
      old (inl e) = inl (e, refl)
      old (inr e) = inr (ap (is_listed m) (sym numbers) ∙ e)

  made_listed : IsListed (with_made number session s part t)
  made_listed = record {
    subscriptions = rising_put number s t.subscriptions h.listed.subscriptions;
    sessions = rising_put session (with_number number part) (remove_entry (is_at (nat_cmp session)) t.sessions) (rising_gone session t.sessions h.listed.sessions);
    listed = λ m u k found mine.
        each_put number s t.subscriptions (λ (i : ℕ) (x : Subscription). x.session ≡ Some k → is_listed i (part_at k (with_made number session s part t).sessions).numbers ≡ true)
        (λ here. lists_it k (some_same (sym here ∙ own))) (λ i x other before there. lists_more i k (h.listed.listed i x k before there)) m u found mine;
  }

  made_own : (made : ℕ) → made < number → AreLists made t → (k : ℕ) → ListsItsOwn t k → ListsItsOwn (with_made number session s part t) k
  made_own made above lists k its m listed = by (lists_less m k listed)
    where
      fresh : is_listed m (part_at k t.sessions).numbers ≡ true → m ≢ number
      fresh old same = let below : m ≤ made = lists.within m k old in absurd (omega (arith, above, below, same))

      still_there : is_listed m (part_at k t.sessions).numbers ≡ true → (u : Subscription) × (subscription_at m t.subscriptions ≡ Some u) × (u.session ≡ Some k) →
          (u : Subscription) × (subscription_at m (insert_entry nat_cmp t.subscriptions number s) ≡ Some u) × (u.session ≡ Some k)
      still_there old (u, there, mine) = (u, put_other number m s (fresh old) t.subscriptions ∙ there, mine)

      by : ((m ≡ number) × (k ≡ session)) ⊎ (is_listed m (part_at k t.sessions).numbers ≡ true) → (u : Subscription) × (subscription_at m (insert_entry nat_cmp t.subscriptions number s) ≡ Some u) × (u.session ≡ Some k)
      by (inl (same, at)) = (s, ap (λ (i : ℕ). subscription_at i (insert_entry nat_cmp t.subscriptions number s)) same ∙ put_here number s t.subscriptions, own ∙ ap Some (sym at))
      by (inr old) = still_there old (its m old)

  made_within : (made : ℕ) → made < number → AreLists made t → AreLists number (with_made number session s part t)
  made_within made above lists = record { within = λ m k listed. within m k (lists_less m k listed); rising = rising }
    where
      within : (m k : ℕ) → ((m ≡ number) × (k ≡ session)) ⊎ (is_listed m (part_at k t.sessions).numbers ≡ true) → m ≤ number
      within m k (inl (same, at)) = omega (arith, same)
      within m k (inr old) = let below : m ≤ made = lists.within m k old in omega (arith, above, below)

      rising : (k : ℕ) → AreNumbersRising (part_at k (with_made number session s part t).sessions).numbers
      rising = of_parts (λ (k : ℕ) (p : SessionSubscriptions). AreNumbersRising p.numbers) (numbers_rising_put number part.numbers (subst AreNumbersRising (sym numbers) (lists.rising session))) (λ k other. lists.rising k)

  module _ (steady : IsSteady (standing (vars_of s part items number) s (counts_at number (rows ++ f ∷ [])))) (lifetime : life_at number (rows ++ f ∷ []) ≡ s.lifetime_count) (law : IsLawful rows f) where
    own_asks : (is_some s.session && is_any (part_of s.session (with_made number session s part t).sessions).requests) ≡ (is_some s.session && is_any part.requests)
    own_asks = same_asks s.session ∙ ap (λ (o : Option ℕ). is_some s.session && is_any (part_of o t.sessions).requests) own ∙ ap (λ (x : List PublishCall). is_some s.session && is_any x) (sym requests)

    own_steady : IsSteady (standing_at (with_made number session s part t) items (rows ++ f ∷ []) number s)
    own_steady =
        still s number part (part_of s.session (with_made number session s part t).sessions) items items (counts_at number (rows ++ f ∷ [])) (counts_at number (rows ++ f ∷ [])) refl (λ e. e)
        (λ e. inl (sym own_asks ∙ e)) steady

    other_steady : (m : ℕ) (u : Subscription) → m ≢ number → subscription_at m t.subscriptions ≡ Some u → IsSteady (standing_at (with_made number session s part t) items (rows ++ f ∷ []) m u)
    other_steady m u other before =
        still u m (part_of u.session t.sessions) (part_of u.session (with_made number session s part t).sessions) items items (counts_at m rows) (counts_at m (rows ++ f ∷ []))
        (counts_other m rows f (λ same. other (same ∙ is))) (λ e. e) (λ e. inl (sym (same_asks u.session) ∙ e)) (h.steady m u before)

    made_steady : AreSteady (with_made number session s part t) items (rows ++ f ∷ [])
    made_steady = each_put number s t.subscriptions (λ (m : ℕ) (u : Subscription). IsSteady (standing_at (with_made number session s part t) items (rows ++ f ∷ []) m u)) own_steady other_steady

    made_lives : LivesAreSet (with_made number session s part t) (rows ++ f ∷ [])
    made_lives =
        each_put number s t.subscriptions (λ (m : ℕ) (u : Subscription). life_at m (rows ++ f ∷ []) ≡ u.lifetime_count) lifetime (λ m u other before. life_other m rows f (λ same. other (same ∙ is)) ∙ h.lives m u before)

    made_calm : IsCalm (rows ++ f ∷ []) (with_made number session s part t) items
    made_calm = record { listed = made_listed; steady = made_steady; lives = made_lives; lawful = one_more_lawful rows f h.lawful law; reached = h.reached }

pub added_kept : (made : ℕ) (past : List Fired) (session number : ℕ) (asked : Settings) (enabled : Bool) (w : Stage) → made < number → IsKept None made past w → IsKept None number past (added session number asked enabled w)
unfolding added
added_kept made past session number asked enabled w above k =
    let c = added_start session number asked enabled w in
    let b = begun (past ++ w.round.rows) session number asked enabled w in
    let rows : (past ++ w.round.rows) ++ firing c ∷ [] ≡ past ++ (fired c).round.rows = append_assoc past w.round.rows (firing c ∷ []) ∙ ap (λ (fs : List Fired). past ++ fs) (sym (fired_rows c)) in
    let steady : IsSteady (standing (vars_of (fired c).subscription (fired c).part w.items number) (fired c).subscription (counts_at number ((past ++ w.round.rows) ++ firing c ∷ []))) =
    subst (λ (i : ItemsState). IsSteady (standing (vars_of (fired c).subscription (fired c).part i number) (fired c).subscription (counts_at number ((past ++ w.round.rows) ++ firing c ∷ [])))) b.items b.steady in
    let law = created_lawful (past ++ w.round.rows) (firing c) false refl refl refl in
    record {
      calm = subst (λ (fs : List Fired). IsCalm fs (with_made number session (fired c).subscription (fired c).part w.table) (fired c).items) rows
          (subst (λ (i : ItemsState). IsCalm ((past ++ w.round.rows) ++ firing c ∷ []) (with_made number session (fired c).subscription (fired c).part w.table) i) (sym b.items)
          (made_calm (past ++ w.round.rows) w.table w.items number session (fired c).subscription (fired c).part (firing c) k.calm (fired_number c) b.session b.numbers b.requests steady b.lifetime law));
      own = λ j other. made_own (past ++ w.round.rows) w.table w.items number session (fired c).subscription (fired c).part (firing c) k.calm (fired_number c) b.session b.numbers b.requests made above k.within j (k.own j other);
      within = made_within (past ++ w.round.rows) w.table w.items number session (fired c).subscription (fired c).part (firing c) k.calm (fired_number c) b.session b.numbers b.requests made above k.within;
    }
