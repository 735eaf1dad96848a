-- Where one subscription met something, what every row keeps holds of all.
use Rattle.std.proofs.Common.{◌≡◌, ◌≢◌, ◌⊎◌, inl, inr, ℕ, Bool, true, false, ◌&&◌, cond, List, [], ◌∷◌, ◌++◌, Option, Some, None, unwrap_or, refl, sym, ap, ◌∙◌, subst}
use Rattle.std.proofs.lemmas.Bool.{false≢true, cond-true, cond-false, cond_both}
use Rattle.std.specs.BTreeMap.{is_at}
use Rattle.std.specs.Map.{lookup, set_value}
use Rattle.std.specs.Option.{is_some}
use Rattle.std.specs.Ordering.{nat_cmp}
use Rattle.std.specs.Set.{remove_key}
use Rattle.server_messages.specs.declared.fired.Fired.{Fired}
use Rattle.ua_state_table.specs.Steady.{IsSteady, waits_in}
use Rattle.ua_monitored_items.specs.Items.{ItemsState, is_available}
use Rattle.ua_subscriptions.specs.declared.session_part.SessionSubscriptions.{SessionSubscriptions}
use Rattle.ua_subscriptions.specs.declared.subscription.Subscription.{Subscription}
use Rattle.subscription_laws.specs.Calm.{AreRising, is_listed, IsListed, ListsItsOwn, AreLists, AreNumbersRising, standing_at, AreSteady, LivesAreSet, IsCalm}
use Rattle.ua_subscriptions.specs.Firing.{is_closed}
use Rattle.subscription_laws.specs.Histories.{counts_at, life_at, IsLawful, AreLawful}
use Rattle.ua_subscriptions.specs.Ranks.{is_waiting}
use Rattle.subscription_laws.specs.Standings.{Counts, standing}
use Rattle.ua_subscriptions.specs.Subscriptions.{no_part, is_any, vars_of}
use Rattle.ua_subscriptions.specs.Tables.{TableState, subscription_at, part_at, part_of, set_part, put_back, table_after}
use Rattle.ua_subscriptions.proofs.Choosing.{either}
use Rattle.subscription_laws.proofs.Availability.{reached_rise, stays_available}
use Rattle.subscription_laws.proofs.Entries.{some_same, same_or_not, set_here, set_other, gone_here, gone_other, rising_set, rising_gone, listed_stays, listed_gone, numbers_gone_here, numbers_rising_gone}
use Rattle.subscription_laws.proofs.Remains.{AreApart}
use Rattle.subscription_laws.proofs.RowCounts.{counts_other, life_other}

-- ---- one that meets nothing itself

-- whether a request of its session waits
abbrev pub asks : Subscription → SessionSubscriptions → Bool
asks s part = is_some s.session && is_any part.requests

pub still : (s : Subscription) (n : ℕ) (part part2 : SessionSubscriptions) (items items2 : ItemsState) (counts counts2 : Counts) → counts2 ≡ counts → (is_available items n ≡ true → is_available items2 n ≡ true) →
    (asks s part2 ≡ true → (asks s part ≡ true) ⊎ (is_waiting s ≡ false)) → IsSteady (standing (vars_of s part items n) s counts) → IsSteady (standing (vars_of s part2 items2 n) s counts2)
still s n part part2 items items2 counts counts2 same up fewer h = subst (λ (k : Counts). IsSteady (standing (vars_of s part2 items2 n) s k)) (sym same) (record {
  live = h.live;
  revised = h.revised;
  keep_least = h.keep_least;
  keep_most = h.keep_most;
  life_least = h.life_least;
  life_counted = h.life_counted;
  normal_life = h.normal_life;
  alive_life = h.alive_life;
  alive_passed = h.alive_passed;
  none_passed = h.none_passed;
  alive_told = h.alive_told;
  more_enabled = h.more_enabled;
  more_available = λ e. up (h.more_available e);
  calm = λ e. by (fewer e);
})
  where
    by : (asks s part ≡ true) ⊎ (is_waiting s ≡ false) → waits_in s.state (s.enabled && s.more) ≡ false
    by (inl e) = h.calm e
    by (inr e) = e

-- ---- look-ups

pub back_other : (n m : ℕ) (d : Subscription) (subscriptions : List (ℕ × Subscription)) → m ≢ n → subscription_at m (put_back n d subscriptions) ≡ subscription_at m subscriptions
back_other n m d subscriptions other =
    let set = set_other n m d other subscriptions in
    either (λ (es : List (ℕ × Subscription)). subscription_at m es ≡ subscription_at m subscriptions) (is_closed d) _ _ (gone_other n m other (set_value (is_at (nat_cmp n)) subscriptions d) ∙ set) set

-- what is found after one was put back
pub record IsPutBack (n m : ℕ) (d u : Subscription) : Type 0 where
  pub at : m ≡ n
  pub is : u ≡ d
  pub live : is_closed d ≡ false

pub back_is : (n : ℕ) (s d : Subscription) (subscriptions : List (ℕ × Subscription)) → AreRising subscriptions → subscription_at n subscriptions ≡ Some s → (m : ℕ) (u : Subscription) →
    subscription_at m (put_back n d subscriptions) ≡ Some u → IsPutBack n m d u ⊎ ((m ≢ n) × (subscription_at m subscriptions ≡ Some u))
back_is n s d subscriptions rising found m u after = by (same_or_not m n)
  where
    by : (m ≡ n) ⊎ (m ≢ n) → IsPutBack n m d u ⊎ ((m ≢ n) × (subscription_at m subscriptions ≡ Some u))
    by (inl same) =
        inl
        (cond_both (is_closed d) _ _ (λ (es : List (ℕ × Subscription)). subscription_at n es ≡ Some u → IsPutBack n m d u)
        (λ closed h. let none = gone_here n (set_value (is_at (nat_cmp n)) subscriptions d) (rising_set n d subscriptions rising) in absurd (cc))
        (λ live h. record { at = same; is = sym (some_same (sym (set_here n s d subscriptions found) ∙ h)); live = live }) (ap (λ (k : ℕ). subscription_at k (put_back n d subscriptions)) (sym same) ∙ after))
    by (inr other) = inr (other, sym (back_other n m d subscriptions other) ∙ after)

pub back_rises : (n : ℕ) (d : Subscription) (subscriptions : List (ℕ × Subscription)) → AreRising subscriptions → AreRising (put_back n d subscriptions)
back_rises n d subscriptions rising =
    let set = rising_set n d subscriptions rising in
    either AreRising (is_closed d) _ _ (rising_gone n (set_value (is_at (nat_cmp n)) subscriptions d) set) set

pub part_rises : (o : Option ℕ) (part : SessionSubscriptions) (sessions : List (ℕ × SessionSubscriptions)) → AreRising sessions → AreRising (set_part o sessions part)
part_rises None part sessions rising = rising
part_rises (Some k) part sessions rising = rising_set k part sessions rising

part_other : (o : Option ℕ) (k : ℕ) (part : SessionSubscriptions) (sessions : List (ℕ × SessionSubscriptions)) → o ≢ Some k → part_at k (set_part o sessions part) ≡ part_at k sessions
part_other None k part sessions other = refl
part_other (Some j) k part sessions other = ap (λ (o : Option SessionSubscriptions). unwrap_or o no_part) (set_other j k part (λ same. other (ap Some (sym same))) sessions)

-- a session that lists a number has a part
pub part_own : (k n : ℕ) (part : SessionSubscriptions) (sessions : List (ℕ × SessionSubscriptions)) → is_listed n (part_at k sessions).numbers ≡ true → part_at k (set_part (Some k) sessions part) ≡ part
part_own k n part sessions listed = by (lookup (is_at (nat_cmp k)) sessions) refl listed
  where
    by : (o : Option SessionSubscriptions) → lookup (is_at (nat_cmp k)) sessions ≡ o → is_listed n (unwrap_or o no_part).numbers ≡ true → part_at k (set_part (Some k) sessions part) ≡ part
    by None e h = absurd (cc)
    by (Some old) e h = ap (λ (o : Option SessionSubscriptions). unwrap_or o no_part) (set_here k old part sessions e)

pub same_session : (o : Option ℕ) (k : ℕ) → (o ≡ Some k) ⊎ (o ≢ Some k)
same_session None k = inr (λ e. absurd (cc))
same_session (Some j) k = by (same_or_not j k)
  where
    by : (j ≡ k) ⊎ (j ≢ k) → (Some j ≡ Some k) ⊎ (Some j ≢ Some k)
    by (inl e) = inl (ap Some e)
    by (inr e) = inr (λ same. e (some_same same))

-- ---- the rows before

pub none_behind : (g : Fired) (before rest : List Fired) → before ++ g ∷ rest ≡ [] → ⊥
none_behind g [] rest e = absurd (cc)
none_behind g (x ∷ xs) rest e = absurd (cc)

head_same : (a b : Fired) (xs ys : List Fired) → a ∷ xs ≡ b ∷ ys → a ≡ b
head_same a b xs ys e = cc

tail_same : (a b : Fired) (xs ys : List Fired) → a ∷ xs ≡ b ∷ ys → xs ≡ ys
tail_same a b xs ys e = cc

-- the last, or one before it
last_or_before : (f g : Fired) (before rows rest : List Fired) → before ++ g ∷ rest ≡ rows ++ f ∷ [] → ((before ≡ rows) × (g ≡ f)) ⊎ ((less : List Fired) × (before ++ g ∷ less ≡ rows))
last_or_before f g [] [] rest e = inl (refl, head_same g f rest [] e)
last_or_before f g [] (r ∷ rows) rest e = inr (rows, ap (λ (x : Fired). x ∷ rows) (head_same g r rest (rows ++ f ∷ []) e))
last_or_before f g (b ∷ before) [] rest e = absurd (none_behind g before rest (tail_same b f (before ++ g ∷ rest) [] e))
last_or_before f g (b ∷ before) (r ∷ rows) rest e = more (last_or_before f g before rows rest (tail_same b r (before ++ g ∷ rest) (rows ++ f ∷ []) e))
  where
    same : b ≡ r
    same = head_same b r (before ++ g ∷ rest) (rows ++ f ∷ []) e

    more : ((before ≡ rows) × (g ≡ f)) ⊎ ((less : List Fired) × (before ++ g ∷ less ≡ rows)) → ((b ∷ before ≡ r ∷ rows) × (g ≡ f)) ⊎ ((less : List Fired) × (b ∷ before ++ g ∷ less ≡ r ∷ rows))
    more (inl (p, q)) = inl (ap (λ (x : Fired). x ∷ before) same ∙ ap (λ (xs : List Fired). r ∷ xs) p, q)
    more (inr (less, p)) = inr (less, ap (λ (x : Fired). x ∷ before ++ g ∷ less) same ∙ ap (λ (xs : List Fired). r ∷ xs) p)

pub one_more_lawful : (rows : List Fired) (f : Fired) → AreLawful rows → IsLawful rows f → AreLawful (rows ++ f ∷ [])
one_more_lawful rows f all one before g rest is = by (last_or_before f g before rows rest is)
  where
    by : ((before ≡ rows) × (g ≡ f)) ⊎ ((less : List Fired) × (before ++ g ∷ less ≡ rows)) → IsLawful before g
    by (inl (p, q)) = rw (p, q) one
    by (inr (less, p)) = all before g less p

-- ---- all of it

-- no subscription of a session waits
abbrev pub NoneWaits : TableState → Option ℕ → Type 0
NoneWaits t session = (m : ℕ) (s : Subscription) → subscription_at m t.subscriptions ≡ Some s → s.session ≡ session → is_waiting s ≡ false

-- what one subscription meets: a row fires, and leaves it so, with this of its session and these items
pub record IsStep (rows : List Fired) (t : TableState) (items : ItemsState) (n : ℕ) (s : Subscription) (f : Fired) (d : Subscription) (part : SessionSubscriptions) (after : ItemsState) : Type 0 where
  pub found : subscription_at n t.subscriptions ≡ Some s
  pub number : f.subscription ≡ n
  pub numbers : part.numbers ≡ cond (is_closed d) (remove_key (is_at (nat_cmp n)) (part_of s.session t.sessions).numbers) (part_of s.session t.sessions).numbers
  pub session : (d.session ≡ s.session) ⊎ (d.session ≡ None)
  pub apart : AreApart n items after
  pub own : is_closed d ≡ false → IsSteady (standing (vars_of d part after n) d (counts_at n (rows ++ f ∷ [])))
  pub lifetime : is_closed d ≡ false → life_at n (rows ++ f ∷ []) ≡ d.lifetime_count
  pub others : (is_any (part_of s.session t.sessions).requests ≡ false → is_any part.requests ≡ false) ⊎ NoneWaits t s.session
  pub lawful : IsLawful rows f

module _ (rows : List Fired) (t : TableState) (items : ItemsState) (n : ℕ) (s : Subscription) (f : Fired) (d : Subscription) (part : SessionSubscriptions) (after : ItemsState) (h : IsCalm rows t items) (step : IsStep rows t items n s f d part after) where
  own_session : (k : ℕ) → d.session ≡ Some k → s.session ≡ Some k
  own_session k e = by step.session
    where
      by : (d.session ≡ s.session) ⊎ (d.session ≡ None) → s.session ≡ Some k
      by (inl same) = sym same ∙ e
      by (inr none) = absurd (cc)

  here : (k : ℕ) → s.session ≡ Some k → part_at k (set_part s.session t.sessions part) ≡ part
  here k e = ap (λ (o : Option ℕ). part_at k (set_part o t.sessions part)) e ∙ part_own k n part t.sessions (h.listed.listed n s k step.found e)

  there : (k : ℕ) → s.session ≢ Some k → part_at k (set_part s.session t.sessions part) ≡ part_at k t.sessions
  there k other = part_other s.session k part t.sessions other

  old_part : (k : ℕ) → s.session ≡ Some k → part_of s.session t.sessions ≡ part_at k t.sessions
  old_part k e = ap (λ (o : Option ℕ). part_of o t.sessions) e

  -- ---- numbers

  -- what a session lists is what it listed, or without the one that is closed
  after_numbers : (P : List ℕ → List ℕ → Type 0) → ((ns : List ℕ) → P ns ns) → ((ns : List ℕ) → is_closed d ≡ true → P ns (remove_key (is_at (nat_cmp n)) ns)) →
      (k : ℕ) → P (part_at k t.sessions).numbers (part_at k (set_part s.session t.sessions part)).numbers
  after_numbers P same gone k = by (same_session s.session k)
    where
      cut : (b : Bool) (ns : List ℕ) → is_closed d ≡ b → P ns (cond b (remove_key (is_at (nat_cmp n)) ns) ns)
      cut true ns e = gone ns e
      cut false ns e = same ns

      by : (s.session ≡ Some k) ⊎ (s.session ≢ Some k) → P (part_at k t.sessions).numbers (part_at k (set_part s.session t.sessions part)).numbers
      by (inl own) =
          subst (P (part_at k t.sessions).numbers)
          (sym (ap (λ (p : SessionSubscriptions). p.numbers) (here k own) ∙ step.numbers ∙ ap (λ (p : SessionSubscriptions). cond (is_closed d) (remove_key (is_at (nat_cmp n)) p.numbers) p.numbers) (old_part k own)))
          (cut (is_closed d) (part_at k t.sessions).numbers refl)
      by (inr apart) = subst (λ (p : SessionSubscriptions). P (part_at k t.sessions).numbers p.numbers) (sym (there k apart)) (same (part_at k t.sessions).numbers)

  lists_still : (m k : ℕ) → m ≢ n → is_listed m (part_at k t.sessions).numbers ≡ true → is_listed m (part_at k (set_part s.session t.sessions part)).numbers ≡ true
  lists_still m k other = after_numbers (λ (ns ms : List ℕ). is_listed m ns ≡ true → is_listed m ms ≡ true) (λ ns e. e) (λ ns closed e. listed_stays m n ns other e) k

  lists_own : (k : ℕ) → is_closed d ≡ false → s.session ≡ Some k → is_listed n (part_at k (set_part s.session t.sessions part)).numbers ≡ true
  lists_own k live own =
      after_numbers (λ (ns ms : List ℕ). is_listed n ns ≡ true → is_listed n ms ≡ true) (λ ns e. e) (λ ns closed. absurd (false≢true (sym live ∙ closed))) k (h.listed.listed n s k step.found own)

  found_after : (m : ℕ) (u : Subscription) → subscription_at m (put_back n d t.subscriptions) ≡ Some u → IsPutBack n m d u ⊎ ((m ≢ n) × (subscription_at m t.subscriptions ≡ Some u))
  found_after = back_is n s d t.subscriptions h.listed.subscriptions step.found

  listed_after : IsListed (table_after n s d part t)
  listed_after = record {
    subscriptions = back_rises n d t.subscriptions h.listed.subscriptions;
    sessions = part_rises s.session part t.sessions h.listed.sessions;
    listed = λ m u k found own. by m u k own (found_after m u found);
  }
    where
      by : (m : ℕ) (u : Subscription) (k : ℕ) → u.session ≡ Some k → IsPutBack n m d u ⊎ ((m ≢ n) × (subscription_at m t.subscriptions ≡ Some u)) → is_listed m (part_at k (set_part s.session t.sessions part)).numbers ≡ true
      by m u k own (inl b) =
          ap (λ (j : ℕ). is_listed j (part_at k (set_part s.session t.sessions part)).numbers) b.at ∙ lists_own k b.live (own_session k (ap (λ (x : Subscription). x.session) (sym b.is) ∙ own))
      by m u k own (inr (other, before)) = lists_still m k other (h.listed.listed m u k before own)

  -- ---- steadiness

  own_asks : (o : Option ℕ) → d.session ≡ o → (is_some o && is_any (part_of o (set_part s.session t.sessions part)).requests) ≡ (is_some o && is_any part.requests)
  own_asks None e = refl
  own_asks (Some k) e = ap (λ (p : SessionSubscriptions). is_any p.requests) (here k (own_session k e))

  own_steady : is_closed d ≡ false → IsSteady (standing_at (table_after n s d part t) after (rows ++ f ∷ []) n d)
  own_steady live =
      still d n part (part_of d.session (set_part s.session t.sessions part)) after after (counts_at n (rows ++ f ∷ [])) (counts_at n (rows ++ f ∷ [])) refl (λ e. e)
      (λ e. inl (sym (own_asks d.session refl) ∙ e)) (step.own live)

  fewer : (m : ℕ) (u : Subscription) → subscription_at m t.subscriptions ≡ Some u → (o : Option ℕ) → u.session ≡ o → (is_some o && is_any (part_of o (set_part s.session t.sessions part)).requests) ≡ true
      → ((is_some o && is_any (part_of o t.sessions).requests) ≡ true) ⊎ (is_waiting u ≡ false)
  fewer m u found None own e = absurd (cc)
  fewer m u found (Some k) own e = by (same_session s.session k)
    where
      old : s.session ≡ Some k → (is_any (part_of s.session t.sessions).requests ≡ false → is_any part.requests ≡ false) → (b : Bool) → is_any (part_of s.session t.sessions).requests ≡ b → is_any (part_at k t.sessions).requests ≡ true
      old mine shrinks true is = ap (λ (p : SessionSubscriptions). is_any p.requests) (sym (old_part k mine)) ∙ is
      old mine shrinks false is = absurd (false≢true (sym (shrinks is) ∙ ap (λ (p : SessionSubscriptions). is_any p.requests) (sym (here k mine)) ∙ e))

      one : s.session ≡ Some k → (is_any (part_of s.session t.sessions).requests ≡ false → is_any part.requests ≡ false) ⊎ NoneWaits t s.session → (is_any (part_at k t.sessions).requests ≡ true) ⊎ (is_waiting u ≡ false)
      one mine (inl shrinks) = inl (old mine shrinks (is_any (part_of s.session t.sessions).requests) refl)
      one mine (inr none) = inr (none m u found (own ∙ sym mine))

      by : (s.session ≡ Some k) ⊎ (s.session ≢ Some k) → (is_any (part_at k t.sessions).requests ≡ true) ⊎ (is_waiting u ≡ false)
      by (inl mine) = one mine step.others
      by (inr apart) = inl (ap (λ (p : SessionSubscriptions). is_any p.requests) (sym (there k apart)) ∙ e)

  other_steady : (m : ℕ) (u : Subscription) → m ≢ n → subscription_at m t.subscriptions ≡ Some u → IsSteady (standing_at (table_after n s d part t) after (rows ++ f ∷ []) m u)
  other_steady m u other found =
      still u m (part_of u.session t.sessions) (part_of u.session (set_part s.session t.sessions part)) items after (counts_at m rows) (counts_at m (rows ++ f ∷ []))
      (counts_other m rows f (λ same. other (same ∙ step.number)))
      (stays_available n m items after other (reached_rise items h.reached) (step.apart.stay h.reached))
      (fewer m u found u.session refl) (h.steady m u found)

  steady_after : AreSteady (table_after n s d part t) after (rows ++ f ∷ [])
  steady_after m u found = by (found_after m u found)
    where
      by : IsPutBack n m d u ⊎ ((m ≢ n) × (subscription_at m t.subscriptions ≡ Some u)) → IsSteady (standing_at (table_after n s d part t) after (rows ++ f ∷ []) m u)
      by (inl b) =
          subst (λ (x : Subscription). IsSteady (standing_at (table_after n s d part t) after (rows ++ f ∷ []) m x)) (sym b.is)
          (subst (λ (k : ℕ). IsSteady (standing_at (table_after n s d part t) after (rows ++ f ∷ []) k d)) (sym b.at) (own_steady b.live))
      by (inr (other, before)) = other_steady m u other before

  lives_after : LivesAreSet (table_after n s d part t) (rows ++ f ∷ [])
  lives_after m u found = by (found_after m u found)
    where
      by : IsPutBack n m d u ⊎ ((m ≢ n) × (subscription_at m t.subscriptions ≡ Some u)) → life_at m (rows ++ f ∷ []) ≡ u.lifetime_count
      by (inl b) = ap (λ (k : ℕ). life_at k (rows ++ f ∷ [])) b.at ∙ step.lifetime b.live ∙ ap (λ (x : Subscription). x.lifetime_count) (sym b.is)
      by (inr (other, before)) = life_other m rows f (λ same. other (same ∙ step.number)) ∙ h.lives m u before

  pub settles : IsCalm (rows ++ f ∷ []) (table_after n s d part t) after
  settles = record {
    listed = listed_after;
    steady = steady_after;
    lives = lives_after;
    lawful = one_more_lawful rows f h.lawful step.lawful;
    reached = step.apart.reached h.reached;
  }

  -- ---- what its session lists

  lists_before : (m k : ℕ) → is_listed m (part_at k (set_part s.session t.sessions part)).numbers ≡ true → is_listed m (part_at k t.sessions).numbers ≡ true
  lists_before m k = after_numbers (λ (ns ms : List ℕ). is_listed m ms ≡ true → is_listed m ns ≡ true) (λ ns e. e) (λ ns closed e. listed_gone m n ns e) k

  own_live : is_closed d ≡ false → subscription_at n (put_back n d t.subscriptions) ≡ Some d
  own_live live = ap (subscription_at n) (cond-false (is_closed d) _ _ live) ∙ set_here n s d t.subscriptions step.found

  -- one that is closed is listed no more
  not_listed : (k : ℕ) → AreNumbersRising (part_at k t.sessions).numbers → s.session ≡ Some k → is_closed d ≡ true → is_listed n (part_at k (set_part s.session t.sessions part)).numbers ≡ false
  not_listed k rising own closed =
      ap (λ (p : SessionSubscriptions). is_listed n p.numbers) (here k own) ∙ ap (is_listed n) (step.numbers ∙ cond-true (is_closed d) _ _ closed)
      ∙ numbers_gone_here n (part_of s.session t.sessions).numbers (subst (λ (p : SessionSubscriptions). AreNumbersRising p.numbers) (sym (old_part k own)) rising)

  pub own_after : (k : ℕ) → (d.session ≡ s.session) ⊎ (s.session ≢ Some k) → AreNumbersRising (part_at k t.sessions).numbers → ListsItsOwn t k → ListsItsOwn (table_after n s d part t) k
  own_after k same rising own m listed = by (own m (lists_before m k listed)) (same_or_not m n)
    where
      mine : (d.session ≡ s.session) ⊎ (s.session ≢ Some k) → s.session ≡ Some k → d.session ≡ Some k
      mine (inl e) o = e ∙ o
      mine (inr e) o = absurd (e o)

      closed_or : m ≡ n → s.session ≡ Some k → (b : Bool) → is_closed d ≡ b → (u : Subscription) × (subscription_at m (put_back n d t.subscriptions) ≡ Some u) × (u.session ≡ Some k)
      closed_or is was true closed =
          absurd (false≢true (sym (not_listed k rising was closed) ∙ ap (λ (j : ℕ). is_listed j (part_at k (set_part s.session t.sessions part)).numbers) (sym is) ∙ listed))
      closed_or is was false live = (d, ap (λ (j : ℕ). subscription_at j (put_back n d t.subscriptions)) is ∙ own_live live, mine same was)

      by : (u : Subscription) × (subscription_at m t.subscriptions ≡ Some u) × (u.session ≡ Some k) → (m ≡ n) ⊎ (m ≢ n) → (u : Subscription) × (subscription_at m (put_back n d t.subscriptions) ≡ Some u) × (u.session ≡ Some k)
      by (u, found, its) (inl is) =
          let it : u ≡ s = sym (some_same (sym step.found ∙ ap (λ (j : ℕ). subscription_at j t.subscriptions) (sym is) ∙ found)) in
          closed_or is (ap (λ (x : Subscription). x.session) (sym it) ∙ its) (is_closed d) refl
      by (u, found, its) (inr other) = (u, back_other n m d t.subscriptions other ∙ found, its)

  pub lists_after : (made : ℕ) → AreLists made t → AreLists made (table_after n s d part t)
  lists_after made lists = record {
    within = λ m k listed. lists.within m k (lists_before m k listed);
    rising = λ k. after_numbers (λ (ns ms : List ℕ). AreNumbersRising ns → AreNumbersRising ms) (λ ns r. r) (λ ns closed r. numbers_rising_gone n ns r) k (lists.rising k);
  }
