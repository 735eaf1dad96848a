-- What a live subscription meets is a step that keeps what every row keeps.
use Rattle.std.proofs.Common.{◌≡◌, ◌⊎◌, inl, inr, ℕ, ◌+◌, Bool, true, false, cond, List, [], ◌∷◌, ◌++◌, Some, None, fold, refl, sym, ap, ◌∙◌, subst}
use Rattle.std.proofs.lemmas.Bool.{cond-false}
use Rattle.std.specs.BTreeMap.{is_at}
use Rattle.std.specs.Ordering.{nat_cmp}
use Rattle.std.specs.Set.{remove_key}
use Rattle.server_messages.specs.declared.fired.Fired.{Fired}
use Rattle.ua_state_table.specs.Doing.{Standing, enqueues, answerable_after}
use Rattle.ua_state_table.specs.Events.{fits}
use Rattle.ua_state_table.specs.Laws.{TimesOut}
use Rattle.ua_state_table.specs.Sound.{IsSound}
use Rattle.ua_state_table.specs.StateTable.{actions_of, fires}
use Rattle.ua_state_table.specs.Steady.{IsSteady}
use Rattle.ua_state_table.specs.declared.event.TableEvent.TheVariants as event
use Rattle.ua_state_table.specs.declared.row.RowId.{RowId}
use Rattle.ua_state_table.specs.declared.row.RowId.TheVariants.{G6}
use Rattle.ua_state_table.specs.declared.vars.Vars.{Vars}
use Rattle.ua_state_table.proofs.SteadyLemmas as table
use Rattle.ua_subscriptions.specs.declared.session_part.SessionSubscriptions.{SessionSubscriptions}
use Rattle.ua_subscriptions.specs.Calls.{event_of}
use Rattle.subscription_laws.specs.Calm.{IsCalm}
use Rattle.ua_subscriptions.specs.Firing.{is_closed, vars_in, before_of, row_of, fired_in, fired}
use Rattle.subscription_laws.specs.Histories.{started_by, counts_after, counts_at, sets_life, life_at, IsLawful}
use Rattle.ua_subscriptions.specs.Scenes.{Scene, row_done}
use Rattle.subscription_laws.specs.Standings.{Counts, standing, standing_in, row_counts, IsAsked}
use Rattle.ua_subscriptions.specs.Subscriptions.{is_any, vars_of}
use Rattle.ua_subscriptions.specs.Tables.{TableState, subscription_at, part_of}
use Rattle.subscription_laws.proofs.Remains.{AreApart, row_remains, row_none, row_session_or}
use Rattle.subscription_laws.proofs.RowCounts.{counts_own, life_own, counts_of_row, life_of_row}
use Rattle.subscription_laws.proofs.RowSteady as row_steady
use Rattle.subscription_laws.proofs.Settling.{IsStep, NoneWaits}

-- ---- a row that fires is lawful

only_row : (x y : RowId) → x ∷ [] ≡ y ∷ [] → x ≡ y
only_row x y e = cc

-- how the rows before tell of a standing
pub record IsMadeOf (rows : List Fired) (number : ℕ) (st : Standing) : Type 0 where
  pub started : (counts_at number rows).started ≡ st.started
  pub lifetime : life_at number rows ≡ st.lifetime_count

pub lawful : (rows : List Fired) (f : Fired) (st : Standing) → f.before ≡ st.vars → IsMadeOf rows f.subscription st → IsSteady st → fits st.vars.state f.event ≡ true → fires st.vars f.event ≡ f.row ∷ [] → IsLawful rows f
lawful rows f st before told steady fit fire = record {
  only = subst (λ (v : Vars). fires v f.event ≡ f.row ∷ []) (sym before) fire;
  sound = subst (λ (v : Vars). IsSound v) (sym before) (table.steady_is_sound st steady);
  times_out = λ is.
      let t : TimesOut st f.event = table.ends_at_last st f.event steady fit (fire ∙ ap (λ (r : RowId). r ∷ []) is) in
      (t.at_timer, ap (λ (v : Vars). v.state) before ∙ t.late, ap (λ (v : Vars). v.queued) before ∙ t.unasked, ap (λ (n : ℕ). n + 1) told.started ∙ t.at_last ∙ sym told.lifetime);
  in_time = λ timer last.
      let then : fires st.vars event.Timer ≡ G6 ∷ [] = table.ends_then st steady (ap (λ (n : ℕ). n + 1) (sym told.started) ∙ last ∙ told.lifetime) in
      only_row f.row G6 (sym fire ∙ ap (fires st.vars) timer ∙ then);
}

-- ---- the scene after a row

-- the row that is told of
abbrev pub firing : Scene → Fired
firing c = fired_in c (row_done (row_of c) c)

pub fired_rows : (c : Scene) → (fired c).round.rows ≡ c.round.rows ++ firing c ∷ []
unfolding fired
fired_rows c = ap (λ (rows : List Fired). rows ++ firing c ∷ []) (row_remains (row_of c) c).rows

pub fired_number : (c : Scene) → (firing c).subscription ≡ c.round.own
fired_number c = (row_remains (row_of c) c).own

pub fired_subscription : (c : Scene) → (fired c).subscription ≡ (row_done (row_of c) c).subscription
unfolding fired
fired_subscription c = refl

pub fired_items : (c : Scene) → AreApart c.round.own c.items (fired c).items
unfolding fired
fired_items c = (row_remains (row_of c) c).items

pub fired_numbers : (c : Scene) → (fired c).part.numbers ≡ cond (is_closed (fired c).subscription) (remove_key (is_at (nat_cmp c.round.own)) c.part.numbers) c.part.numbers
unfolding fired
fired_numbers c =
    let r = row_remains (row_of c) c in
    let closed : Bool = is_closed (row_done (row_of c) c).subscription in
    ap (λ (own : ℕ). cond closed (remove_key (is_at (nat_cmp own)) (row_done (row_of c) c).part.numbers) (row_done (row_of c) c).part.numbers) r.own
    ∙ ap (λ (ns : List ℕ). cond closed (remove_key (is_at (nat_cmp c.round.own)) ns) ns) r.numbers

pub fired_session : (c : Scene) → ((fired c).subscription.session ≡ c.subscription.session) ⊎ ((fired c).subscription.session ≡ None)
unfolding fired
fired_session c = row_session_or (row_of c) c

pub fired_none : (c : Scene) → enqueues (row_of c) ≡ false → is_any c.part.requests ≡ false → is_any (fired c).part.requests ≡ false
unfolding fired
fired_none c e h = row_none (row_of c) c e h

-- the life counter after the row
after_life : (c : Scene) → is_closed (fired c).subscription ≡ false → (firing c).after.lifetime ≡ (row_done (row_of c) c).subscription.lifetime
unfolding fired
after_life c live = ap (λ (v : Vars). v.lifetime) (cond-false (is_closed (row_done (row_of c) c).subscription) _ _ live)

-- the counts after the row
pub told_counts : (rows : List Fired) (c : Scene) → before_of c ≡ vars_in c → counts_at c.round.own (rows ++ firing c ∷ []) ≡ row_counts (row_of c) c (counts_at c.round.own rows)
told_counts rows c own =
    counts_own c.round.own rows (firing c) (fired_number c)
    ∙ ap (λ (v : Vars). record {
      started = fold started_by (counts_at c.round.own rows).started (actions_of (row_of c));
      answerable = answerable_after (row_of c) v.queued (counts_at c.round.own rows).answerable;
    }) own
    ∙ sym (counts_of_row (row_of c) c (counts_at c.round.own rows))

-- what the row leaves of the subscription
pub life_told : (rows : List Fired) (c : Scene) → is_closed (fired c).subscription ≡ false → (sets_life (row_of c) ≡ false → life_at c.round.own rows ≡ c.subscription.lifetime_count) → counts_at c.round.own (rows ++ firing c ∷ []) ≡ counts_after (counts_at c.round.own rows) (firing c)
    → (fired c).subscription.lifetime + (counts_at c.round.own (rows ++ firing c ∷ [])).started ≡ (fired c).subscription.lifetime_count → life_at c.round.own (rows ++ firing c ∷ []) ≡ (fired c).subscription.lifetime_count
unfolding fired
life_told rows c live set same counted =
    life_own c.round.own rows (firing c) (fired_number c)
    ∙ life_of_row c (firing c) (counts_at c.round.own rows) (life_at c.round.own rows) (after_life c live) set
    (ap (λ (k : Counts). (row_done (row_of c) c).subscription.lifetime + k.started) (sym same) ∙ counted)

-- ---- a live subscription

module _ (rows : List Fired) (t : TableState) (c : Scene) (found : subscription_at c.round.own t.subscriptions ≡ Some c.subscription) (placed : c.part ≡ part_of c.subscription.session t.sessions) (h : IsCalm rows t c.items) where
  steady_now : IsSteady (standing_in c.round.own c (counts_at c.round.own rows))
  steady_now =
      subst (λ (p : SessionSubscriptions). IsSteady (standing (vars_of c.subscription p c.items c.round.own) c.subscription (counts_at c.round.own rows))) (sym placed) (h.steady c.round.own c.subscription found)

  told_now : IsMadeOf rows (firing c).subscription (standing_in c.round.own c (counts_at c.round.own rows))
  told_now = record {
    started = ap (λ (n : ℕ). (counts_at n rows).started) (fired_number c);
    lifetime = ap (λ (n : ℕ). life_at n rows) (fired_number c) ∙ h.lives c.round.own c.subscription found;
  }

  module _ (own : before_of c ≡ vars_in c) (fit : fits c.subscription.state (event_of c.round.call) ≡ true) (asked : enqueues (row_of c) ≡ true → IsAsked c × NoneWaits t c.subscription.session) where
    own_steady : is_closed (fired c).subscription ≡ false → IsSteady (standing (vars_of (fired c).subscription (fired c).part (fired c).items c.round.own) (fired c).subscription (counts_at c.round.own (rows ++ firing c ∷ [])))
    own_steady live =
        subst (λ (k : Counts). IsSteady (standing_in c.round.own (fired c) k)) (sym (told_counts rows c own))
        (row_steady.stays_steady c (counts_at c.round.own rows) own fit steady_now (λ e. (asked e).0) live)

    quiet : (b : Bool) → enqueues (row_of c) ≡ b → (is_any (part_of c.subscription.session t.sessions).requests ≡ false → is_any (fired c).part.requests ≡ false) ⊎ NoneWaits t c.subscription.session
    quiet true e = inr (asked e).1
    quiet false e = inl (λ none. fired_none c e (ap (λ (p : SessionSubscriptions). is_any p.requests) placed ∙ none))

    pub step : IsStep rows t c.items c.round.own c.subscription (firing c) (fired c).subscription (fired c).part (fired c).items
    step = record {
      found = found;
      number = fired_number c;
      numbers = fired_numbers c ∙ ap (λ (p : SessionSubscriptions). cond (is_closed (fired c).subscription) (remove_key (is_at (nat_cmp c.round.own)) p.numbers) p.numbers) placed;
      session = fired_session c;
      apart = fired_items c;
      own = own_steady;
      lifetime = λ live. life_told rows c live (λ e. h.lives c.round.own c.subscription found) (counts_own c.round.own rows (firing c) (fired_number c)) (own_steady live).life_counted;
      others = quiet (enqueues (row_of c)) refl;
      lawful = lawful rows (firing c) (standing_in c.round.own c (counts_at c.round.own rows)) own told_now steady_now fit
          (subst (λ (v : Vars). fires v (event_of c.round.call) ≡ row_of c ∷ []) own (row_steady.one_row_fires c (counts_at c.round.own rows) own fit steady_now));
    }
