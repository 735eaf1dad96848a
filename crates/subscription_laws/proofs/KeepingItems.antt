-- What every call keeps, while the items of a subscription are served, and while values are shown to items.
use Rattle.std.proofs.Common.{◌≡◌, ◌≢◌, inl, ℕ, List, [], ◌∷◌, ◌++◌, Option, Some, None, refl, sym, ap, ◌∙◌, subst}
use Rattle.server_messages.specs.declared.fired.Fired.{Fired}
use Rattle.ua_read_write.specs.declared.writing.Change.{Change}
use Rattle.ua_state_table.specs.Doing.{Standing, after}
use Rattle.ua_state_table.specs.StateTable.{fires}
use Rattle.ua_state_table.specs.Steady.{IsSteady}
use Rattle.ua_state_table.specs.declared.event.TableEvent.TheVariants as event
use Rattle.ua_state_table.specs.declared.row.RowId.TheVariants.{G7}
use Rattle.ua_state_table.specs.declared.vars.Vars.{Vars}
use Rattle.ua_state_table.proofs.OneRow.{one_row}
use Rattle.ua_state_table.proofs.SteadyLemmas as table
use Rattle.ua_monitored_items.specs.Items.{ItemsState}
use Rattle.ua_monitored_items.specs.Moves as item_moves
use Rattle.ua_monitored_items.specs.Moves.{IsOfSubscription}
use Rattle.ua_monitored_items.specs.Moves.Move.{Show}
use Rattle.ua_subscriptions.specs.declared.call.Call.TheVariants.{Items}
use Rattle.ua_subscriptions.specs.declared.subscription.Subscription.{Subscription}
use Rattle.subscription_laws.specs.Calm.{ListsItsOwn, AreLists, IsCalm}
use Rattle.ua_subscriptions.specs.Firing.{fired}
use Rattle.subscription_laws.specs.Histories.{counts_at, life_at}
use Rattle.subscription_laws.specs.Runs.{ItemsCall, on_items, items_asked}
use Rattle.subscription_laws.specs.Runs.ItemsCall.{Create}
use Rattle.ua_subscriptions.specs.Scenes.{Scene, row_done}
use Rattle.subscription_laws.specs.Standings.{Counts, standing, standing_in, circumstances, counts_of}
use Rattle.ua_subscriptions.specs.Subscriptions.{vars_of}
use Rattle.ua_subscriptions.specs.Tables.{TableState, Stage, met, part_of, subscription_at, stage_after, scene_at, met_by}
use Rattle.subscription_laws.proofs.Availability.{reached_rise, reached_on, reached_stay, shown_available}
use Rattle.subscription_laws.proofs.ChosenRows.{live_fits}
use Rattle.subscription_laws.proofs.Firings.{lawful, firing, fired_rows, fired_number, fired_items, fired_numbers, fired_none, life_told}
use Rattle.subscription_laws.proofs.Keeping.{IsKept, one_kept, fired_stays}
use Rattle.subscription_laws.proofs.Remains.{AreApart, apart_then, apart_none}
use Rattle.subscription_laws.proofs.RowCounts.{counts_own}
use Rattle.subscription_laws.proofs.RowFairness.{fair}
use Rattle.subscription_laws.proofs.Settling.{IsStep, still}

-- ---- values that are shown

pub shown_calm : (rows : List Fired) (t : TableState) (items : ItemsState) (changed : List Change) → IsCalm rows t items → IsCalm rows t (item_moves.moved items (Show changed)).state
shown_calm rows t items changed h = record {
  listed = h.listed;
  steady = λ m s found.
      still s m (part_of s.session t.sessions) (part_of s.session t.sessions) items (item_moves.moved items (Show changed)).state (counts_at m rows) (counts_at m rows) refl
      (shown_available items changed m (reached_rise items h.reached)) (λ e. inl e) (h.steady m s found);
  lives = h.lives;
  lawful = h.lawful;
  reached = reached_on items (Show changed) h.reached;
}

-- ---- items that are served

its_own : (number : ℕ) (asked : ItemsCall) → IsOfSubscription number (on_items number asked)
its_own number (Create nodes clock timestamps requests) = refl
its_own number asked = refl

pub served_apart : (number : ℕ) (asked : Option ItemsCall) (items : ItemsState) → AreApart number items (items_asked items number asked)
served_apart number None items = apart_none number items
served_apart number (Some asked) items = record {
  reached = λ r. reached_on items (on_items number asked) r;
  stay = λ r. reached_stay number items (on_items number asked) (its_own number asked) r;
}

-- how it stood before its items were served, and stands after the row
link_items : (c : Scene) (old : ItemsState) (counts : Counts) →
    let s = after (circumstances G7 c (row_done G7 c)) G7 (standing (vars_of c.subscription c.part old c.round.own) c.subscription counts) in standing_in c.round.own (row_done G7 c) (counts_of s) ≡ s
unfolding row_done
link_items c old counts = refl

module _ (made : ℕ) (past : List Fired) (w : Stage) (old : ItemsState) (n : ℕ) (s : Subscription) (calm : IsCalm (past ++ w.round.rows) w.table old) (own : (session : ℕ) → None ≢ Some session → ListsItsOwn w.table session)
    (within : AreLists made w.table) (served : AreApart n old w.items) (found : subscription_at n w.table.subscriptions ≡ Some s) where
  -- the variables before, and the scene in which the row fires
  abbrev before : Vars
  before = vars_of s (part_of s.session w.table.sessions) old n

  abbrev stood : Standing
  stood = standing before s (counts_at n (past ++ w.round.rows))

  abbrev here : Scene
  here = scene_at w n (Items before) s

  steady : IsSteady stood
  steady = calm.steady n s found

  one : fires before event.Items ≡ G7 ∷ []
  one = one_row before event.Items (table.steady_is_sound stood steady) (live_fits s.state (Items before) refl steady.live)

  row_steady : IsSteady (standing_in n (row_done G7 here) (counts_of (after (circumstances G7 here (row_done G7 here)) G7 stood)))
  row_steady =
      subst IsSteady (sym (link_items here old (counts_at n (past ++ w.round.rows))))
      (table.stays_steady (circumstances G7 here (row_done G7 here)) stood event.Items G7 (fair G7 here) steady (live_fits s.state (Items before) refl steady.live) one steady.live)

  steady_after : IsSteady (standing_in n (fired here) (counts_at n ((past ++ w.round.rows) ++ firing here ∷ [])))
  unfolding fired
  steady_after = subst (λ (k : Counts). IsSteady (standing_in n (row_done G7 here) k)) (sym (counts_own n (past ++ w.round.rows) (firing here) (fired_number here))) row_steady

  step : IsStep (past ++ w.round.rows) w.table old n s (firing here) (fired here).subscription (fired here).part (fired here).items
  step = record {
    found = found;
    number = fired_number here;
    numbers = fired_numbers here;
    session = inl (fired_stays here refl);
    apart = apart_then n old w.items (fired here).items served (fired_items here);
    own = λ live. steady_after;
    lifetime = λ live. life_told (past ++ w.round.rows) here live (λ e. absurd (cc)) (counts_own n (past ++ w.round.rows) (firing here) (fired_number here)) steady_after.life_counted;
    others = inl (λ none. fired_none here refl none);
    lawful = lawful (past ++ w.round.rows) (firing here) stood refl
        (record {
          started = ap (λ (k : ℕ). (counts_at k (past ++ w.round.rows)).started) (fired_number here);
          lifetime = ap (λ (k : ℕ). life_at k (past ++ w.round.rows)) (fired_number here) ∙ calm.lives n s found;
        })
        steady (live_fits s.state (Items before) refl steady.live) one;
  }

  served_after : IsKept None made past (stage_after n s (fired here) w.table)
  served_after = one_kept None made past w.round.rows w.table old n s (firing here) (fired here) calm own within step (fired_rows here) (inl (fired_stays here refl))

  pub served_kept : IsKept None made past (met w n (Items before))
  unfolding met
  served_kept =
      subst (λ (o : Option Subscription). IsKept None made past (met_by w n (Items before) o)) (sym found)
      (let k = served_after in record { calm = k.calm; own = k.own; within = k.within })
