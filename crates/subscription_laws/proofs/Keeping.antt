-- What every call keeps, while subscriptions meet what comes to them.
use Rattle.std.proofs.Common.{◌≡◌, ◌≢◌, ◌⊎◌, inl, inr, ℕ, true, false, List, [], ◌∷◌, ◌++◌, Option, Some, None, refl, sym, ap, ◌∙◌, subst, append_assoc}
use Rattle.server_messages.specs.declared.fired.Fired.{Fired}
use Rattle.ua_state_table.specs.Chosen.{chosen}
use Rattle.ua_state_table.specs.Doing.{enqueues}
use Rattle.ua_state_table.specs.Events.{fits}
use Rattle.ua_state_table.specs.declared.state.State.TheVariants.{Closed}
use Rattle.ua_state_table.specs.declared.vars.Vars.{Vars}
use Rattle.ua_monitored_items.specs.Items.{ItemsState}
use Rattle.ua_subscriptions.specs.declared.call.Call.{Call}
use Rattle.ua_subscriptions.specs.declared.call.Call.TheVariants.{Create, Publish, Items}
use Rattle.ua_subscriptions.specs.declared.subscription.Subscription.{Subscription}
use Rattle.ua_subscriptions.specs.Calls.{event_of}
use Rattle.subscription_laws.specs.Calm.{is_listed, ListsItsOwn, AreLists, IsCalm}
use Rattle.ua_subscriptions.specs.Firing.{vars_in, before_by, row_of, fired}
use Rattle.ua_subscriptions.specs.Scenes.{Scene}
use Rattle.subscription_laws.specs.Standings.{IsAsked}
use Rattle.ua_subscriptions.specs.Tables.{TableState, Stage, met, part_at, subscription_at, table_after, scene_at, met_by, stage_after}
use Rattle.subscription_laws.proofs.ChosenRows.{is_plain, is_end, plain_none, plain_stays, plain_creates, live_fits}
use Rattle.subscription_laws.proofs.Entries.{some_same}
use Rattle.subscription_laws.proofs.Firings.{firing, fired_rows, fired_session, step}
use Rattle.subscription_laws.proofs.Remains.{leaves, row_session}
use Rattle.subscription_laws.proofs.Settling.{IsStep, NoneWaits, settles, own_after, lists_after}

-- after the rows that fired before this call and those of it; of one session it may not hold that its subscriptions are its own
pub record IsKept (except : Option ℕ) (made : ℕ) (past : List Fired) (w : Stage) : Type 0 where
  pub calm : IsCalm (past ++ w.round.rows) w.table w.items
  pub own : (session : ℕ) → except ≢ Some session → ListsItsOwn w.table session
  pub within : AreLists made w.table

-- of a number that a session lists
pub its_own : (t : TableState) (session m : ℕ) (s : Subscription) → ListsItsOwn t session → is_listed m (part_at session t.sessions).numbers ≡ true → subscription_at m t.subscriptions ≡ Some s → s.session ≡ Some session
its_own t session m s own listed found = by (own m listed)
  where
    by : (u : Subscription) × (subscription_at m t.subscriptions ≡ Some u) × (u.session ≡ Some session) → s.session ≡ Some session
    by (u, there, mine) = ap (λ (x : Subscription). x.session) (some_same (sym found ∙ there)) ∙ mine

-- ---- one step

pub one_kept : (except : Option ℕ) (made : ℕ) (past rows : List Fired) (t : TableState) (items : ItemsState) (n : ℕ) (s : Subscription) (f : Fired) (d : Scene) →
    IsCalm (past ++ rows) t items → ((session : ℕ) → except ≢ Some session → ListsItsOwn t session) → AreLists made t →
    IsStep (past ++ rows) t items n s f d.subscription d.part d.items → d.round.rows ≡ rows ++ f ∷ [] → (d.subscription.session ≡ s.session) ⊎ (s.session ≡ except) →
    IsKept except made past (stage_after n s d t)
one_kept except made past rows t items n s f d calm own within step told stays = record {
  calm = subst (λ (fs : List Fired). IsCalm fs (table_after n s d.subscription d.part t) d.items) (append_assoc past rows (f ∷ []) ∙ ap (λ (fs : List Fired). past ++ fs) (sym told))
      (settles (past ++ rows) t items n s f d.subscription d.part d.items calm step);
  own = λ k other. own_after (past ++ rows) t items n s f d.subscription d.part d.items calm step k (stays_at k other stays) (within.rising k) (own k other);
  within = lists_after (past ++ rows) t items n s f d.subscription d.part d.items calm step made within;
}
  where
    stays_at : (k : ℕ) → except ≢ Some k → (d.subscription.session ≡ s.session) ⊎ (s.session ≡ except) → (d.subscription.session ≡ s.session) ⊎ (s.session ≢ Some k)
    stays_at k other (inl same) = inl same
    stays_at k other (inr is) = inr (λ e. other (sym is ∙ e))

-- ---- a live subscription meets a call

pub live_kept : (except : Option ℕ) (made : ℕ) (past : List Fired) (w : Stage) (n : ℕ) (call : Call) (s : Subscription) → subscription_at n w.table.subscriptions ≡ Some s → IsKept except made past w →
    before_by call (scene_at w n call s) ≡ vars_in (scene_at w n call s) → fits s.state (event_of call) ≡ true →
    (enqueues (row_of (scene_at w n call s)) ≡ true → IsAsked (scene_at w n call s) × NoneWaits w.table s.session) →
    ((fired (scene_at w n call s)).subscription.session ≡ s.session) ⊎ (s.session ≡ except) →
    IsKept except made past (stage_after n s (fired (scene_at w n call s)) w.table)
live_kept except made past w n call s found k own fit asked stays =
    one_kept except made past w.round.rows w.table w.items n s (firing (scene_at w n call s)) (fired (scene_at w n call s)) k.calm k.own k.within
    (step (past ++ w.round.rows) w.table (scene_at w n call s) found refl k.calm own fit asked) (fired_rows (scene_at w n call s)) stays

-- ---- a plain call

plain_before : (call : Call) (c : Scene) → is_plain call ≡ true → before_by call c ≡ vars_in c
plain_before (Create full settings enabled) c e = absurd (cc)
plain_before Publish c e = refl
plain_before (Items before) c e = absurd (cc)
plain_before call c e = refl

pub unasked : (c : Scene) (t : TableState) → enqueues (row_of c) ≡ false → enqueues (row_of c) ≡ true → IsAsked c × NoneWaits t c.subscription.session
unasked c t none e = absurd (cc)

-- none but one whose session ends leaves it
abbrev pub MayEnd : Option ℕ → Stage → ℕ → Call → Type 0
MayEnd except w n call = (is_end call ≡ false) ⊎ ((s : Subscription) → subscription_at n w.table.subscriptions ≡ Some s → (s.session ≡ except) ⊎ (s.session ≡ None))

pub fired_stays : (c : Scene) → leaves (row_of c) ≡ false → (fired c).subscription.session ≡ c.subscription.session
unfolding fired
fired_stays c e = row_session (row_of c) c e

none_stays : (c : Scene) → c.subscription.session ≡ None → (fired c).subscription.session ≡ c.subscription.session
none_stays c e = by (fired_session c)
  where
    by : ((fired c).subscription.session ≡ c.subscription.session) ⊎ ((fired c).subscription.session ≡ None) → (fired c).subscription.session ≡ c.subscription.session
    by (inl same) = same
    by (inr none) = none ∙ sym e

plain_session : (except : Option ℕ) (w : Stage) (n : ℕ) (call : Call) (s : Subscription) → subscription_at n w.table.subscriptions ≡ Some s → is_plain call ≡ true → MayEnd except w n call →
    ((fired (scene_at w n call s)).subscription.session ≡ s.session) ⊎ (s.session ≡ except)
plain_session except w n call s found plain (inl no_end) =
    inl (fired_stays (scene_at w n call s) (ap leaves (row_is call plain) ∙ plain_stays (vars_in (scene_at w n call s)) call plain no_end))
  where
    row_is : (call : Call) → is_plain call ≡ true → row_of (scene_at w n call s) ≡ chosen (vars_in (scene_at w n call s)) (event_of call)
    row_is call plain = ap (λ (v : Vars). chosen v (event_of call)) (plain_before call (scene_at w n call s) plain)
plain_session except w n call s found plain (inr may) = by (may s found)
  where
    by : (s.session ≡ except) ⊎ (s.session ≡ None) → ((fired (scene_at w n call s)).subscription.session ≡ s.session) ⊎ (s.session ≡ except)
    by (inl e) = inr e
    by (inr e) = inl (none_stays (scene_at w n call s) e)

plain_row : (w : Stage) (n : ℕ) (call : Call) (s : Subscription) → is_plain call ≡ true → enqueues (row_of (scene_at w n call s)) ≡ false
plain_row w n call s plain =
    ap (λ (v : Vars). enqueues (chosen v (event_of call))) (plain_before call (scene_at w n call s) plain) ∙ plain_none (vars_in (scene_at w n call s)) call plain

pub is_live : (except : Option ℕ) (made : ℕ) (past : List Fired) (w : Stage) (n : ℕ) (s : Subscription) → subscription_at n w.table.subscriptions ≡ Some s → IsKept except made past w → s.state ≢ Closed
is_live except made past w n s found k = (k.calm.steady n s found).live

pub live_plain : (except : Option ℕ) (made : ℕ) (past : List Fired) (w : Stage) (n : ℕ) (call : Call) (s : Subscription) → is_plain call ≡ true → MayEnd except w n call → subscription_at n w.table.subscriptions ≡ Some s →
    IsKept except made past w → IsKept except made past (stage_after n s (fired (scene_at w n call s)) w.table)
live_plain except made past w n call s plain may found k =
    live_kept except made past w n call s found k (plain_before call (scene_at w n call s) plain) (live_fits s.state call (plain_creates call plain) (is_live except made past w n s found k))
    (unasked (scene_at w n call s) w.table (plain_row w n call s plain)) (plain_session except w n call s found plain may)

pub met_plain : (except : Option ℕ) (made : ℕ) (past : List Fired) (w : Stage) (n : ℕ) (call : Call) → is_plain call ≡ true → MayEnd except w n call → IsKept except made past w → IsKept except made past (met w n call)
unfolding met
met_plain except made past w n call plain may k = by (subscription_at n w.table.subscriptions) refl
  where
    by : (o : Option Subscription) → subscription_at n w.table.subscriptions ≡ o → IsKept except made past (met_by w n call o)
    by None found = record { calm = k.calm; own = k.own; within = k.within }
    by (Some s) found = let kept = live_plain except made past w n call s plain may found k in record { calm = kept.calm; own = kept.own; within = kept.within }
