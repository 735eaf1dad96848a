-- What every call keeps, while a Publish request is taken.
use Rattle.std.proofs.Common.{◌≡◌, ◌≢◌, ◌⊎◌, inl, inr, ℕ, true, false, ◌||◌, ◌&&◌, List, [], ◌∷◌, ◌++◌, map, Option, Some, None, refl, sym, ap, ◌∙◌, subst}
use Rattle.std.proofs.lemmas.Bool.{false≢true, false_from_ne_true, or_right}
use Rattle.std.specs.BTreeMap.{is_at}
use Rattle.std.specs.Map.{set_value}
use Rattle.std.specs.Option.{is_some}
use Rattle.std.specs.Ordering.{nat_cmp}
use Rattle.server_messages.specs.declared.fired.Fired.{Fired}
use Rattle.ua_subscription_messages.specs.declared.publishing.SubscriptionAcknowledgement.{SubscriptionAcknowledgement}
use Rattle.ua_state_table.specs.Chosen.{answers, publish_row}
use Rattle.ua_state_table.specs.Doing.{enqueues}
use Rattle.ua_state_table.specs.declared.row.RowId.{RowId}
use Rattle.ua_state_table.specs.declared.row.RowId.TheVariants.{N1, K1}
use Rattle.ua_state_table.specs.declared.state.State.{State}
use Rattle.ua_state_table.specs.declared.state.State.TheVariants.{Closed, Normal, Late, KeepAlive}
use Rattle.ua_subscriptions.specs.declared.call.Call.{Call}
use Rattle.ua_subscriptions.specs.declared.call.Call.TheVariants.{Publish}
use Rattle.ua_subscriptions.specs.declared.publish_call.PublishCall.{PublishCall}
use Rattle.ua_subscriptions.specs.declared.ranks.Rank.{Rank}
use Rattle.ua_subscriptions.specs.declared.session_part.SessionSubscriptions.{SessionSubscriptions}
use Rattle.ua_subscriptions.specs.declared.subscription.Subscription.{Subscription}
use Rattle.subscription_laws.specs.Calm.{is_listed}
use Rattle.ua_subscriptions.specs.Firing.{vars_in, row_of, fired}
use Rattle.ua_subscriptions.specs.Publishing.{forgotten, without_kept, acknowledged_all, part_without_note, asked_by, ready, best_or_all, asked_numbers}
use Rattle.ua_subscriptions.specs.Queues.{first_of}
use Rattle.ua_state_table.specs.Steady.{waits_in}
use Rattle.ua_subscriptions.specs.Ranks.{number_of, is_waiting, waiting_of}
use Rattle.ua_subscriptions.specs.Scenes.{Scene, row_done}
use Rattle.subscription_laws.specs.Standings.{IsAsked}
use Rattle.subscription_laws.specs.Encounters.{is_meant, met_if}
use Rattle.ua_subscriptions.specs.Subscriptions.{is_any}
use Rattle.ua_subscriptions.specs.Tables.{TableState, Stage, met, part_at, part_of, set_part, subscription_at, stage_after, scene_at, met_by}
use Rattle.subscription_laws.proofs.Acknowledgements.{all_acknowledged}
use Rattle.subscription_laws.proofs.AskedNumbers.{no_waiting_passed_over, first_is}
use Rattle.subscription_laws.proofs.ChosenRows.{publish_stays, waiting_none, live_fits}
use Rattle.subscription_laws.proofs.Entries.{listed_first, among, some_same}
use Rattle.subscription_laws.proofs.Keeping.{IsKept, its_own, live_kept, unasked, is_live, fired_stays}
use Rattle.subscription_laws.proofs.KeepingParts.{parts_kept, set_fewer, kept_calm, kept_own}
use Rattle.subscription_laws.proofs.RowLinks.{enqueued_any}
use Rattle.subscription_laws.proofs.Settling.{NoneWaits, IsPutBack, back_is, part_own}

-- ---- acknowledgements

abbrev with_subscriptions : Stage → List (ℕ × Subscription) → Stage
with_subscriptions w subscriptions = record { round = w.round; table = record { subscriptions = subscriptions; sessions = w.table.sessions }; items = w.items }

message_forgotten : (made : ℕ) (past : List Fired) (w : Stage) (subscriptions : List (ℕ × Subscription)) (n number : ℕ) (s : Subscription) → subscription_at n subscriptions ≡ Some s →
    IsKept None made past (with_subscriptions w subscriptions) → IsKept None made past (with_subscriptions w (set_value (is_at (nat_cmp n)) subscriptions (without_kept number s)))
message_forgotten made past w subscriptions n number s found k =
    let t : TableState = record { subscriptions = subscriptions; sessions = w.table.sessions } in
    record {
      calm = kept_calm (past ++ w.round.rows) t w.items n s (forgotten number s.kept) found k.calm;
      own = λ j other. kept_own (past ++ w.round.rows) t w.items n s (forgotten number s.kept) found j (k.own j other);
      within = record { within = k.within.within; rising = k.within.rising };
    }

pub ready_kept : (session made : ℕ) (past : List Fired) (acks : List SubscriptionAcknowledgement) (w : Stage) → IsKept None made past w → IsKept None made past (ready session acks w)
ready_kept session made past acks w k =
    let all = acknowledged_all session w.table.subscriptions acks in
    parts_kept None made past (with_subscriptions w all.subscriptions) _ (set_fewer session (part_without_note (part_at session w.table.sessions)) w.table.sessions refl (λ e. e))
    (all_acknowledged session (λ (subscriptions : List (ℕ × Subscription)). IsKept None made past (with_subscriptions w subscriptions))
    (λ subscriptions n number s found its h. message_forgotten made past w subscriptions n number s found h) acks w.table.subscriptions (record { calm = k.calm; own = k.own; within = k.within }))

-- ---- which subscription waits

abbrev pub Waits : List (ℕ × Subscription) → ℕ → Type 0
Waits subscriptions n = (s : Subscription) → subscription_at n subscriptions ≡ Some s → is_waiting s ≡ true

best_waits : (subscriptions : List (ℕ × Subscription)) (ns : List ℕ) (rank : Rank) → first_of (waiting_of subscriptions ns) ≡ Some rank → Waits subscriptions rank.number
best_waits subscriptions ns rank is = first_is (Waits subscriptions) subscriptions ns rank (λ n s found waits u there. ap is_waiting (sym (some_same (sym found ∙ there))) ∙ waits) is

-- where none is first, none of those waits
none_wait : (subscriptions : List (ℕ × Subscription)) (ns : List ℕ) → first_of (waiting_of subscriptions ns) ≡ None → (m : ℕ) (s : Subscription) → is_listed m ns ≡ true → subscription_at m subscriptions ≡ Some s → is_waiting s ≡ false
none_wait subscriptions ns none m s listed found = false_from_ne_true (is_waiting s) (λ waits. by (waiting_of subscriptions ns) none (no_waiting_passed_over subscriptions ns m s listed found waits))
  where
    by : (ranks : List Rank) → first_of ranks ≡ None → is_listed m (map number_of ranks) ≡ true → ⊥
    by [] none listed = false≢true listed
    by (r ∷ rs) none listed = absurd (cc)

publish_session : (w : Stage) (n : ℕ) (s : Subscription) → (fired (scene_at w n Publish s)).subscription.session ≡ s.session
publish_session w n s = fired_stays (scene_at w n Publish s) (publish_stays s.state (answers (vars_in (scene_at w n Publish s))))

-- ---- all of a session, of which none waits, are asked

-- a row that queues a request, which waits afterwards; its subscription doesn't
record Queues (r : RowId) (c : Scene) : Type 0 where
  calm : is_waiting (row_done r c).subscription ≡ false
  any : is_any (row_done r c).part.requests ≡ true

queues_N1 : (c : Scene) → IsAsked c → (c.subscription.enabled && c.subscription.more) ≡ false → Queues N1 c
unfolding row_done
queues_N1 c is left = record { calm = left; any = enqueued_any c is.asked }

queues_K1 : (c : Scene) → IsAsked c → c.subscription.state ≡ KeepAlive → Queues K1 c
unfolding row_done
queues_K1 c is at = record { calm = refl; any = enqueued_any c is.asked }

publish_queues : (c : Scene) (state : State) → c.subscription.state ≡ state → state ≢ Closed → waits_in state (c.subscription.enabled && c.subscription.more) ≡ false → IsAsked c → Queues (publish_row state (answers (vars_in c))) c
publish_queues c Normal at live calm is = rw calm (queues_N1 c is calm)
publish_queues c KeepAlive at live calm is = queues_K1 c is at
publish_queues c Late at live calm is = absurd (cc)
publish_queues c Closed at live calm is = absurd (live refl)

record IsQueued (d : Scene) : Type 0 where
  calm : is_waiting d.subscription ≡ false
  any : is_any d.part.requests ≡ true

fired_queues : (c : Scene) → Queues (row_of c) c → IsQueued (fired c)
unfolding fired
fired_queues c q = record { calm = q.calm; any = q.any }

-- the session is asked, and none of its subscriptions waits
pub record IsAsking (session made : ℕ) (past : List Fired) (w : Stage) : Type 0 where
  pub kept : IsKept None made past w
  pub none : NoneWaits w.table (Some session)
  pub asked : (is_some w.round.asked || is_any (part_at session w.table.sessions).requests) ≡ true

abbrev pub AreOf : ℕ → List ℕ → Stage → Type 0
AreOf session ns w = (m : ℕ) (s : Subscription) → is_listed m ns ≡ true → subscription_at m w.table.subscriptions ≡ Some s → s.session ≡ Some session

pub record Asked (session made : ℕ) (past : List Fired) (ns : List ℕ) (v : Stage) : Type 0 where
  pub asking : IsAsking session made past v
  pub of : AreOf session ns v

module _ (session made : ℕ) (past : List Fired) (w : Stage) (n : ℕ) (ns : List ℕ) (h : IsAsking session made past w) (of : AreOf session (n ∷ ns) w) where
  asks_for_all : (s : Subscription) → subscription_at n w.table.subscriptions ≡ Some s → IsAsked (scene_at w n Publish s) × NoneWaits w.table s.session
  asks_for_all s found =
      let own : s.session ≡ Some session = of n s (listed_first n ns) found in (
        record { owned = ap is_some own; asked = ap (λ (o : Option ℕ). is_some w.round.asked || is_any (part_of o w.table.sessions).requests) own ∙ h.asked },
        λ m u there same. h.none m u there (same ∙ own),
      )

  one_asked : (s : Subscription) → subscription_at n w.table.subscriptions ≡ Some s → Asked session made past ns (stage_after n s (fired (scene_at w n Publish s)) w.table)
  one_asked s found =
      let own : s.session ≡ Some session = of n s (listed_first n ns) found in
      let live = is_live None made past w n s found h.kept in
      let calm : is_waiting s ≡ false = h.none n s found own in
      let asks = asks_for_all s found in
      let is = asks.0 in
      let queued = fired_queues (scene_at w n Publish s) (publish_queues (scene_at w n Publish s) s.state refl live calm is) in
      let stays = publish_session w n s in
      let part : part_at session (set_part s.session w.table.sessions (fired (scene_at w n Publish s)).part) ≡ (fired (scene_at w n Publish s)).part =
      ap (λ (o : Option ℕ). part_at session (set_part o w.table.sessions (fired (scene_at w n Publish s)).part)) own
      ∙ part_own session n (fired (scene_at w n Publish s)).part w.table.sessions (h.kept.calm.listed.listed n s session found own) in
      record {
        asking = record {
          kept = live_kept None made past w n Publish s found h.kept refl (live_fits s.state Publish refl live) (λ e. asks) (inl stays);
          none = λ m u after same. none_after s found queued.calm own m u (back_is n s (fired (scene_at w n Publish s)).subscription w.table.subscriptions h.kept.calm.listed.subscriptions found m u after) same;
          asked = or_right (is_some (fired (scene_at w n Publish s)).round.asked) _ (ap (λ (p : SessionSubscriptions). is_any p.requests) part ∙ queued.any);
        };
        of = λ m u listed after. of_after s (stays ∙ own) m u listed (back_is n s (fired (scene_at w n Publish s)).subscription w.table.subscriptions h.kept.calm.listed.subscriptions found m u after);
      }
    where
      none_after : (s : Subscription) → subscription_at n w.table.subscriptions ≡ Some s → is_waiting (fired (scene_at w n Publish s)).subscription ≡ false → s.session ≡ Some session → (m : ℕ) (u : Subscription) →
          IsPutBack n m (fired (scene_at w n Publish s)).subscription u ⊎ ((m ≢ n) × (subscription_at m w.table.subscriptions ≡ Some u)) → u.session ≡ Some session → is_waiting u ≡ false
      none_after s found calm own m u (inl b) same = ap is_waiting b.is ∙ calm
      none_after s found calm own m u (inr (other, before)) same = h.none m u before same

      of_after : (s : Subscription) → (fired (scene_at w n Publish s)).subscription.session ≡ Some session → (m : ℕ) (u : Subscription) → is_listed m ns ≡ true →
          IsPutBack n m (fired (scene_at w n Publish s)).subscription u ⊎ ((m ≢ n) × (subscription_at m w.table.subscriptions ≡ Some u)) → u.session ≡ Some session
      of_after s own m u listed (inl b) = ap (λ (x : Subscription). x.session) b.is ∙ own
      of_after s own m u listed (inr (other, before)) = of m u (among m n ns listed) before

  pub met_asked : Asked session made past ns (met w n Publish)
  unfolding met
  met_asked = by (subscription_at n w.table.subscriptions) refl
    where
      by : (o : Option Subscription) → subscription_at n w.table.subscriptions ≡ o → Asked session made past ns (met_by w n Publish o)
      by None found = record {
        asking = record { kept = record { calm = h.kept.calm; own = h.kept.own; within = h.kept.within }; none = h.none; asked = h.asked };
        of = λ m u listed there. of m u (among m n ns listed) there;
      }
      by (Some s) found =
          let a = one_asked s found in
          record {
            asking = record { kept = record { calm = a.asking.kept.calm; own = a.asking.kept.own; within = a.asking.kept.within }; none = a.asking.none; asked = a.asking.asked };
            of = a.of;
          }

-- ---- those that meet a Publish request

-- where none waits, all are asked
none_asked : (session made : ℕ) (past : List Fired) (w : Stage) (ns : List ℕ) (call : PublishCall) → (part_at session w.table.sessions).numbers ≡ ns → IsKept None made past w →
    first_of (waiting_of w.table.subscriptions ns) ≡ None → Asked session made past ns (asked_by w call)
none_asked session made past w ns call are k is = record {
  asking = record {
    kept = record { calm = k.calm; own = k.own; within = k.within };
    none = λ m s found own.
        none_wait w.table.subscriptions ns is m s (ap (is_listed m) (sym are) ∙ k.calm.listed.listed m s session found own) found;
    asked = refl;
  };
  of = λ m s listed found. its_own w.table session m s (k.own session (λ e. absurd (cc))) (ap (is_listed m) are ∙ listed) found;
}

-- one that waits meets a request alone; or those of a session do, of which none waits
abbrev pub Answerable : Stage → List ℕ → Type 0
Answerable w [] = Unit {0}
Answerable w (n ∷ ns) =
    ((ns ≡ []) × Waits w.table.subscriptions n × ((call : PublishCall) × (w.round.asked ≡ Some call))) ⊎ ((session : ℕ) × (made : ℕ) × (past : List Fired) × Asked session made past (n ∷ ns) w)

abbrev pub CanAnswer : Option ℕ → Call → Stage → List ℕ → Type 0
CanAnswer whose asked w ns = asked ≡ Publish → (whose ≡ None) × Answerable w ns

rest_answerable : (w : Stage) (n : ℕ) (ns : List ℕ) → Answerable w (n ∷ ns) → Answerable (met w n Publish) ns
rest_answerable w n [] h = tt
rest_answerable w n (m ∷ ns) (inl (alone, waits, x)) = absurd (cc)
rest_answerable w n (m ∷ ns) (inr (session, made, past, a)) = inr (session, made, past, met_asked session made past w n (m ∷ ns) a.asking a.of)

pub rest_can : (whose : Option ℕ) (asked : Call) (w : Stage) (n : ℕ) (ns : List ℕ) → CanAnswer whose asked w (n ∷ ns) → CanAnswer whose asked (met_if (is_meant whose w n) w n asked) ns
rest_can None asked w n ns h = λ is. (refl, subst (λ (c : Call). Answerable (met w n c) ns) (sym is) (rest_answerable w n ns (h is).1))
rest_can (Some session) asked w n ns h = λ is. let clash : Some session ≡ None = (h is).0 in absurd (cc)

best_answerable : (session made : ℕ) (past : List Fired) (w : Stage) (asked : PublishCall) (ns : List ℕ) → (part_at session w.table.sessions).numbers ≡ ns → IsKept None made past w →
    (o : Option Rank) → first_of (waiting_of w.table.subscriptions ns) ≡ o → Answerable (asked_by w asked) (best_or_all o ns)
best_answerable session made past w asked ns are k (Some rank) is = inl (refl, best_waits w.table.subscriptions ns rank is, (asked, refl))
best_answerable session made past w asked [] are k None is = tt
best_answerable session made past w asked (n ∷ ns) are k None is = inr (session, made, past, none_asked session made past w (n ∷ ns) asked are k is)

-- where a Publish request is there
pub publish_begins : (session made : ℕ) (past : List Fired) (asked : PublishCall) (acks : List SubscriptionAcknowledgement) (w : Stage) → IsKept None made past w →
    let v = ready session acks w in Answerable (asked_by v asked) (asked_numbers v (part_at session v.table.sessions).numbers)
publish_begins session made past asked acks w k =
    let v = ready session acks w in
    let ns = (part_at session v.table.sessions).numbers in
    best_answerable session made past v asked ns refl (ready_kept session made past acks w k) (first_of (waiting_of v.table.subscriptions ns)) refl

pub live_publish : (made : ℕ) (past : List Fired) (w : Stage) (n : ℕ) (ns : List ℕ) (s : Subscription) → Answerable w (n ∷ ns) → subscription_at n w.table.subscriptions ≡ Some s → IsKept None made past w →
    IsKept None made past (stage_after n s (fired (scene_at w n Publish s)) w.table)
live_publish made past w n ns s given found k =
    live_kept None made past w n Publish s found k refl (live_fits s.state Publish refl (is_live None made past w n s found k)) (asks given) (inl (publish_session w n s))
  where
    asks : Answerable w (n ∷ ns) → enqueues (row_of (scene_at w n Publish s)) ≡ true → IsAsked (scene_at w n Publish s) × NoneWaits w.table s.session
    asks (inl (alone, waits, x)) = unasked (scene_at w n Publish s) w.table (waiting_none s.state (answers (vars_in (scene_at w n Publish s))) (waits s found))
    asks (inr (own, so_many, fired_yet, a)) = λ e. asks_for_all own so_many fired_yet w n ns a.asking a.of s found
