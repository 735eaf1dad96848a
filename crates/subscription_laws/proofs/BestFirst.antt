-- Time comes to all that are due, the best first, and a Publish request to the best that waits.
use Rattle.std.proofs.Common.{◌≡◌, ◌≢◌, ◌⊎◌, inl, inr, ℕ, Bool, true, false, cond, List, [], ◌∷◌, ◌++◌, map, fold, Option, Some, None, refl, sym, ap, ◌∙◌, subst}
use Rattle.std.proofs.lemmas.Bool.{false≢true, or_left, or_right, or_parts, false_from_ne_true}
use Rattle.std.proofs.lemmas.Cmp.{tied_itself}
use Rattle.std.specs.BTreeMap.{is_at}
use Rattle.std.specs.List.{AllByRecursion, flat_map, list_any}
use Rattle.std.specs.Map.{set_value}
use Rattle.std.specs.Option.{is_some}
use Rattle.std.specs.Prelude.{⊤}
use Rattle.std.specs.Ordering.{nat_cmp, match_ordering, ordering_reverse}
use Rattle.std.specs.declared.cmp.Ordering.{Ordering}
use Rattle.std.specs.declared.cmp.Ordering.TheVariants.{Less, Equal, Greater}
use Rattle.ua_types.specs.Configuration.{Configuration}
use Rattle.ua_types.specs.declared.moment.Moment.{Moment}
use Rattle.ua_state_table.specs.Chosen.{Answers, answers, publish_row}
use Rattle.ua_state_table.specs.Steady.{waits_in}
use Rattle.ua_state_table.specs.declared.row.RowId.{RowId}
use Rattle.ua_state_table.specs.declared.row.RowId.TheVariants.{N2, L1, L2}
use Rattle.ua_state_table.specs.declared.state.State.{State}
use Rattle.ua_state_table.specs.declared.state.State.TheVariants.{Normal, Late, KeepAlive, Closed}
use Rattle.ua_subscription_messages.specs.declared.publishing.SubscriptionAcknowledgement.{SubscriptionAcknowledgement}
use Rattle.ua_subscriptions.specs.declared.call.Call.{Call}
use Rattle.ua_subscriptions.specs.declared.call.Call.TheVariants as call
use Rattle.ua_subscriptions.specs.declared.messages.KeptMessage.{KeptMessage}
use Rattle.ua_subscriptions.specs.declared.publish_call.PublishCall.{PublishCall}
use Rattle.ua_subscriptions.specs.declared.ranks.Rank.{Rank}
use Rattle.ua_subscriptions.specs.contracts.ranks.RankOrd.TheImpl.Laws.{total-law}
use Rattle.ua_subscriptions.specs.declared.session_part.TimeoutNote.{TimeoutNote}
use Rattle.ua_subscriptions.specs.declared.subscription.Subscription.{Subscription}
use Rattle.ua_subscriptions.specs.Firing.{vars_in, fired}
use Rattle.ua_subscriptions.specs.Publishing.{acknowledged_all, note_of, asked_by, with_results, without_kept, part_without_note, ready, best_or_all}
use Rattle.ua_subscriptions.specs.Queues.{first_of}
use Rattle.ua_subscriptions.specs.Ranks.{rank_cmp, rank_of, with_rank, is_waiting, waiting_by, with_waiting, waiting_of, is_due, due_rank, due_of, due_numbers}
use Rattle.ua_subscriptions.specs.Messages.{number_after}
use Rattle.ua_subscriptions.specs.Scenes.{Scene, noting, subscription_noted, note_sent, life_reset}
use Rattle.ua_subscriptions.specs.SubscriptionCalls.{stage_of}
use Rattle.ua_subscriptions.specs.Tables.{Stage, met, part_at, subscription_at, scene_at, met_by}
use Rattle.ua_subscriptions.proofs.Choosing.{either}
use Rattle.subscription_laws.specs.Actions.{rest_notings}
use Rattle.subscription_laws.specs.Calm.{AreRising, is_listed}
use Rattle.subscription_laws.specs.Concern.{subscription_of, concerns_at}
use Rattle.subscription_laws.specs.Encounters.{Asks, Encounter, Meets, Does, meets_by, all_meet, asked_encounters, noted_encounters}
use Rattle.subscription_laws.specs.Numbering.{note_made}
use Rattle.subscription_laws.specs.Precedence.{precedence, IsBest, AreAllBestFirst, WaitsIn, IsDueAt, IsAnswered, IsGivenToTheBest, ComesToTheBest, ComesBestFirst}
use Rattle.subscription_laws.specs.Runs.{Move, run}
use Rattle.subscription_laws.specs.Tellings.{Telling, Told, Notifications, KeepAlive as KeepAliveTold, if_asked, message_told, told_at, row_told}
use Rattle.subscription_laws.proofs.Acknowledgements.{all_acknowledged}
use Rattle.subscription_laws.proofs.AskedNumbers.{put_are, ranks_are, put, numbers, is_of, all_in, waiting_at, no_waiting_passed_over, ranked_waits, first_is, listed_are}
use Rattle.subscription_laws.proofs.Entries.{same_or_not, behind_it, all_found, among, listed_first, some_same, set_here, set_other}
use Rattle.subscription_laws.proofs.Folds.{fold_keeps, all_so}
use Rattle.subscription_laws.proofs.KeepingParts.{set_fewer}
use Rattle.subscription_laws.proofs.Reached.{sessions_list, lists_own}
use Rattle.subscription_laws.proofs.Settling.{back_other}

-- ---- the order

-- one comes before another
abbrev IsBefore : Rank → Rank → Type 0
IsBefore a b = precedence a b ≡ Less

before_itself : (a : Rank) → IsBefore a a → ⊥
before_itself a e = let clash : Equal ≡ Less = sym (tied_itself total-law a) ∙ e in absurd (cc)

pub not_both : (a b : Rank) → precedence a b ≡ Less → precedence b a ≡ Less → ⊥
not_both a b e f = before_itself a (total-law.trans a b a e f)

-- ---- one rank more

-- each comes before all behind it
abbrev AreInOrder : List Rank → Type 0
AreInOrder [] = ⊤
AreInOrder (rank ∷ ranks) = AllByRecursion (IsBefore rank) ranks × AreInOrder ranks

put_order : (ranks : List Rank) (rank : Rank) → AreInOrder ranks → AreInOrder (put ranks rank)
put_order [] rank h = (tt, tt)
put_order (r ∷ rs) rank h = by (rank_cmp rank r) refl (put_order rs rank h.1)
  where
    by : (o : Ordering) → rank_cmp rank r ≡ o → AreInOrder (put rs rank) → AreInOrder (match_ordering o (rank ∷ r ∷ rs) (r ∷ rs) (r ∷ put rs rank))
    by Less e rest = ((e, all_so (IsBefore r) (IsBefore rank) (λ x k. total-law.trans rank r x e k) rs h.0), h)
    by Equal e rest = h
    by Greater e rest = (put_are (IsBefore r) rs rank h.0 (total-law.antisymm r rank ∙ ap ordering_reverse e), rest)

-- ---- all that have a rank

module _ {A : Type 0} (rank_at : A → Option Rank) where
  abbrev with_one : List Rank → A → List Rank
  with_one ranks e = with_rank ranks (rank_at e)

  order_one : (o : Option Rank) (ranks : List Rank) → AreInOrder ranks → AreInOrder (with_rank ranks o)
  unfolding with_rank
  order_one None ranks h = h
  order_one (Some rank) ranks h = put_order ranks rank h

  order_from : (es : List A) (ranks : List Rank) → AreInOrder ranks → AreInOrder (fold with_one ranks es)
  order_from = fold_keeps AreInOrder with_one (λ ranks e. order_one (rank_at e) ranks)

-- ---- the ranks of all that are such, in their order

module _ (subscriptions : List (ℕ × Subscription)) where
  -- a rank is that of one of them
  record IsRankOf (Such : ℕ → Subscription → Type 0) (rank : Rank) : Type 0 where
    its : Subscription
    found : subscription_at rank.number subscriptions ≡ Some its
    such : Such rank.number its
    is : rank ≡ rank_of rank.number its

  record AreRanked (Such : ℕ → Subscription → Type 0) (ranks : List Rank) : Type 0 where
    all : (m : ℕ) (s : Subscription) → subscription_at m subscriptions ≡ Some s → Such m s → is_listed m (numbers ranks) ≡ true
    only : AllByRecursion (IsRankOf Such) ranks
    order : AreInOrder ranks

  module _ (Such : ℕ → Subscription → Type 0) where
    -- what holds of them holds of the one that is listed
    of_listed : (P : Rank → Type 0) (m : ℕ) (s : Subscription) (ranks : List Rank) → subscription_at m subscriptions ≡ Some s → AllByRecursion (IsRankOf Such) ranks → AllByRecursion P ranks →
        is_listed m (numbers ranks) ≡ true → P (rank_of m s)
    of_listed P m s [] found only h listed = absurd (false≢true listed)
    of_listed P m s (r ∷ rs) found only h listed = by (same_or_not m r.number) (λ rest. of_listed P m s rs found only.1 h.1 rest)
      where
        by : (m ≡ r.number) ⊎ (m ≢ r.number) → (is_listed m (numbers rs) ≡ true → P (rank_of m s)) → P (rank_of m s)
        by (inl same) rest =
            let it : only.0.its ≡ s = some_same (sym only.0.found ∙ ap (λ (n : ℕ). subscription_at n subscriptions) (sym same) ∙ found) in
            subst P (only.0.is ∙ ap (rank_of r.number) it ∙ ap (λ (n : ℕ). rank_of n s) (sym same)) h.0
        by (inr other) rest = rest (behind_it m r.number (numbers rs) other listed)

    -- one that comes before all others isn't among them
    not_listed : (r : Rank) (rs : List Rank) → IsRankOf Such r → AllByRecursion (IsRankOf Such) rs → AllByRecursion (IsBefore r) rs → is_listed r.number (numbers rs) ≡ false
    not_listed r rs x only order =
        false_from_ne_true (is_listed r.number (numbers rs)) (λ listed. before_itself r (subst (IsBefore r) (sym x.is) (of_listed (IsBefore r) r.number x.its rs x.found only order listed)))

    -- so each other has another number
    all_others : (r : Rank) (rs : List Rank) → is_listed r.number (numbers rs) ≡ false → AllByRecursion (IsRankOf Such) rs → AllByRecursion (IsRankOf (λ m s. Such m s × (m ≢ r.number))) rs
    all_others r [] out only = tt
    all_others r (q ∷ qs) out only = (
      record {
        its = only.0.its;
        found = only.0.found;
        such = (only.0.such, λ same. false≢true (sym out ∙ subst (λ (n : ℕ). is_listed n (numbers (q ∷ qs)) ≡ true) same (listed_first q.number (numbers qs))));
        is = only.0.is;
      },
      all_others r qs (or_parts (is_at (nat_cmp r.number) q.number) (is_listed r.number (numbers qs)) out).1 only.1,
    )

  first_best : (Such : ℕ → Subscription → Type 0) (r : Rank) (rs : List Rank) → AreRanked Such (r ∷ rs) → IsBest Such subscriptions r.number
  first_best Such r rs h = record {
    best = h.only.0.its;
    found = h.only.0.found;
    such = h.only.0.such;
    before = λ m s found such other.
        subst (λ (x : Rank). IsBefore x (rank_of m s)) h.only.0.is
        (of_listed Such (IsBefore r) m s rs found h.only.1 h.order.0 (behind_it m r.number (numbers rs) other (h.all m s found such)));
  }

  all_best_first : (ranks : List Rank) (Such : ℕ → Subscription → Type 0) → AreRanked Such ranks → AreAllBestFirst Such subscriptions (numbers ranks)
  all_best_first [] Such h = λ m s found such. false≢true (h.all m s found such)
  all_best_first (r ∷ rs) Such h = (
    first_best Such r rs h,
    all_best_first rs (λ m s. Such m s × (m ≢ r.number)) (record {
      all = λ m s found such. behind_it m r.number (numbers rs) such.1 (h.all m s found such.0);
      only = all_others Such r rs (not_listed Such r rs h.only.0 h.only.1 h.order.0) h.only.1;
      order = h.order.1;
    }),
  )

-- and each of them is listed
pub all_listed : (Such : ℕ → Subscription → Type 0) (subscriptions : List (ℕ × Subscription)) (ns : List ℕ) (number : ℕ) (s : Subscription) → AreAllBestFirst Such subscriptions ns → subscription_at number subscriptions ≡ Some s → Such number s →
    is_listed number ns ≡ true
all_listed Such subscriptions [] number s h found such = absurd (h number s found such)
all_listed Such subscriptions (n ∷ ns) number s h found such = by (same_or_not number n) (λ other. all_listed (λ m t. Such m t × (m ≢ n)) subscriptions ns number s h.1 found (such, other))
  where
    by : (number ≡ n) ⊎ (number ≢ n) → (number ≢ n → is_listed number ns ≡ true) → is_listed number (n ∷ ns) ≡ true
    by (inl same) rest = subst (λ (m : ℕ). is_listed m (n ∷ ns) ≡ true) (sym same) (listed_first n ns)
    by (inr other) rest = among number n ns (rest other)

-- ---- those that wait

module _ (subscriptions : List (ℕ × Subscription)) where
  -- of a session that lists its own subscriptions and no other
  all_waiting : (session : ℕ) (ns : List ℕ) → ((n : ℕ) → is_listed n ns ≡ true → (s : Subscription) × (subscription_at n subscriptions ≡ Some s) × (s.session ≡ Some session)) →
      ((n : ℕ) (s : Subscription) → subscription_at n subscriptions ≡ Some s → s.session ≡ Some session → is_listed n ns ≡ true) → AreRanked subscriptions (WaitsIn session) (waiting_of subscriptions ns)
  all_waiting session ns own listed = record {
    all = λ m s found such. no_waiting_passed_over subscriptions ns m s (listed m s found such.0) found such.1;
    only = ranks_are (IsRankOf subscriptions (WaitsIn session)) (waiting_at subscriptions) ns []
        (listed_are (λ (n : ℕ). (rank : Rank) → waiting_at subscriptions n ≡ Some rank → IsRankOf subscriptions (WaitsIn session) rank) ns one) tt;
    order = order_from (waiting_at subscriptions) ns [] tt;
  }
    where
      one : (n : ℕ) → is_listed n ns ≡ true → (rank : Rank) → waiting_at subscriptions n ≡ Some rank → IsRankOf subscriptions (WaitsIn session) rank
      one n among_them rank has =
          let x = ranked_waits n (subscription_at n subscriptions) rank has in
          let o = own n among_them in
          let its : o.0 ≡ x.0 = some_same (sym o.1 ∙ x.1) in
          subst (IsRankOf subscriptions (WaitsIn session)) (sym x.3) (record { its = x.0; found = x.1; such = (sym (ap (λ (s : Subscription). s.session) its) ∙ o.2, x.2); is = refl })

-- ---- those that are due

module _ (clock : Moment) where
  due_in : (number : ℕ) (s : Subscription) (es : List (ℕ × Subscription)) → subscription_at number es ≡ Some s → is_due clock s ≡ true → list_any (λ e. is_of number (due_rank clock e)) es ≡ true
  due_in number s [] found due = absurd (cc)
  due_in number s (e ∷ es) found due = by (is_at (nat_cmp number) e.0) refl found (λ rest. due_in number s es rest due)
    where
      by : (b : Bool) → is_at (nat_cmp number) e.0 ≡ b → cond b (Some e.1) (subscription_at number es) ≡ Some s → (subscription_at number es ≡ Some s → list_any (λ x. is_of number (due_rank clock x)) es ≡ true) →
          list_any (λ x. is_of number (due_rank clock x)) (e ∷ es) ≡ true
      by true is here rest = or_left _ _ (ap (λ (b : Bool). is_of number (cond b (Some (rank_of e.0 e.1)) None)) (ap (is_due clock) (some_same here) ∙ due) ∙ is)
      by false is here rest = or_right (is_of number (due_rank clock e)) _ (rest here)

  all_due : (subscriptions : List (ℕ × Subscription)) → AreRising subscriptions → AreRanked subscriptions (IsDueAt clock) (due_of clock subscriptions)
  all_due subscriptions rising = record {
    all = λ m s found due. all_in (due_rank clock) m subscriptions [] (or_left _ false (due_in m s subscriptions found due));
    only = ranks_are (IsRankOf subscriptions (IsDueAt clock)) (due_rank clock) subscriptions []
        (all_so (λ (e : ℕ × Subscription). subscription_at e.0 subscriptions ≡ Some e.1) (λ (e : ℕ × Subscription). (rank : Rank) → due_rank clock e ≡ Some rank → IsRankOf subscriptions (IsDueAt clock) rank) one subscriptions (all_found subscriptions rising)) tt;
    order = order_from (due_rank clock) subscriptions [] tt;
  }
    where
      one : (e : ℕ × Subscription) → subscription_at e.0 subscriptions ≡ Some e.1 → (rank : Rank) → due_rank clock e ≡ Some rank → IsRankOf subscriptions (IsDueAt clock) rank
      one e found rank = by (is_due clock e.1) refl
        where
          by : (b : Bool) → is_due clock e.1 ≡ b → cond b (Some (rank_of e.0 e.1)) None ≡ Some rank → IsRankOf subscriptions (IsDueAt clock) rank
          by true due has = subst (IsRankOf subscriptions (IsDueAt clock)) (some_same has) (record { its = e.1; found = found; such = due; is = refl })
          by false due has = absurd (cc)

pub none_passed_over : (clock : Moment) (subscriptions : List (ℕ × Subscription)) (number : ℕ) (s : Subscription) → subscription_at number subscriptions ≡ Some s → is_due clock s ≡ true →
    is_listed number (due_numbers clock subscriptions) ≡ true
none_passed_over clock subscriptions number s found due = all_in (due_rank clock) number subscriptions [] (or_left _ false (due_in clock number s subscriptions found due))

-- ---- each is met

met_other : (w : Stage) (n : ℕ) (asked : Call) (m : ℕ) → m ≢ n → subscription_at m (met w n asked).table.subscriptions ≡ subscription_at m w.table.subscriptions
unfolding met
met_other w n asked m other = by (subscription_at n w.table.subscriptions)
  where
    by : (o : Option Subscription) → subscription_at m (met_by w n asked o).table.subscriptions ≡ subscription_at m w.table.subscriptions
    by None = refl
    by (Some s) = back_other n m (fired (scene_at w n asked s)).subscription w.table.subscriptions other

module _ (asked : Call) where
  one_numbered : (n : ℕ) (w : Stage) (more : List Encounter) (o : Option Subscription) → is_some o ≡ true → map subscription_of (flat_map concerns_at (meets_by w n asked o ++ more)) ≡ n ∷ map subscription_of (flat_map concerns_at more)
  one_numbered n w more None e = absurd (false≢true e)
  one_numbered n w more (Some s) e = refl

  all_numbered : (Such : ℕ → Subscription → Type 0) (subscriptions : List (ℕ × Subscription)) (ns : List ℕ) (w : Stage) → AreAllBestFirst Such subscriptions ns →
      ((m : ℕ) (s : Subscription) → subscription_at m subscriptions ≡ Some s → Such m s → is_some (subscription_at m w.table.subscriptions) ≡ true) → map subscription_of (flat_map concerns_at (all_meet None asked w ns)) ≡ ns
  all_numbered Such subscriptions [] w h live = refl
  all_numbered Such subscriptions (n ∷ ns) w h live =
      let next = met w n asked in
      one_numbered n w (all_meet None asked next ns) (subscription_at n w.table.subscriptions) (live n h.0.best h.0.found h.0.such)
      ∙ ap (λ (ms : List ℕ). n ∷ ms) (all_numbered (λ m s. Such m s × (m ≢ n)) subscriptions ns next h.1 (λ m s found such. ap is_some (met_other w n asked m such.1) ∙ live m s found such.0))

pub each_is_met : (config : Configuration) (moves : List Move) (clock : Moment) → ComesBestFirst (run config moves) clock
each_is_met config moves clock =
    let r = run config moves in
    let subscriptions = r.subscriptions.table.subscriptions in
    let h = all_best_first subscriptions (due_of clock subscriptions) (IsDueAt clock) (all_due clock subscriptions (sessions_list config moves).subscriptions) in
    subst (AreAllBestFirst (IsDueAt clock) subscriptions) (sym (all_numbered call.Timer (IsDueAt clock) subscriptions (due_numbers clock subscriptions) (stage_of r.subscriptions r.items clock) h (λ m s found due. ap is_some found))) h

-- ---- a Publish request is given to the best that waits

-- acknowledgements leave who waits, and who is the best of them
forgot_waits : (m number : ℕ) (s : Subscription) → waiting_by m (Some (without_kept number s)) ≡ waiting_by m (Some s)
unfolding waiting_by
forgot_waits m number s = refl

module _ (session : ℕ) (before : List (ℕ × Subscription)) where
  abbrev AllWait : List (ℕ × Subscription) → Type 0
  AllWait after = (m : ℕ) → waiting_at after m ≡ waiting_at before m

  one_waits : (after : List (ℕ × Subscription)) (n number : ℕ) (s : Subscription) → subscription_at n after ≡ Some s → s.session ≡ Some session → AllWait after → AllWait (set_value (is_at (nat_cmp n)) after (without_kept number s))
  one_waits after n number s found own h m = by (same_or_not m n)
    where
      by : (m ≡ n) ⊎ (m ≢ n) → waiting_at (set_value (is_at (nat_cmp n)) after (without_kept number s)) m ≡ waiting_at before m
      by (inl same) =
          subst (λ (k : ℕ). waiting_at (set_value (is_at (nat_cmp n)) after (without_kept number s)) k ≡ waiting_at before k) (sym same)
          (ap (waiting_by n) (set_here n s (without_kept number s) after found) ∙ forgot_waits n number s ∙ ap (waiting_by n) (sym found) ∙ h n)
      by (inr other) = ap (waiting_by m) (set_other n m (without_kept number s) other after) ∙ h m

  same_ranks : (after : List (ℕ × Subscription)) → AllWait after → (ns : List ℕ) (ranks : List Rank) → fold (with_waiting after) ranks ns ≡ fold (with_waiting before) ranks ns
  same_ranks after h [] ranks = refl
  same_ranks after h (n ∷ ns) ranks = ap (λ (o : Option Rank). fold (with_waiting after) (with_rank ranks o) ns) (h n) ∙ same_ranks after h ns (with_waiting before ranks n)

  same_waiting : (acks : List SubscriptionAcknowledgement) (ns : List ℕ) → waiting_of (acknowledged_all session before acks).subscriptions ns ≡ waiting_of before ns
  same_waiting acks ns = same_ranks (acknowledged_all session before acks).subscriptions (all_acknowledged session AllWait one_waits acks before (λ m. refl)) ns []

-- one that waits answers the request that came
and_more : (asked : PublishCall) (ts us : List Telling) → IsAnswered asked ts → IsAnswered asked (ts ++ us)
and_more asked ts us h = record { answer = h.answer; more = h.more ++ us; first = ap (λ (l : List Telling). l ++ us) h.first; its = h.its }

module _ (asked : PublishCall) (c : Scene) (is : c.round.asked ≡ Some asked) where
  first_told : (clock : Moment) (kept : List KeptMessage) (told : Told) (rest : List Telling) → IsAnswered asked (if_asked clock kept told c.round.asked ++ rest)
  first_told clock kept told rest = subst (λ (o : Option PublishCall). IsAnswered asked (if_asked clock kept told o ++ rest)) (sym is) (record { answer = record { clock = clock; call = asked; kept = kept; told = told }; more = rest; first = refl; its = refl })

  answers_N2 : IsAnswered asked (row_told N2 c)
  answers_N2 =
      let n = noting c.round (life_reset c.subscription) c.items in
      let after = subscription_noted n.round n.subscription n.items in
      let rest = flat_map message_told (rest_notings c.part.requests (note_sent n)) in
      and_more asked (message_told n ++ rest) [] (first_told c.round.clock after.kept (Notifications (record { subscription = c.round.own; message = note_made n }) after.more) rest)

  answers_L2 : IsAnswered asked (row_told L2 c)
  answers_L2 = first_told c.round.clock c.subscription.kept (KeepAliveTold c.round.own (number_after c.subscription.number)) []

  waiting_answers : (s : State) (a : Answers) → waits_in s a.enabled_more ≡ true → IsAnswered asked (row_told (publish_row s a) c)
  waiting_answers Normal a waits = rw waits answers_N2
  waiting_answers Late a waits = either (λ (r : RowId). IsAnswered asked (row_told r c)) a.enabled_available L1 L2 answers_N2 answers_L2
  waiting_answers KeepAlive a waits = absurd (cc)
  waiting_answers Closed a waits = absurd (cc)

-- one subscription is met, and answers
abbrev IsMetAlone : ℕ → PublishCall → List Encounter → Type 0
IsMetAlone number asked es = (map subscription_of (flat_map concerns_at es) ≡ number ∷ []) × IsAnswered asked (flat_map told_at es)

met_alone : (u : Stage) (n : ℕ) (asked : PublishCall) (s : Subscription) → u.round.asked ≡ Some asked → subscription_at n u.table.subscriptions ≡ Some s → is_waiting s ≡ true → IsMetAlone n asked (all_meet None call.Publish u (n ∷ []))
met_alone u n asked s is found waits =
    let c = scene_at u n call.Publish s in
    subst (λ (o : Option Subscription). IsMetAlone n asked (meets_by u n call.Publish o ++ [])) (sym found) (refl, and_more asked (told_at (Meets c)) [] (waiting_answers asked c is s.state (answers (vars_in c)) waits))

asked_best : (ns : List ℕ) (asked : PublishCall) (w : Stage) (rank : Rank) (ranks : List Rank) → waiting_of w.table.subscriptions ns ≡ rank ∷ ranks → IsMetAlone rank.number asked (asked_encounters ns asked w)
asked_best [] asked w rank ranks e = absurd (cc)
asked_best (n ∷ ns) asked w rank ranks e =
    let subscriptions = w.table.subscriptions in
    let best : (s : Subscription) × (subscription_at rank.number subscriptions ≡ Some s) × (is_waiting s ≡ true) =
    first_is (λ (k : ℕ). (s : Subscription) × (subscription_at k subscriptions ≡ Some s) × (is_waiting s ≡ true)) subscriptions (n ∷ ns) rank (λ k s found waits. (s, found, waits)) (ap first_of e) in
    let m = met_alone (asked_by w asked) rank.number asked best.0 refl best.1 best.2 in
    subst (λ (all : List Rank). IsMetAlone rank.number asked (Does w (Asks asked) ∷ all_meet None call.Publish (asked_by w asked) (best_or_all (first_of all) (n ∷ ns)))) (sym e) m

module _ (config : Configuration) (moves : List Move) (clock : Moment) (session : ℕ) (asked : PublishCall) (acks : List SubscriptionAcknowledgement) where
  abbrev w : Stage
  w = stage_of (run config moves).subscriptions (run config moves).items clock

  abbrev v : Stage
  v = ready session acks w

  -- the request with what became of its acknowledgements
  abbrev request : PublishCall
  request = with_results asked (acknowledged_all session w.table.subscriptions acks).results

  abbrev own : List ℕ
  own = (part_at session w.table.sessions).numbers

  given_to : note_of session w.table.sessions ≡ None → (ranks : List Rank) → waiting_of w.table.subscriptions own ≡ ranks → (number : ℕ) → is_listed number (numbers ranks) ≡ true → AreRanked w.table.subscriptions (WaitsIn session) ranks →
      IsGivenToTheBest (run config moves) clock session asked acks
  given_to none [] e number listed h = absurd (false≢true listed)
  given_to none (best ∷ rest) e number listed h =
      let same : (part_at session v.table.sessions).numbers ≡ own = (set_fewer session (part_without_note (part_at session w.table.sessions)) w.table.sessions refl (λ f. f)).numbers session in
      let m = asked_best (part_at session v.table.sessions).numbers request v best rest (ap (waiting_of v.table.subscriptions) same ∙ same_waiting session w.table.subscriptions acks own ∙ e) in
      record {
        number = best.number;
        is_best = first_best w.table.subscriptions (WaitsIn session) best rest h;
        alone = ap (λ (o : Option TimeoutNote). map subscription_of (flat_map concerns_at (noted_encounters o session request acks w))) none ∙ m.0;
        answered = record { answer = m.1.answer; more = m.1.more; first = ap (λ (o : Option TimeoutNote). flat_map told_at (noted_encounters o session request acks w)) none ∙ m.1.first; its = m.1.its };
      }

  pub comes_to_the_best : ComesToTheBest (run config moves) clock session asked acks
  comes_to_the_best number s none found such =
      let h = all_waiting w.table.subscriptions session own (lists_own config moves session) (λ n t at is. (sessions_list config moves).listed n t session at is) in
      given_to none (waiting_of w.table.subscriptions own) refl number (h.all number s found such) h
