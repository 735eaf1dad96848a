-- What every call keeps, while requests wait in vain, and while sessions end.
use Rattle.std.proofs.Common.{◌≡◌, ◌≢◌, ◌⊎◌, inl, inr, ℕ, Bool, true, false, List, [], ◌∷◌, ◌++◌, Option, Some, None, refl, sym, ap, ◌∙◌}
use Rattle.std.specs.BTreeMap.{is_at}
use Rattle.std.specs.Map.{remove_entry}
use Rattle.std.specs.Ordering.{nat_cmp}
use Rattle.ua_types.specs.declared.status.Status.{Status}
use Rattle.ua_types.specs.declared.status.TheConstants.Status as status
use Rattle.server_messages.specs.declared.fired.Fired.{Fired}
use Rattle.ua_subscriptions.specs.declared.call.Call.TheVariants.{SessionEnd}
use Rattle.ua_subscriptions.specs.declared.session_part.SessionSubscriptions.{SessionSubscriptions}
use Rattle.ua_subscriptions.specs.declared.subscription.Subscription.{Subscription}
use Rattle.subscription_laws.specs.Calm.{AreNumbersRising, is_listed}
use Rattle.ua_subscriptions.specs.Ending.{without_session, session_ended}
use Rattle.ua_subscriptions.specs.Firing.{is_closed, fired}
use Rattle.ua_subscriptions.specs.Named.{without_requests, all_refused}
use Rattle.ua_subscriptions.specs.Scenes.{row_done}
use Rattle.ua_subscriptions.specs.Subscriptions.{no_part, is_any}
use Rattle.ua_subscriptions.specs.Tables.{Stage, met, all_met, part_at, subscription_at, scene_at, met_by}
use Rattle.subscription_laws.proofs.Entries.{listed_first, some_same, behind_it, among, rising_gone}
use Rattle.subscription_laws.proofs.Keeping.{IsKept, its_own, met_plain}
use Rattle.subscription_laws.proofs.KeepingParts.{parts_kept, of_gone, set_fewer, fewer_calm}
use Rattle.subscription_laws.proofs.Settling.{IsPutBack, back_is}

-- ---- requests that wait in vain

pub refused_kept : (except : Option ℕ) (made : ℕ) (past : List Fired) (session : ℕ) (code : Status) (w : Stage) → IsKept except made past w → IsKept except made past (all_refused session code w)
unfolding all_refused
refused_kept except made past session code w k =
    let part = without_requests (part_at session w.table.sessions) in
    let kept = parts_kept except made past w _ (set_fewer session part w.table.sessions refl (λ e. absurd (cc))) k in
    record { calm = kept.calm; own = kept.own; within = kept.within }

-- ---- a session ends

-- the subscriptions that are its own yet are among those to be ended, and those are its own, or of none
record IsEnding (session made : ℕ) (past : List Fired) (ns : List ℕ) (w : Stage) : Type 0 where
  kept : IsKept (Some session) made past w
  left : (m : ℕ) (s : Subscription) → subscription_at m w.table.subscriptions ≡ Some s → s.session ≡ Some session → is_listed m ns ≡ true
  of : (m : ℕ) (s : Subscription) → is_listed m ns ≡ true → subscription_at m w.table.subscriptions ≡ Some s → (s.session ≡ Some session) ⊎ (s.session ≡ None)

-- the end of its session closes a subscription, or leaves it without one
fired_ends : (deleting : Bool) (w : Stage) (n : ℕ) (s : Subscription) → let d = fired (scene_at w n (SessionEnd deleting) s) in is_closed d.subscription ≡ false → d.subscription.session ≡ None
unfolding fired row_done
fired_ends true w n s live = absurd (cc)
fired_ends false w n s live = refl

module _ (session made : ℕ) (past : List Fired) (deleting : Bool) (n : ℕ) (ns : List ℕ) (w : Stage) (h : IsEnding session made past (n ∷ ns) w) where
  -- what is found after the end was met
  met_left : (m : ℕ) (u : Subscription) → subscription_at m (met w n (SessionEnd deleting)).table.subscriptions ≡ Some u → (u.session ≡ None) ⊎ ((m ≢ n) × (subscription_at m w.table.subscriptions ≡ Some u))
  unfolding met
  met_left m u after = by (subscription_at n w.table.subscriptions) refl after
    where
      absent : subscription_at n w.table.subscriptions ≡ None → subscription_at m w.table.subscriptions ≡ Some u → m ≢ n
      absent none there same = let clash = sym (ap (λ (i : ℕ). subscription_at i w.table.subscriptions) same) ∙ there in absurd (cc)

      there : (s : Subscription) → IsPutBack n m (fired (scene_at w n (SessionEnd deleting) s)).subscription u ⊎ ((m ≢ n) × (subscription_at m w.table.subscriptions ≡ Some u)) →
          (u.session ≡ None) ⊎ ((m ≢ n) × (subscription_at m w.table.subscriptions ≡ Some u))
      there s (inl b) = inl (ap (λ (x : Subscription). x.session) b.is ∙ fired_ends deleting w n s b.live)
      there s (inr before) = inr before

      by : (o : Option Subscription) → subscription_at n w.table.subscriptions ≡ o →
          subscription_at m (met_by w n (SessionEnd deleting) o).table.subscriptions ≡ Some u →
          (u.session ≡ None) ⊎ ((m ≢ n) × (subscription_at m w.table.subscriptions ≡ Some u))
      by None none found = inr (absent none found, found)
      by (Some s) is found = there s (back_is n s (fired (scene_at w n (SessionEnd deleting) s)).subscription w.table.subscriptions h.kept.calm.listed.subscriptions is m u found)

  met_ends : IsEnding session made past ns (met w n (SessionEnd deleting))
  met_ends = record {
    kept = met_plain (Some session) made past w n (SessionEnd deleting) refl (inr (λ s found. h.of n s (listed_first n ns) found)) h.kept;
    left = λ m u after own. left m u own (met_left m u after);
    of = λ m u listed after. of m u listed (met_left m u after);
  }
    where
      left : (m : ℕ) (u : Subscription) → u.session ≡ Some session → (u.session ≡ None) ⊎ ((m ≢ n) × (subscription_at m w.table.subscriptions ≡ Some u)) → is_listed m ns ≡ true
      left m u own (inl none) = absurd (cc)
      left m u own (inr (other, before)) = behind_it m n ns other (h.left m u before own)

      of : (m : ℕ) (u : Subscription) → is_listed m ns ≡ true → (u.session ≡ None) ⊎ ((m ≢ n) × (subscription_at m w.table.subscriptions ≡ Some u)) → (u.session ≡ Some session) ⊎ (u.session ≡ None)
      of m u listed (inl none) = inr none
      of m u listed (inr (other, before)) = h.of m u (among m n ns listed) before

all_end : (session made : ℕ) (past : List Fired) (deleting : Bool) (ns : List ℕ) (w : Stage) → IsEnding session made past ns w → IsEnding session made past [] (all_met (SessionEnd deleting) w ns)
all_end session made past deleting [] w h = h
all_end session made past deleting (n ∷ ns) w h = all_end session made past deleting ns (met w n (SessionEnd deleting)) (met_ends session made past deleting n ns w h)

-- nothing of a session is left
module _ (session made : ℕ) (past : List Fired) (w : Stage) (k : IsKept (Some session) made past w) (none : (m : ℕ) (s : Subscription) → subscription_at m w.table.subscriptions ≡ Some s → s.session ≢ Some session) where
  abbrev rest : List (ℕ × SessionSubscriptions)
  rest = remove_entry (is_at (nat_cmp session)) w.table.sessions

  of_rest : (P : ℕ → SessionSubscriptions → Type 0) → P session no_part → ((j : ℕ) → j ≢ session → P j (part_at j w.table.sessions)) → (j : ℕ) → P j (part_at j rest)
  of_rest = of_gone session w.table.sessions k.calm.listed.sessions

  -- what is listed yet was listed, in another session
  lists_yet : (m j : ℕ) → is_listed m (part_at j rest).numbers ≡ true → (j ≢ session) × (is_listed m (part_at j w.table.sessions).numbers ≡ true)
  lists_yet m = of_rest (λ (j : ℕ) (p : SessionSubscriptions). is_listed m p.numbers ≡ true → (j ≢ session) × (is_listed m (part_at j w.table.sessions).numbers ≡ true)) (λ e. absurd (cc)) (λ j other listed. (other, listed))

  asks_yet : (j : ℕ) → is_any (part_at j rest).requests ≡ true → is_any (part_at j w.table.sessions).requests ≡ true
  asks_yet = of_rest (λ (j : ℕ) (p : SessionSubscriptions). is_any p.requests ≡ true → is_any (part_at j w.table.sessions).requests ≡ true) (λ e. absurd (cc)) (λ j other any. any)

  still_listed : (m : ℕ) (s : Subscription) (j : ℕ) → subscription_at m w.table.subscriptions ≡ Some s → s.session ≡ Some j → is_listed m (part_at j rest).numbers ≡ true
  still_listed m s j found =
      of_rest (λ (i : ℕ) (p : SessionSubscriptions). s.session ≡ Some i → is_listed m p.numbers ≡ true) (λ own. absurd (none m s found own)) (λ i other own. k.calm.listed.listed m s i found own) j

  left_without : IsKept None made past (without_session session w)
  left_without = record {
    calm = fewer_calm (past ++ w.round.rows) w.table w.items rest (rising_gone session w.table.sessions k.calm.listed.sessions) still_listed asks_yet k.calm;
    own = λ j other m listed. let l = lists_yet m j listed in k.own j (λ same. l.0 (sym (some_same same))) m l.1;
    within = record { within = λ m j listed. k.within.within m j (lists_yet m j listed).1; rising = of_rest (λ (j : ℕ) (p : SessionSubscriptions). AreNumbersRising p.numbers) tt (λ j other. k.within.rising j) };
  }

refused_same : (session : ℕ) (code : Status) (w : Stage) → (all_refused session code w).table.subscriptions ≡ w.table.subscriptions
unfolding all_refused
refused_same session code w = refl

pub ended_kept : (session made : ℕ) (past : List Fired) (deleting : Bool) (w : Stage) → IsKept None made past w → IsKept None made past (session_ended session deleting w)
unfolding session_ended
ended_kept session made past deleting w k =
    let ns = (part_at session w.table.sessions).numbers in
    let v = all_met (SessionEnd deleting) w ns in
    let begun : IsEnding session made past ns w = record {
      kept = record { calm = k.calm; own = λ j other. k.own j (λ e. absurd (cc)); within = k.within };
      left = λ m s found own. k.calm.listed.listed m s session found own;
      of = λ m s listed found. inl (its_own w.table session m s (k.own session (λ e. absurd (cc))) listed found);
    } in
    let done = all_end session made past deleting ns w begun in
    left_without session made past (all_refused session status.BAD_SESSION_CLOSED v) (refused_kept (Some session) made past session status.BAD_SESSION_CLOSED v done.kept)
    (λ m s found own. let listed = done.left m s (ap (subscription_at m) (sym (refused_same session status.BAD_SESSION_CLOSED v)) ∙ found) own in absurd (cc))
