-- Messages stay numbered without a gap, and what is kept stays what was made, whatever is called.
use Rattle.std.proofs.Common.{◌≡◌, ◌≢◌, ◌⊎◌, inl, inr, ℕ, ◌<◌, ◌≤◌, arith, Bool, true, false, List, [], ◌++◌, Some, refl, sym, ap, ◌∙◌, subst}
use Rattle.std.proofs.lemmas.Bool.{false≢true}
use Rattle.ua_state_table.specs.Chosen.{answers, chosen}
use Rattle.ua_state_table.specs.declared.row.RowId.{RowId}
use Rattle.ua_state_table.specs.declared.row.RowId.TheVariants.{C2, G5, G6, G8, G10}
use Rattle.ua_state_table.specs.declared.vars.Vars.{Vars}
use Rattle.ua_subscriptions.specs.declared.call.Call.{Call}
use Rattle.ua_subscriptions.specs.declared.call.Call.TheVariants.{Create, Publish, Timer, Republish, SessionEnd}
use Rattle.ua_subscriptions.specs.declared.messages.KeptMessage.{KeptMessage}
use Rattle.ua_subscriptions.specs.declared.subscription.Subscription.{Subscription}
use Rattle.ua_subscriptions.specs.Calls.{event_of}
use Rattle.subscription_laws.specs.Calm.{AreRising}
use Rattle.ua_subscriptions.specs.Firing.{is_closed, before_of, row_of, fired}
use Rattle.subscription_laws.specs.Messaging.{Made, made_of, messages_for, AreAmong, AreItsMessages}
use Rattle.subscription_laws.specs.Numbering.{AreNumbered, last_number, IsMade, messages_of, begins_or_ends}
use Rattle.ua_subscriptions.specs.Scenes.{Scene, row_done}
use Rattle.ua_subscriptions.specs.Tables.{Stage, subscription_at, put_back, scene_at}
use Rattle.subscription_laws.proofs.ChosenRows.{publish_is_none, is_create, timer_is_none}
use Rattle.subscription_laws.proofs.Entries.{same_or_not}
use Rattle.subscription_laws.proofs.Firings.{fired_subscription}
use Rattle.subscription_laws.proofs.MadeMessages.{row_makes}
use Rattle.subscription_laws.proofs.MessageLists.{numbered_on, last_on, more_own, more_other, more_kept}
use Rattle.subscription_laws.proofs.Settling.{IsPutBack, back_is, back_rises}

-- messages of subscriptions whose numbers were given
pub record IsNumbered (made : ℕ) (ms : List Made) (subscriptions : List (ℕ × Subscription)) : Type 0 where
  pub rising : AreRising subscriptions
  pub given : (n : ℕ) (s : Subscription) → subscription_at n subscriptions ≡ Some s → n ≤ made
  pub fresh : (n : ℕ) → made < n → messages_for n ms ≡ []
  pub numbered : (n : ℕ) → AreNumbered 0 (messages_for n ms)
  pub live : (n : ℕ) (s : Subscription) → subscription_at n subscriptions ≡ Some s → AreItsMessages s (messages_for n ms)

-- ---- rows that begin none

abbrev is_C2 : RowId → Bool
is_C2 C2 = true
is_C2 r = false

begins_none : (v : Vars) (call : Call) → is_create call ≡ false → is_C2 (chosen v (event_of call)) ≡ false
begins_none v (Create full settings enabled) e = absurd (cc)
begins_none v Publish e = publish_is_none is_C2 refl refl refl refl refl refl v.state (answers v)
begins_none v Timer e = timer_is_none is_C2 (record { n3 = refl; n4 = refl; n5 = refl; n6 = refl; l3 = refl; k2 = refl; k3 = refl; k4 = refl; k5 = refl; g6 = refl }) v
begins_none v (Republish true) e = refl
begins_none v (Republish false) e = refl
begins_none v (SessionEnd true) e = refl
begins_none v (SessionEnd false) e = refl
begins_none v call e = refl

-- a row that ends its subscription makes no message
record Ends (r : RowId) (c : Scene) : Type 0 where
  closed : is_closed (row_done r c).subscription ≡ true
  none : messages_of r c ≡ []

ends : (r : RowId) (c : Scene) → begins_or_ends r ≡ true → is_C2 r ≡ false → Ends r c
unfolding row_done
ends C2 c h e = absurd (cc)
ends G5 c h e = record { closed = refl; none = refl }
ends G6 c h e = record { closed = refl; none = refl }
ends G8 c h e = record { closed = refl; none = refl }
ends G10 c h e = record { closed = refl; none = refl }
ends r c h e = absurd (cc)

-- ---- one more row

module _ (made : ℕ) (ms : List Made) (subscriptions : List (ℕ × Subscription)) (n : ℕ) (s d : Subscription) (messages : List KeptMessage) (h : IsNumbered made ms subscriptions) (found : subscription_at n subscriptions ≡ Some s)
    (numbered : AreNumbered s.number messages) (last : is_closed d ≡ false → d.number ≡ last_number s.number messages) (kept : is_closed d ≡ false → AreAmong d.kept (messages_for n ms ++ messages)) where
  numbered_at : (k : ℕ) → (k ≡ n) ⊎ (k ≢ n) → AreNumbered 0 (messages_for k (ms ++ made_of n messages))
  numbered_at k (inl same) =
      subst (λ (i : ℕ). AreNumbered 0 (messages_for i (ms ++ made_of n messages))) (sym same)
      (subst (AreNumbered 0) (sym (more_own n ms messages))
      (numbered_on 0 (messages_for n ms) messages (h.numbered n) (subst (λ (i : ℕ). AreNumbered i messages) (sym (h.live n s found).last) numbered)))
  numbered_at k (inr other) = subst (AreNumbered 0) (sym (more_other k n ms messages (λ same. other (sym same)))) (h.numbered k)

  own_live : is_closed d ≡ false → AreItsMessages d (messages_for n (ms ++ made_of n messages))
  own_live open_yet =
      subst (AreItsMessages d) (sym (more_own n ms messages)) (record {
        last = last_on 0 (messages_for n ms) messages ∙ ap (λ (i : ℕ). last_number i messages) (h.live n s found).last ∙ sym (last open_yet);
        kept = kept open_yet;
      })

  live_at : (k : ℕ) (u : Subscription) → IsPutBack n k d u ⊎ ((k ≢ n) × (subscription_at k subscriptions ≡ Some u)) → AreItsMessages u (messages_for k (ms ++ made_of n messages))
  live_at k u (inl b) =
      subst (λ (x : Subscription). AreItsMessages x (messages_for k (ms ++ made_of n messages))) (sym b.is)
      (subst (λ (i : ℕ). AreItsMessages d (messages_for i (ms ++ made_of n messages))) (sym b.at) (own_live b.live))
  live_at k u (inr (other, before)) = subst (AreItsMessages u) (sym (more_other k n ms messages (λ same. other (sym same)))) (h.live k u before)

  given_at : (k : ℕ) (u : Subscription) → IsPutBack n k d u ⊎ ((k ≢ n) × (subscription_at k subscriptions ≡ Some u)) → k ≤ made
  given_at k u (inl b) = let same : k ≡ n = b.at in let most : n ≤ made = h.given n s found in omega (arith, same, most)
  given_at k u (inr (other, before)) = h.given k u before

  not_fresh : (k : ℕ) → made < k → n ≢ k
  not_fresh k above same = let most : n ≤ made = h.given n s found in absurd (omega (arith, above, most, same))

  one_numbered : IsNumbered made (ms ++ made_of n messages) (put_back n d subscriptions)
  one_numbered = record {
    rising = back_rises n d subscriptions h.rising;
    given = λ k u after. given_at k u (back_is n s d subscriptions h.rising found k u after);
    fresh = λ k above. more_other k n ms messages (not_fresh k above) ∙ h.fresh k above;
    numbered = λ k. numbered_at k (same_or_not k n);
    live = λ k u after. live_at k u (back_is n s d subscriptions h.rising found k u after);
  }

-- ---- what a live subscription meets

module _ (made : ℕ) (ms : List Made) (w : Stage) (n : ℕ) (call : Call) (s : Subscription) (h : IsNumbered made ms w.table.subscriptions) (found : subscription_at n w.table.subscriptions ≡ Some s) (begins : is_create call ≡ false) where
  row_numbered : (b : Bool) → begins_or_ends (row_of (scene_at w n call s)) ≡ b → AreNumbered s.number (messages_of (row_of (scene_at w n call s)) (scene_at w n call s))
  row_numbered false e = (row_makes (row_of (scene_at w n call s)) (scene_at w n call s) e).numbered
  row_numbered true e =
      subst (AreNumbered s.number) (sym (ends (row_of (scene_at w n call s)) (scene_at w n call s) e (begins_none (before_of (scene_at w n call s)) call begins)).none) tt

  row_made : is_closed (row_done (row_of (scene_at w n call s)) (scene_at w n call s)).subscription ≡ false →
      IsMade w.round.bounds.kept s (row_done (row_of (scene_at w n call s)) (scene_at w n call s)).subscription (messages_of (row_of (scene_at w n call s)) (scene_at w n call s))
  row_made open_yet = by (begins_or_ends (row_of (scene_at w n call s))) refl
    where
      by : (b : Bool) → begins_or_ends (row_of (scene_at w n call s)) ≡ b →
          IsMade w.round.bounds.kept s (row_done (row_of (scene_at w n call s)) (scene_at w n call s)).subscription (messages_of (row_of (scene_at w n call s)) (scene_at w n call s))
      by false e = row_makes (row_of (scene_at w n call s)) (scene_at w n call s) e
      by true e = absurd (false≢true (sym open_yet ∙ (ends (row_of (scene_at w n call s)) (scene_at w n call s) e (begins_none (before_of (scene_at w n call s)) call begins)).closed))

  fired_made : is_closed (fired (scene_at w n call s)).subscription ≡ false → IsMade w.round.bounds.kept s (fired (scene_at w n call s)).subscription (messages_of (row_of (scene_at w n call s)) (scene_at w n call s))
  fired_made open_yet =
      subst (λ (d : Subscription). is_closed d ≡ false → IsMade w.round.bounds.kept s d (messages_of (row_of (scene_at w n call s)) (scene_at w n call s))) (sym (fired_subscription (scene_at w n call s))) row_made open_yet

  pub live_numbered : IsNumbered made (ms ++ made_of n (messages_of (row_of (scene_at w n call s)) (scene_at w n call s))) (put_back n (fired (scene_at w n call s)).subscription w.table.subscriptions)
  live_numbered =
      one_numbered made ms w.table.subscriptions n s (fired (scene_at w n call s)).subscription (messages_of (row_of (scene_at w n call s)) (scene_at w n call s)) h found
      (row_numbered (begins_or_ends (row_of (scene_at w n call s))) refl) (λ open_yet. (fired_made open_yet).number)
      (λ open_yet. subst (λ (ks : List KeptMessage). AreAmong ks (messages_for n ms ++ messages_of (row_of (scene_at w n call s)) (scene_at w n call s))) (sym (fired_made open_yet).kept)
      (more_kept w.round.bounds.kept s.kept (messages_for n ms) (messages_of (row_of (scene_at w n call s)) (scene_at w n call s)) (h.live n s found).kept))
