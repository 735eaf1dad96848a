-- The notes of time-outs have the numbers of the messages that would have come next.
use Rattle.std.proofs.Common.{◌≡◌, ◌≢◌, ◌⊎◌, inl, inr, ℕ, ◌≤◌, Bool, true, false, List, [], ◌∷◌, ◌++◌, append-nil, Option, Some, None, refl, sym, ap, ◌∙◌, subst}
use Rattle.std.proofs.lemmas.Bool.{cond-true}
use Rattle.std.specs.BTreeMap.{is_at}
use Rattle.std.specs.List.{AllByRecursion, list_any}
use Rattle.std.specs.Map.{set_value}
use Rattle.std.specs.Ordering.{nat_cmp}
use Rattle.ua_state_table.specs.StateTable.{actions_of}
use Rattle.ua_state_table.specs.declared.action.Action.{Action}
use Rattle.ua_state_table.specs.declared.action.Action.TheVariants.{Enqueue, NoteTimeout}
use Rattle.ua_state_table.specs.declared.row.RowId.{RowId}
use Rattle.ua_state_table.specs.declared.row.RowId.TheVariants.{G6}
use Rattle.ua_subscriptions.specs.declared.call.Call.{Call}
use Rattle.ua_subscriptions.specs.declared.messages.KeptMessage.{KeptMessage}
use Rattle.ua_subscriptions.specs.declared.session_part.SessionSubscriptions.{SessionSubscriptions}
use Rattle.ua_subscriptions.specs.declared.session_part.TimeoutNote.{TimeoutNote}
use Rattle.ua_subscriptions.specs.declared.subscription.Subscription.{Subscription}
use Rattle.subscription_laws.specs.Calm.{AreRising}
use Rattle.ua_subscriptions.specs.Firing.{is_closed, row_of, fired}
use Rattle.ua_subscriptions.specs.Messages.{number_after}
use Rattle.subscription_laws.specs.Messaging.{Made, made_of, made_at, messages_for, AreNotes}
use Rattle.subscription_laws.specs.Encounters.{Meets}
use Rattle.subscription_laws.specs.Numbering.{last_number, messages_of}
use Rattle.ua_subscriptions.specs.Scenes.{Scene, done, row_done}
use Rattle.ua_subscriptions.specs.Tables.{TableState, Stage, part_at, part_of, set_part, subscription_at, put_back, stage_after, scene_at}
use Rattle.ua_subscriptions.proofs.OwingRows.{all_append}
use Rattle.subscription_laws.proofs.ChosenRows.{is_create}
use Rattle.subscription_laws.proofs.Entries.{gone_here, rising_set}
use Rattle.subscription_laws.proofs.Folds.{all_so}
use Rattle.subscription_laws.proofs.KeepingParts.{of_set}
use Rattle.subscription_laws.proofs.MessageLists.{more_own, more_other}
use Rattle.subscription_laws.proofs.MessagesKept.{IsNumbered, live_numbered}
use Rattle.subscription_laws.proofs.Owners.{actions_keep}
use Rattle.subscription_laws.proofs.Remains.{enqueued_without}
use Rattle.subscription_laws.proofs.Settling.{back_other, part_rises}

-- ---- notes of subscriptions that are over

pub record IsNote (made : ℕ) (ms : List Made) (subscriptions : List (ℕ × Subscription)) (note : TimeoutNote) : Type 0 where
  pub number : note.number ≡ number_after (last_number 0 (messages_for note.subscription ms))
  pub over : subscription_at note.subscription subscriptions ≡ None
  pub given : note.subscription ≤ made

abbrev pub AllNotes : ℕ → List Made → List (ℕ × Subscription) → List TimeoutNote → Type 0
AllNotes made ms subscriptions notes = AllByRecursion (IsNote made ms subscriptions) notes

-- messages, and the notes of all sessions
pub record IsMessaged (made : ℕ) (ms : List Made) (t : TableState) : Type 0 where
  pub rising : AreRising t.sessions
  pub numbered : IsNumbered made ms t.subscriptions
  pub notes : (session : ℕ) → AllNotes made ms t.subscriptions (part_at session t.sessions).notes

pub all_notes : (made : ℕ) (ms : List Made) (subscriptions : List (ℕ × Subscription)) (notes : List TimeoutNote) → AllNotes made ms subscriptions notes → AreNotes ms notes
all_notes made ms subscriptions [] h = tt
all_notes made ms subscriptions (note ∷ notes) h = (h.0.number, all_notes made ms subscriptions notes h.1)

-- the subscription of a note isn't one that lives
pub note_apart : (made : ℕ) (ms : List Made) (subscriptions : List (ℕ × Subscription)) (note : TimeoutNote) (n : ℕ) (s : Subscription) → IsNote made ms subscriptions note → subscription_at n subscriptions ≡ Some s → note.subscription ≢ n
note_apart made ms subscriptions note n s h found same = let clash = sym (ap (λ (i : ℕ). subscription_at i subscriptions) same ∙ found) ∙ h.over in absurd (cc)

note_on : (made : ℕ) (ms : List Made) (subscriptions : List (ℕ × Subscription)) (n : ℕ) (s d : Subscription) (messages : List KeptMessage) → subscription_at n subscriptions ≡ Some s → (note : TimeoutNote) →
    IsNote made ms subscriptions note → IsNote made (ms ++ made_of n messages) (put_back n d subscriptions) note
note_on made ms subscriptions n s d messages found note h =
    let other = note_apart made ms subscriptions note n s h found in
    record {
      number = h.number ∙ ap (λ (l : List KeptMessage). number_after (last_number 0 l)) (sym (more_other note.subscription n ms messages (λ same. other (sym same))));
      over = back_other n note.subscription d subscriptions other ∙ h.over;
      given = h.given;
    }

-- ---- the one row that leaves a note

abbrev pub is_noting : Action → Bool
is_noting NoteTimeout = true
is_noting action = false

done_notes : (c : Scene) (action : Action) → is_noting action ≡ false → (done c action).part.notes ≡ c.part.notes
done_notes c Enqueue e = ap (λ (p : SessionSubscriptions). p.notes) (enqueued_without c.round c.part)
done_notes c NoteTimeout e = absurd (cc)
done_notes c action e = refl

row_notes : (r : RowId) (c : Scene) → list_any is_noting (actions_of r) ≡ false → (row_done r c).part.notes ≡ c.part.notes
unfolding row_done
row_notes r c e = actions_keep (λ (d : Scene). d.part.notes ≡ c.part.notes) is_noting (λ d action f h. done_notes d action f ∙ h) (actions_of r) c e refl

only_G6 : (r : RowId) → list_any is_noting (actions_of r) ≡ true → r ≡ G6
only_G6 G6 e = refl
only_G6 r e = absurd (cc)

abbrev pub note_left : Scene → TimeoutNote
note_left c = record { subscription = c.round.own; number = number_after c.subscription.number }

-- what it leaves
record IsTimeout (r : RowId) (c : Scene) : Type 0 where
  notes : (row_done r c).part.notes ≡ c.part.notes ++ note_left c ∷ []
  closed : is_closed (row_done r c).subscription ≡ true
  none : messages_of r c ≡ []

timeout_G6 : (c : Scene) → IsTimeout G6 c
unfolding row_done
timeout_G6 c = record { notes = refl; closed = refl; none = refl }

pub fired_same_notes : (c : Scene) → list_any is_noting (actions_of (row_of c)) ≡ false → (fired c).part.notes ≡ c.part.notes
unfolding fired
fired_same_notes c e = row_notes (row_of c) c e

-- notes are as before, or it is that row
pub fired_notes : (c : Scene) → ((fired c).part.notes ≡ c.part.notes) ⊎ (((fired c).part.notes ≡ c.part.notes ++ note_left c ∷ []) × (is_closed (fired c).subscription ≡ true) × (messages_of (row_of c) c ≡ []))
unfolding fired
fired_notes c = by (list_any is_noting (actions_of (row_of c))) refl
  where
    by : (b : Bool) → list_any is_noting (actions_of (row_of c)) ≡ b →
        ((row_done (row_of c) c).part.notes ≡ c.part.notes)
        ⊎ (((row_done (row_of c) c).part.notes ≡ c.part.notes ++ note_left c ∷ []) × (is_closed (row_done (row_of c) c).subscription ≡ true) × (messages_of (row_of c) c ≡ []))
    by false e = inl (row_notes (row_of c) c e)
    by true e =
        let t = subst (λ (r : RowId). IsTimeout r c) (sym (only_G6 (row_of c) e)) (timeout_G6 c) in
        inr (t.notes, t.closed, t.none)

-- ---- what a live subscription meets

back_gone : (n : ℕ) (d : Subscription) (subscriptions : List (ℕ × Subscription)) → AreRising subscriptions → is_closed d ≡ true → subscription_at n (put_back n d subscriptions) ≡ None
back_gone n d subscriptions rising closed = ap (subscription_at n) (cond-true (is_closed d) _ _ closed) ∙ gone_here n (set_value (is_at (nat_cmp n)) subscriptions d) (rising_set n d subscriptions rising)

module _ (made : ℕ) (ms : List Made) (w : Stage) (n : ℕ) (call : Call) (s : Subscription) (h : IsMessaged made ms w.table) (found : subscription_at n w.table.subscriptions ≡ Some s) where
  abbrev here : Scene
  here = scene_at w n call s

  abbrev after : List Made
  after = ms ++ made_of n (messages_of (row_of here) here)

  abbrev left : List (ℕ × Subscription)
  left = put_back n (fired here).subscription w.table.subscriptions

  notes_before : (k : ℕ) → AllNotes made after left (part_at k w.table.sessions).notes
  notes_before k =
      all_so (IsNote made ms w.table.subscriptions) (IsNote made after left) (note_on made ms w.table.subscriptions n s (fired here).subscription (messages_of (row_of here) here) found)
      (part_at k w.table.sessions).notes (h.notes k)

  part_before : (o : Option ℕ) → AllNotes made after left (part_of o w.table.sessions).notes
  part_before None = tt
  part_before (Some k) = notes_before k

  new_note : is_closed (fired here).subscription ≡ true → messages_of (row_of here) here ≡ [] → IsNote made after left (note_left here)
  new_note closed none = record {
    number = ap number_after (sym (h.numbered.live n s found).last)
        ∙ ap (λ (l : List KeptMessage). number_after (last_number 0 l)) (sym (more_own n ms (messages_of (row_of here) here) ∙ ap (λ (l : List KeptMessage). messages_for n ms ++ l) none ∙ append-nil (messages_for n ms)));
    over = back_gone n (fired here).subscription w.table.subscriptions h.numbered.rising closed;
    given = h.numbered.given n s found;
  }

  own_notes : AllNotes made after left (fired here).part.notes
  own_notes = by (fired_notes here)
    where
      by : ((fired here).part.notes ≡ here.part.notes) ⊎ (((fired here).part.notes ≡ here.part.notes ++ note_left here ∷ []) × (is_closed (fired here).subscription ≡ true) × (messages_of (row_of here) here ≡ [])) →
          AllNotes made after left (fired here).part.notes
      by (inl same) = subst (AllNotes made after left) (sym same) (part_before s.session)
      by (inr (more, closed, none)) =
          subst (AllNotes made after left) (sym more)
          (all_append (IsNote made after left) (part_of s.session w.table.sessions).notes (note_left here ∷ []) (part_before s.session) (new_note closed none, tt))

  notes_after : (o : Option ℕ) (k : ℕ) → AllNotes made after left (part_at k (set_part o w.table.sessions (fired here).part)).notes
  notes_after None k = notes_before k
  notes_after (Some j) k = of_set j (fired here).part w.table.sessions (λ (i : ℕ) (p : SessionSubscriptions). AllNotes made after left p.notes) own_notes notes_before k

pub one_messaged : (made : ℕ) (ms : List Made) (w : Stage) (n : ℕ) (call : Call) (s : Subscription) → is_create call ≡ false → subscription_at n w.table.subscriptions ≡ Some s → IsMessaged made ms w.table →
    IsMessaged made (ms ++ made_at (Meets (scene_at w n call s))) (stage_after n s (fired (scene_at w n call s)) w.table).table
one_messaged made ms w n call s begins found h = record {
  rising = part_rises s.session (fired (scene_at w n call s)).part w.table.sessions h.rising;
  numbered = live_numbered made ms w n call s h.numbered found begins;
  notes = notes_after made ms w n call s h found s.session;
}
