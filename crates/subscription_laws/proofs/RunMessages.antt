-- The messages of any calls are numbered without a gap.
use Rattle.std.proofs.Common.{◌≡◌, ℕ, ◌+◌, ◌≤◌, arith, Bool, true, false, cond, List, [], ◌∷◌, ◌++◌, append-nil, append_assoc, fold, Option, Some, None, Ok, Err, refl, sym, ap, ◌∙◌, subst}
use Rattle.std.proofs.lemmas.Bool.{eqb-true}
use Rattle.std.proofs.lemmas.List.Concat.{flat_map-append}
use Rattle.std.specs.List.{flat_map}
use Rattle.std.specs.Prelude.{find}
use Rattle.std.specs.BTreeMap.{insert_entry, is_at}
use Rattle.std.specs.Map.{set_value, remove_entry}
use Rattle.std.specs.Option.{is_some, ok_or}
use Rattle.std.specs.Ordering.{nat_cmp}
use Rattle.ua_types.specs.Configuration.{Configuration}
use Rattle.ua_types.specs.declared.moment.Moment.{Moment}
use Rattle.ua_types.specs.declared.status.Status.{Status}
use Rattle.ua_types.specs.declared.status.TheConstants.Status as status
use Rattle.ua_subscriptions.specs.declared.call.Call.{Call}
use Rattle.ua_subscriptions.specs.declared.call.Call.TheVariants as call
use Rattle.ua_subscriptions.specs.declared.messages.KeptMessage.{KeptMessage}
use Rattle.ua_subscriptions.specs.declared.session_part.TimeoutNote.{TimeoutNote}
use Rattle.ua_subscriptions.specs.declared.settings.Settings.{Settings}
use Rattle.ua_subscriptions.specs.declared.subscription.Subscription.{Subscription}
use Rattle.ua_subscriptions.specs.Ending.{without_session, without_conn}
use Rattle.ua_subscriptions.specs.Firing.{fired}
use Rattle.ua_subscriptions.specs.Messages.{has_number}
use Rattle.ua_subscriptions.specs.Making.{kept_at, republished, refused_one, added, bytes_of, kept_bytes_by, with_number}
use Rattle.subscription_laws.specs.Messaging.{Made, made_at, moved_made, run_made, messages_for, AreAmong, AreItsMessages, IsAmong, AreNotes}
use Rattle.ua_subscriptions.specs.Named.{outcome, is_own, all_refused, without_requests}
use Rattle.subscription_laws.specs.Numbering.{AreNumbered}
use Rattle.ua_subscriptions.specs.Publishing.{without_kept, acknowledged_all, without_note, part_without_note}
use Rattle.subscription_laws.specs.Encounters.{Beside, Acknowledges, Refuses, Leaves, LeavesAll, Loses, beside, Encounter, Meets, Does, made_scene}
use Rattle.subscription_laws.specs.Runs.{Move, Ran, start, ran_by, moved, run}
use Rattle.ua_subscriptions.specs.Scenes.{row_done}
use Rattle.ua_subscriptions.specs.SubscriptionCalls.{stage_of, is_full, refused, created_one, created}
use Rattle.ua_subscriptions.specs.Tables.{Stage, met, part_at, subscription_at, TableState, stage_after, scene_at}
use Rattle.ua_subscriptions.specs.declared.session_part.SessionSubscriptions.{SessionSubscriptions}
use Rattle.ua_subscriptions.proofs.Choosing.{either}
use Rattle.ua_subscriptions.proofs.OwingRows.{all_dropped}
use Rattle.subscription_laws.proofs.Acknowledgements.{all_acknowledged}
use Rattle.subscription_laws.proofs.Folds.{all_so}
use Rattle.subscription_laws.proofs.KeepingParts.{of_set, of_gone, of_put, conn_fewer, conn_part}
use Rattle.subscription_laws.proofs.ChosenRows.{is_create}
use Rattle.subscription_laws.proofs.Entries.{each_set, each_put, some_same, set_other, rising_set, put_other, rising_put, rising_gone}
use Rattle.subscription_laws.proofs.KeepingMade.{added_start}
use Rattle.subscription_laws.proofs.MessageLists.{forgotten_among}
use Rattle.subscription_laws.proofs.MessageNotes.{IsNote, AllNotes, IsMessaged, all_notes, note_apart, fired_same_notes, one_messaged}
use Rattle.subscription_laws.proofs.MessagesKept.{IsNumbered}
use Rattle.subscription_laws.proofs.Walks.{makes, left_is, made_stays, Follows, Any, any_begins, walked_on}

-- ---- what is done beside

-- one session has another part, with notes that it had
part_messaged : (made : ℕ) (ms : List Made) (t : TableState) (session : ℕ) (part : SessionSubscriptions) → AllNotes made ms t.subscriptions part.notes → IsMessaged made ms t →
    IsMessaged made ms (record { subscriptions = t.subscriptions; sessions = set_value (is_at (nat_cmp session)) t.sessions part })
part_messaged made ms t session part notes h = record {
  rising = rising_set session part t.sessions h.rising;
  numbered = h.numbered;
  notes = of_set session part t.sessions (λ (k : ℕ) (p : SessionSubscriptions). AllNotes made ms t.subscriptions p.notes) notes h.notes;
}

refused_numbered : (made : ℕ) (ms : List Made) (session : ℕ) (code : Status) (w : Stage) → IsMessaged made ms w.table → IsMessaged made ms (all_refused session code w).table
unfolding all_refused
refused_numbered made ms session code w h = part_messaged made ms w.table session (without_requests (part_at session w.table.sessions)) (h.notes session) h

-- nothing of a session is left
without_numbered : (made : ℕ) (ms : List Made) (session : ℕ) (w : Stage) → IsMessaged made ms w.table → IsMessaged made ms (without_session session w).table
without_numbered made ms session w h = record {
  rising = rising_gone session w.table.sessions h.rising;
  numbered = h.numbered;
  notes = of_gone session w.table.sessions h.rising (λ (k : ℕ) (p : SessionSubscriptions). AllNotes made ms w.table.subscriptions p.notes) tt (λ k other. h.notes k);
}

-- the requests that came by a connection wait no more
gone_numbered : (made : ℕ) (ms : List Made) (conn : ℕ) (t : TableState) → IsMessaged made ms t → IsMessaged made ms (without_conn conn t)
gone_numbered made ms conn t h = record {
  rising = (conn_fewer conn t.sessions).rising h.rising;
  numbered = h.numbered;
  notes = λ k. subst (λ (p : SessionSubscriptions). AllNotes made ms t.subscriptions p.notes) (sym (conn_part conn k t.sessions)) (h.notes k);
}

-- ---- one that is made

begun_number : (session number : ℕ) (asked : Settings) (enabled : Bool) (w : Stage) → let s = (fired (added_start session number asked enabled w)).subscription in (s.number ≡ 0) × (s.kept ≡ [])
unfolding fired row_done
begun_number session number asked enabled w = (refl, refl)

made_numbered : (made : ℕ) (ms : List Made) (subscriptions : List (ℕ × Subscription)) (s : Subscription) → s.number ≡ 0 → s.kept ≡ [] → IsNumbered made ms subscriptions →
    IsNumbered (made + 1) ms (insert_entry nat_cmp subscriptions (made + 1) s)
made_numbered made ms subscriptions s first none h = record {
  rising = rising_put (made + 1) s subscriptions h.rising;
  given = each_put (made + 1) s subscriptions (λ (n : ℕ) (u : Subscription). n ≤ made + 1) (omega arith) (λ n u other found. let most : n ≤ made = h.given n u found in omega (arith, most));
  fresh = λ n above. h.fresh n (omega (arith, above));
  numbered = h.numbered;
  live = each_put (made + 1) s subscriptions (λ (n : ℕ) (u : Subscription). AreItsMessages u (messages_for n ms)) its (λ n u other. h.live n u);
}
  where
    its : AreItsMessages s (messages_for (made + 1) ms)
    its = subst (AreItsMessages s) (sym (h.fresh (made + 1) (omega arith))) (record { last = sym first; kept = subst (λ (ks : List KeptMessage). AreAmong ks []) (sym none) tt })

note_stays : (made : ℕ) (ms : List Made) (subscriptions : List (ℕ × Subscription)) (s : Subscription) (note : TimeoutNote) → IsNote made ms subscriptions note →
    IsNote (made + 1) ms (insert_entry nat_cmp subscriptions (made + 1) s) note
note_stays made ms subscriptions s note h =
    let most : note.subscription ≤ made = h.given in
    record { number = h.number; over = put_other (made + 1) note.subscription s (λ same. absurd (omega (arith, most, same))) subscriptions ∙ h.over; given = omega (arith, most) }

added_numbered : (made : ℕ) (ms : List Made) (session : ℕ) (asked : Settings) (enabled : Bool) (w : Stage) → IsMessaged made ms w.table →
    IsMessaged (made + 1) ms (added session (made + 1) asked enabled w).table
unfolding added
added_numbered made ms session asked enabled w h =
    let c = added_start session (made + 1) asked enabled w in
    let b = begun_number session (made + 1) asked enabled w in
    let after = insert_entry nat_cmp w.table.subscriptions (made + 1) (fired c).subscription in
    let old : (k : ℕ) → AllNotes (made + 1) ms after (part_at k w.table.sessions).notes = λ k.
    all_so (IsNote made ms w.table.subscriptions) (IsNote (made + 1) ms after) (note_stays made ms w.table.subscriptions (fired c).subscription) (part_at k w.table.sessions).notes (h.notes k) in
    record {
      rising = rising_put session (with_number (made + 1) (fired c).part) (remove_entry (is_at (nat_cmp session)) w.table.sessions) (rising_gone session w.table.sessions h.rising);
      numbered = made_numbered made ms w.table.subscriptions (fired c).subscription b.0 b.1 h.numbered;
      notes = of_put session (with_number (made + 1) (fired c).part) w.table.sessions (λ (k : ℕ) (p : SessionSubscriptions). AllNotes (made + 1) ms after p.notes)
          (subst (AllNotes (made + 1) ms after) (sym (fired_same_notes c refl)) (old session)) (λ k other. old k);
    }

refused_one_same : (session : ℕ) (asked : Settings) (enabled : Bool) (w : Stage) → (refused_one session asked enabled w).table ≡ w.table
unfolding refused_one
refused_one_same session asked enabled w = refl

-- ---- Publish

module _ (made : ℕ) (ms : List Made) (subscriptions : List (ℕ × Subscription)) (n : ℕ) (s : Subscription) (number : ℕ) (h : IsNumbered made ms subscriptions) (found : subscription_at n subscriptions ≡ Some s) where
  was_live : (k : ℕ) (u : Subscription) → subscription_at k (set_value (is_at (nat_cmp n)) subscriptions (without_kept number s)) ≡ Some u → (k ≤ made) × AreItsMessages u (messages_for k ms)
  was_live =
      let was = h.live n s found in
      each_set n s (without_kept number s) subscriptions found (λ (k : ℕ) (u : Subscription). (k ≤ made) × AreItsMessages u (messages_for k ms))
      (h.given n s found, record { last = was.last; kept = forgotten_among number s.kept (messages_for n ms) was.kept }) (λ k u before. (h.given k u before, h.live k u before))

  acknowledged_one : IsNumbered made ms (set_value (is_at (nat_cmp n)) subscriptions (without_kept number s))
  acknowledged_one = record {
    rising = rising_set n (without_kept number s) subscriptions h.rising;
    given = λ k u after. (was_live k u after).0;
    fresh = h.fresh;
    numbered = h.numbered;
    live = λ k u after. (was_live k u after).1;
  }

abbrev pub with_table : List (ℕ × SessionSubscriptions) → List (ℕ × Subscription) → TableState
with_table sessions subscriptions = record { subscriptions = subscriptions; sessions = sessions }

note_acknowledged : (made : ℕ) (ms : List Made) (subscriptions : List (ℕ × Subscription)) (n : ℕ) (s : Subscription) (number : ℕ) → subscription_at n subscriptions ≡ Some s → (note : TimeoutNote) →
    IsNote made ms subscriptions note → IsNote made ms (set_value (is_at (nat_cmp n)) subscriptions (without_kept number s)) note
note_acknowledged made ms subscriptions n s number found note h = record {
  number = h.number;
  over = set_other n note.subscription (without_kept number s) (note_apart made ms subscriptions note n s h found) subscriptions ∙ h.over;
  given = h.given;
}

message_forgotten : (made : ℕ) (ms : List Made) (sessions : List (ℕ × SessionSubscriptions)) (subscriptions : List (ℕ × Subscription)) (n number : ℕ) (s : Subscription) → subscription_at n subscriptions ≡ Some s →
    IsMessaged made ms (with_table sessions subscriptions) → IsMessaged made ms (with_table sessions (set_value (is_at (nat_cmp n)) subscriptions (without_kept number s)))
message_forgotten made ms sessions subscriptions n number s found h = record {
  rising = h.rising;
  numbered = acknowledged_one made ms subscriptions n s number h.numbered found;
  notes = λ k. all_so (IsNote made ms subscriptions) (IsNote made ms (set_value (is_at (nat_cmp n)) subscriptions (without_kept number s)))
      (note_acknowledged made ms subscriptions n s number found) (part_at k sessions).notes (h.notes k);
}

pub note_removed : (made : ℕ) (ms : List Made) (session : ℕ) (t : TableState) → IsMessaged made ms t → IsMessaged made ms (with_table (without_note session t.sessions) t.subscriptions)
note_removed made ms session t h =
    part_messaged made ms t session (part_without_note (part_at session t.sessions)) (all_dropped (IsNote made ms t.subscriptions) (part_at session t.sessions).notes (h.notes session)) h

-- ---- any call but one that makes a subscription

none_more : (made : ℕ) (ms : List Made) (t : TableState) → IsMessaged made ms t → IsMessaged made (ms ++ []) t
none_more made ms t h = subst (λ (xs : List Made). IsMessaged made xs t) (sym (append-nil ms)) h

abbrev pub Numbers : Stage → List Encounter → Stage → Type 0
Numbers w es v = (made : ℕ) (ms : List Made) → IsMessaged made ms w.table → IsMessaged made (ms ++ flat_map made_at es) v.table

beside_numbers : (w : Stage) (b : Beside) → Numbers w (Does w b ∷ []) (beside w b)
beside_numbers w (Acknowledges session acks) made ms h =
    let numbered = all_acknowledged session (λ (subscriptions : List (ℕ × Subscription)). IsMessaged made ms (with_table w.table.sessions subscriptions))
    (λ subscriptions n number s found its k. message_forgotten made ms w.table.sessions subscriptions n number s found k) acks w.table.subscriptions h in
    none_more made ms _ (note_removed made ms session (with_table w.table.sessions (acknowledged_all session w.table.subscriptions acks).subscriptions) numbered)
beside_numbers w (Refuses session code) made ms h = none_more made ms _ (refused_numbered made ms session code w h)
beside_numbers w (Leaves session) made ms h = none_more made ms _ (without_numbered made ms session w h)
beside_numbers w (LeavesAll code) made ms h = none_more made ms _ (record { rising = tt; numbered = h.numbered; notes = λ k. tt })
beside_numbers w (Loses conn) made ms h = none_more made ms _ (gone_numbered made ms conn w.table h)
beside_numbers w b made ms h = none_more made ms w.table h

next_numbers : (w v u : Stage) (es fs : List Encounter) → Numbers w es v → Numbers v fs u → Numbers w (es ++ fs) u
next_numbers w v u es fs p q made ms h =
    subst (λ (xs : List Made). IsMessaged made xs u.table) (append_assoc ms (flat_map made_at es) (flat_map made_at fs) ∙ ap (λ (xs : List Made). ms ++ xs) (sym (flat_map-append made_at es fs)))
    (q made (ms ++ flat_map made_at es) (p made ms h))

one_numbers : (w : Stage) (n : ℕ) (asked : Call) (s : Subscription) → is_create asked ≡ false → subscription_at n w.table.subscriptions ≡ Some s →
    Numbers w (Meets (scene_at w n asked s) ∷ []) (stage_after n s (fired (scene_at w n asked s)) w.table)
one_numbers w n asked s plain found made ms h =
    subst (λ (xs : List Made). IsMessaged made (ms ++ xs) (stage_after n s (fired (scene_at w n asked s)) w.table).table) (sym (append-nil (made_at (Meets (scene_at w n asked s))))) (one_messaged made ms w n asked s plain found h)

pub follows_numbers : Follows Any Numbers
follows_numbers = record {
  rest = λ whose asked w n ns given. tt;
  none = λ w made ms h. none_more made ms w.table h;
  next = next_numbers;
  passes = λ w n asked made ms h. none_more made ms w.table h;
  aside = λ w b fits. beside_numbers w b;
  one = λ whose asked w n ns s plain given meant found. one_numbers w n asked s plain found;
}

-- ---- any calls

abbrev pub IsRunNumbered : List Made → Ran → Type 0
IsRunNumbered ms r = IsMessaged r.subscriptions.made ms r.subscriptions.table

created_run : (ms : List Made) (r : Ran) (clock : Moment) (session : ℕ) (settings : Settings) (enabled : Bool) → IsRunNumbered ms r → IsRunNumbered ms (ran_by r (created session settings enabled r.subscriptions r.items clock))
unfolding created refused created_one
created_run ms r clock session settings enabled h =
    let w = stage_of r.subscriptions r.items clock in
    either (λ s. IsRunNumbered ms (ran_by r s)) (is_full r.subscriptions session) (refused session settings enabled r.subscriptions w) (created_one session settings enabled r.subscriptions w)
    (subst (IsMessaged r.subscriptions.made ms) (sym (refused_one_same session settings enabled w)) h) (added_numbered r.subscriptions.made ms session settings enabled w h)

pub created_none : (b : Bool) (number session : ℕ) (settings : Settings) (enabled : Bool) (w : Stage) → flat_map made_at (Meets (made_scene b number session settings enabled w) ∷ []) ≡ []
created_none true number session settings enabled w = refl
created_none false number session settings enabled w = refl

plain_run : (ms : List Made) (r : Ran) (m : Move) → makes m ≡ false → IsRunNumbered ms r → IsRunNumbered (ms ++ moved_made r m) (moved r m)
plain_run ms r m plain h =
    subst (λ (made : ℕ). IsMessaged made (ms ++ moved_made r m) (moved r m).subscriptions.table) (sym (made_stays r m plain))
    (subst (IsMessaged r.subscriptions.made (ms ++ moved_made r m)) (sym (left_is r m).table) (walked_on Any Numbers follows_numbers r m plain (any_begins r m) r.subscriptions.made ms h))

pub one_run : (ms : List Made) (r : Ran) (m : Move) → IsRunNumbered ms r → IsRunNumbered (ms ++ moved_made r m) (moved r m)
one_run ms r (Move.Create clock session settings enabled) h =
    subst (λ (xs : List Made). IsRunNumbered (ms ++ xs) (moved r (Move.Create clock session settings enabled))) (sym (created_none (is_full r.subscriptions session) (r.subscriptions.made + 1) session settings enabled (stage_of r.subscriptions r.items clock)))
    (none_more _ ms _ (created_run ms r clock session settings enabled h))
one_run ms r m h = plain_run ms r m refl h

all_run : (moves : List Move) (ms : List Made) (r : Ran) → IsRunNumbered ms r → IsRunNumbered (ms ++ run_made r moves) (fold moved r moves)
all_run [] ms r h = none_more r.subscriptions.made ms r.subscriptions.table h
all_run (m ∷ moves) ms r h =
    subst (λ (xs : List Made). IsRunNumbered xs (fold moved r (m ∷ moves))) (append_assoc ms (moved_made r m) (run_made (moved r m) moves))
    (all_run moves (ms ++ moved_made r m) (moved r m) (one_run ms r m h))

pub run_numbered : (config : Configuration) (moves : List Move) → IsRunNumbered (run_made (start config) moves) (run config moves)
run_numbered config moves = all_run moves [] (start config) (record {
  rising = tt;
  numbered = record { rising = tt; given = λ n s found. absurd (cc); fresh = λ n above. refl; numbered = λ n. tt; live = λ n s found. absurd (cc) };
  notes = λ k. tt;
})

pub messages_numbered : (config : Configuration) (moves : List Move) (number : ℕ) → AreNumbered 0 (messages_for number (run_made (start config) moves))
messages_numbered config moves number = (run_numbered config moves).numbered.numbered number

pub messages_live : (config : Configuration) (moves : List Move) (number : ℕ) (s : Subscription) → subscription_at number (run config moves).subscriptions.table.subscriptions ≡ Some s →
    AreItsMessages s (messages_for number (run_made (start config) moves))
messages_live config moves number s found = (run_numbered config moves).numbered.live number s found

pub messages_noted : (config : Configuration) (moves : List Move) (session : ℕ) → AreNotes (run_made (start config) moves) (part_at session (run config moves).subscriptions.table.sessions).notes
messages_noted config moves session =
    let r = run config moves in
    all_notes r.subscriptions.made (run_made (start config) moves) r.subscriptions.table.subscriptions (part_at session r.subscriptions.table.sessions).notes ((run_numbered config moves).notes session)

-- ---- what is given again

found_among : (wanted : ℕ) (kept messages : List KeptMessage) (m : KeptMessage) → find (has_number wanted) kept ≡ Some m → AreAmong kept messages → (m.number ≡ wanted) × IsAmong m messages
found_among wanted [] messages m found h = absurd (cc)
found_among wanted (k ∷ ks) messages m found h = by (has_number wanted k) refl found (λ e. found_among wanted ks messages m e h.1)
  where
    by : (b : Bool) → has_number wanted k ≡ b → cond b (Some k) (find (has_number wanted) ks) ≡ Some m → (find (has_number wanted) ks ≡ Some m → (m.number ≡ wanted) × IsAmong m messages) → (m.number ≡ wanted) × IsAmong m messages
    by true is e more = subst (λ (x : KeptMessage). (x.number ≡ wanted) × IsAmong x messages) (some_same e) (eqb-true k.number wanted is, h.0)
    by false is e more = more e

message_is : (m : KeptMessage) (wanted : ℕ) (bytes : List ℕ) → m.number ≡ wanted → m.bytes ≡ bytes → m ≡ record { number = wanted; bytes = bytes }
message_is m wanted bytes e f = rw (sym e, sym f) refl

bytes_among : (wanted : ℕ) (kept messages : List KeptMessage) (bytes : List ℕ) → bytes_of (find (has_number wanted) kept) ≡ Some bytes → AreAmong kept messages → IsAmong (record { number = wanted; bytes = bytes }) messages
bytes_among wanted kept messages bytes given h = by (find (has_number wanted) kept) refl given
  where
    by : (o : Option KeptMessage) → find (has_number wanted) kept ≡ o → bytes_of o ≡ Some bytes → IsAmong (record { number = wanted; bytes = bytes }) messages
    by None found e = absurd (cc)
    by (Some m) found e =
        let f = found_among wanted kept messages m found h in
        subst (λ (x : KeptMessage). IsAmong x messages) (message_is m wanted bytes f.0 (some_same e)) f.1

pub messages_kept : (config : Configuration) (moves : List Move) (number wanted : ℕ) (bytes : List ℕ) → kept_at number wanted (run config moves).subscriptions.table ≡ Some bytes →
    IsAmong (record { number = wanted; bytes = bytes }) (messages_for number (run_made (start config) moves))
messages_kept config moves number wanted bytes given = by (subscription_at number (run config moves).subscriptions.table.subscriptions) refl given
  where
    by : (o : Option Subscription) → subscription_at number (run config moves).subscriptions.table.subscriptions ≡ o → kept_bytes_by wanted o ≡ Some bytes → IsAmong (record { number = wanted; bytes = bytes }) (messages_for number (run_made (start config) moves))
    by None found e = absurd (cc)
    by (Some s) found e = bytes_among wanted s.kept (messages_for number (run_made (start config) moves)) bytes e (messages_live config moves number s found).kept

-- Republish gives what is kept
given_again : (session number wanted : ℕ) (bytes : List ℕ) (w : Stage) → (republished session number wanted w).answer ≡ Ok bytes → kept_at number wanted w.table ≡ Some bytes
unfolding republished
given_again session number wanted bytes w given = by (is_own w.table session number) (kept_at number wanted w.table) given
  where
    by : (b : Bool) (o : Option (List ℕ)) →
        (cond b (outcome (ok_or o status.BAD_MESSAGE_NOT_AVAILABLE) (met w number (call.Republish (is_some o)))) (outcome (Err status.BAD_SUBSCRIPTION_ID_INVALID) w)).answer ≡ Ok bytes → o ≡ Some bytes
    by true None e = absurd (cc)
    by true (Some x) e = cc
    by false o e = absurd (cc)

pub messages_given_again : (config : Configuration) (moves : List Move) (clock : Moment) (session number wanted : ℕ) (bytes : List ℕ) → let r = run config moves in
    (republished session number wanted (stage_of r.subscriptions r.items clock)).answer ≡ Ok bytes → IsAmong (record { number = wanted; bytes = bytes }) (messages_for number (run_made (start config) moves))
messages_given_again config moves clock session number wanted bytes given =
    let r = run config moves in
    messages_kept config moves number wanted bytes (given_again session number wanted bytes (stage_of r.subscriptions r.items clock) given)
