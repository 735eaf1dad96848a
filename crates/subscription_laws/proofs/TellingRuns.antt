-- Whatever is called, what is answered is told, and each message is brought.
use Rattle.std.proofs.Common.{◌≡◌, inl, inr, ℕ, Bool, true, false, cond, List, [], ◌∷◌, ◌++◌, append-nil, map, drop, fold, Option, Some, None, refl, sym, ap, ◌∙◌, subst, unwrap_or, ◌+◌}
use Rattle.std.proofs.lemmas.List.Concat.{flat_map-append}
use Rattle.std.specs.BTreeMap.{is_at}
use Rattle.std.specs.List.{flat_map}
use Rattle.std.specs.Map.{values_of, lookup}
use Rattle.std.specs.Ordering.{nat_cmp}
use Rattle.ua_types.specs.Configuration.{Configuration}
use Rattle.ua_types.specs.declared.moment.Moment.{Moment}
use Rattle.ua_types.specs.declared.status.Status.{Status}
use Rattle.server_messages.specs.declared.reply.Reply.{Reply}
use Rattle.ua_subscription_messages.specs.declared.publishing.SubscriptionAcknowledgement.{SubscriptionAcknowledgement}
use Rattle.ua_subscriptions.specs.declared.call.Call.{Call}
use Rattle.ua_subscriptions.specs.declared.call.Call.TheVariants as call
use Rattle.ua_subscriptions.specs.declared.publish_call.PublishCall.{PublishCall}
use Rattle.ua_subscriptions.specs.declared.session_part.SessionSubscriptions.{SessionSubscriptions}
use Rattle.ua_subscriptions.specs.declared.session_part.TimeoutNote.{TimeoutNote}
use Rattle.ua_subscriptions.specs.declared.settings.Settings.{Settings}
use Rattle.ua_subscriptions.specs.declared.subscription.Subscription.{Subscription}
use Rattle.ua_subscriptions.specs.Answers.{number_of, refused_of, published_of}
use Rattle.ua_subscriptions.specs.Ending.{all_requests}
use Rattle.ua_subscriptions.specs.Firing.{row_of, fired}
use Rattle.ua_subscriptions.specs.Making.{refused_one, added}
use Rattle.ua_subscriptions.specs.Messages.{timeout_message}
use Rattle.ua_subscriptions.specs.Named.{all_refused}
use Rattle.ua_subscriptions.specs.Publishing.{acknowledged_all, note_of, without_note, part_without_note, noted_or_answered, with_results, published, ready}
use Rattle.ua_subscriptions.specs.Queues.{first_of}
use Rattle.ua_subscriptions.specs.Scenes.{row_done}
use Rattle.ua_subscriptions.specs.SubscriptionCalls.{stage_of, is_full, refused, created_one, created}
use Rattle.ua_subscriptions.specs.Subscriptions.{no_part}
use Rattle.ua_subscriptions.specs.Tables.{Stage, part_at, subscription_at, stage_after, scene_at}
use Rattle.subscription_laws.specs.Answering.{AreBrought}
use Rattle.subscription_laws.specs.Encounters.{Beside, TellsNote, TellsNone, Refuses, LeavesAll, beside, Encounter, Meets, Does, made_scene}
use Rattle.subscription_laws.specs.Messaging.{Made, made_at, moved_made, run_made}
use Rattle.subscription_laws.specs.Runs.{Move, Ran, start, moved, run}
use Rattle.subscription_laws.specs.Tellings.{Telling, Told, Notifications, KeepAlive, TimedOut, Refused, answer_by, answer_of, message_in, messages_in, refused_told, told_at, moved_told, run_told, AreInSequence}
use Rattle.subscription_laws.proofs.ChosenRows.{is_create}
use Rattle.subscription_laws.proofs.Entries.{listed_first, some_same, set_here}
use Rattle.subscription_laws.proofs.KeepingPublish.{Answerable, CanAnswer, rest_can, publish_begins}
use Rattle.subscription_laws.proofs.MessageNotes.{IsMessaged, IsNote, AllNotes}
use Rattle.subscription_laws.proofs.RowRequests.{IsGiven, plain_given, asked_given, calm_given}
use Rattle.subscription_laws.proofs.RunMessages.{follows_numbers, created_none, IsRunNumbered, one_run, run_numbered}
use Rattle.subscription_laws.proofs.RunsKept.{IsRunKept, enter, started_run}
use Rattle.subscription_laws.proofs.RunsKept as kept
use Rattle.subscription_laws.proofs.TellingRows.{Tells, tells_none, tells_then, fired_tells}
use Rattle.subscription_laws.proofs.Walks.{makes, left, left_is, Fits, Follows, Begins, walked_on}

-- ---- what is told beside the rows

first_note : (made : ℕ) (ms : List Made) (subscriptions : List (ℕ × Subscription)) (notes : List TimeoutNote) (note : TimeoutNote) → first_of notes ≡ Some note → AllNotes made ms subscriptions notes → IsNote made ms subscriptions note
first_note made ms subscriptions [] note is h = absurd (cc)
first_note made ms subscriptions (n ∷ ns) note is h = subst (IsNote made ms subscriptions) (some_same is) h.0

refused_answers : (clock : Moment) (code : Status) (calls : List PublishCall) → map (refused_of clock code) calls ≡ map answer_of (map (refused_told clock code) calls)
refused_answers clock code [] = refl
refused_answers clock code (asked ∷ calls) = ap (λ (rs : List Reply). refused_of clock code asked ∷ rs) (refused_answers clock code calls)

refused_brings : (clock : Moment) (code : Status) (calls : List PublishCall) → messages_in (map (refused_told clock code) calls) ≡ []
refused_brings clock code [] = refl
refused_brings clock code (asked ∷ calls) = refused_brings clock code calls

refused_sequence : (clock : Moment) (code : Status) (calls : List PublishCall) (ms : List Made) → AreInSequence ms (map (refused_told clock code) calls)
refused_sequence clock code [] ms = tt
refused_sequence clock code (asked ∷ calls) ms = (tt, refused_sequence clock code calls (ms ++ []))

-- requests that wait in vain
vain_tells : (ms : List Made) (before : List Reply) (clock : Moment) (code : Status) (calls : List PublishCall) → Tells ms before (before ++ map (refused_of clock code) calls) [] (map (refused_told clock code) calls ++ [])
vain_tells ms before clock code calls =
    subst (Tells ms before (before ++ map (refused_of clock code) calls) []) (sym (append-nil (map (refused_told clock code) calls)))
    (record { so = ap (λ (rs : List Reply). before ++ rs) (refused_answers clock code calls); brings = refused_brings clock code calls; sequence = refused_sequence clock code calls ms })

beside_tells : (made : ℕ) (ms : List Made) (w : Stage) (b : Beside) → Fits w b → IsMessaged made ms w.table → Tells ms w.round.replies (beside w b).round.replies [] (flat_map told_at (Does w b ∷ []))
unfolding all_refused
beside_tells made ms w (TellsNote session asked note) fits h =
    record { so = refl; brings = refl; sequence = (((first_note made ms w.table.subscriptions (part_at session w.table.sessions).notes note fits (h.notes session)).number, refl), tt) }
beside_tells made ms w (TellsNone asked) fits h = record { so = refl; brings = refl; sequence = (tt, tt) }
beside_tells made ms w (Refuses session code) fits h = vain_tells ms w.round.replies w.round.clock code (part_at session w.table.sessions).requests
beside_tells made ms w (LeavesAll code) fits h = vain_tells ms w.round.replies w.round.clock code (all_requests (values_of w.table.sessions))
beside_tells made ms w b fits h = tells_none ms w.round.replies

-- ---- a subscription that sends at a Publish request has it

publish_given : (w : Stage) (n : ℕ) (ns : List ℕ) (s : Subscription) → subscription_at n w.table.subscriptions ≡ Some s → Answerable w (n ∷ ns) → IsGiven (row_of (scene_at w n call.Publish s)) (scene_at w n call.Publish s)
publish_given w n ns s found (inl (alone, waits, (asked, is))) = asked_given w n asked is s
publish_given w n ns s found (inr (session, made, past, a)) = calm_given w n s (a.asking.none n s found (a.of n s (listed_first n ns) found))

given_at : (w : Stage) (n : ℕ) (ns : List ℕ) (asked : Call) (s : Subscription) → subscription_at n w.table.subscriptions ≡ Some s → (asked ≡ call.Publish → Answerable w (n ∷ ns)) → IsGiven (row_of (scene_at w n asked s)) (scene_at w n asked s)
given_at w n ns asked s found h = by asked h
  where
    by : (asked : Call) → (asked ≡ call.Publish → Answerable w (n ∷ ns)) → IsGiven (row_of (scene_at w n asked s)) (scene_at w n asked s)
    by call.Publish h = publish_given w n ns s found (h refl)
    by asked h = plain_given (scene_at w n asked s) (λ is. absurd (cc))

-- ---- any call but one that makes a subscription

abbrev Tell : Stage → List Encounter → Stage → Type 0
Tell w es v = (made : ℕ) (ms : List Made) → IsMessaged made ms w.table →
    IsMessaged made (ms ++ flat_map made_at es) v.table × Tells ms w.round.replies v.round.replies (flat_map made_at es) (flat_map told_at es)

next_tells : (w v u : Stage) (es fs : List Encounter) → Tell w es v → Tell v fs u → Tell w (es ++ fs) u
next_tells w v u es fs p q made ms h =
    let x = p made ms h in
    let y = q made (ms ++ flat_map made_at es) x.0 in (
      follows_numbers.next w v u es fs (λ k ls g. (p k ls g).0) (λ k ls g. (q k ls g).0) made ms h,
      subst (λ (ls : List Made). Tells ms w.round.replies u.round.replies ls (flat_map told_at (es ++ fs))) (sym (flat_map-append made_at es fs))
          (subst (Tells ms w.round.replies u.round.replies (flat_map made_at es ++ flat_map made_at fs)) (sym (flat_map-append told_at es fs))
          (tells_then ms w.round.replies v.round.replies u.round.replies (flat_map made_at es) (flat_map made_at fs) (flat_map told_at es) (flat_map told_at fs) x.1 y.1)),
    )

one_tells : (w : Stage) (n : ℕ) (ns : List ℕ) (asked : Call) (s : Subscription) → is_create asked ≡ false → subscription_at n w.table.subscriptions ≡ Some s → (asked ≡ call.Publish → Answerable w (n ∷ ns)) →
    Tell w (Meets (scene_at w n asked s) ∷ []) (stage_after n s (fired (scene_at w n asked s)) w.table)
one_tells w n ns asked s plain found given made ms h =
    let c = Meets (scene_at w n asked s) in (
      follows_numbers.one None asked w n ns s plain tt refl found made ms h,
      subst (λ (ls : List Made). Tells ms w.round.replies (fired (scene_at w n asked s)).round.replies ls (told_at c ++ [])) (sym (append-nil (made_at c)))
          (subst (Tells ms w.round.replies (fired (scene_at w n asked s)).round.replies (made_at c)) (sym (append-nil (told_at c)))
          (fired_tells ms (scene_at w n asked s) (given_at w n ns asked s found given) (h.numbered.live n s found))),
    )

follows_tell : Follows CanAnswer Tell
follows_tell = record {
  rest = rest_can;
  none = λ w made ms h. (follows_numbers.none w made ms h, tells_none ms w.round.replies);
  next = next_tells;
  passes = λ w n asked made ms h. (follows_numbers.passes w n asked made ms h, tells_none ms w.round.replies);
  aside = λ w b fits made ms h. (follows_numbers.aside w b fits made ms h, beside_tells made ms w b fits h);
  one = λ whose asked w n ns s plain given meant found. one_tells w n ns asked s plain found (λ is. (given is).1);
}

-- where a call begins
begins : (r : Ran) (m : Move) → IsRunKept r → Begins CanAnswer r m
begins r (Move.Publish clock session asked acks) k = λ none is.
    let w = stage_of r.subscriptions r.items clock in
    (refl, publish_begins session r.subscriptions.made r.rows (with_results asked (acknowledged_all session r.subscriptions.table.subscriptions acks).results) acks w (enter r clock k))
begins r (Move.Create clock session settings enabled) k = tt
begins r (Move.Gone conn) k = tt
begins r (Move.Show changed) k = tt
begins r (Move.Items clock number asked) k = λ vars is. absurd (cc)
begins r m k = λ is. absurd (cc)

-- ---- one that makes a subscription

refused_replies : (session : ℕ) (asked : Settings) (enabled : Bool) (w : Stage) → (refused_one session asked enabled w).round.replies ≡ w.round.replies
unfolding refused_one fired row_done
refused_replies session asked enabled w = refl

added_replies : (session number : ℕ) (asked : Settings) (enabled : Bool) (w : Stage) → (added session number asked enabled w).round.replies ≡ w.round.replies
unfolding added fired row_done
added_replies session number asked enabled w = refl

created_silent : (r : Ran) (clock : Moment) (session : ℕ) (settings : Settings) (enabled : Bool) → (created session settings enabled r.subscriptions r.items clock).outcome.stage.round.replies ≡ []
unfolding created refused created_one
created_silent r clock session settings enabled = by (is_full r.subscriptions session)
  where
    w : Stage
    w = stage_of r.subscriptions r.items clock

    by : (b : Bool) → (cond b (refused session settings enabled r.subscriptions w) (created_one session settings enabled r.subscriptions w)).outcome.stage.round.replies ≡ []
    by true = refused_replies session settings enabled w
    by false = added_replies session (r.subscriptions.made + 1) settings enabled w

created_untold : (b : Bool) (number session : ℕ) (settings : Settings) (enabled : Bool) (w : Stage) → flat_map told_at (Meets (made_scene b number session settings enabled w) ∷ []) ≡ []
created_untold true number session settings enabled w = refl
created_untold false number session settings enabled w = refl

-- ---- any calls

-- a call's answers come behind those of earlier calls
left_tells : (r : Ran) (m : Move) (ms made : List Made) (told : List Telling) → Tells ms [] (left r m).round.replies made told → Tells ms r.replies (moved r m).replies made told
left_tells r m ms made told h = record { so = (left_is r m).replies ∙ ap (λ (rs : List Reply). r.replies ++ rs) h.so; brings = h.brings; sequence = h.sequence }

created_tells : (ms : List Made) (r : Ran) (clock : Moment) (session : ℕ) (settings : Settings) (enabled : Bool) → (let m = Move.Create clock session settings enabled in Tells ms r.replies (moved r m).replies (moved_made r m) (moved_told r m))
created_tells ms r clock session settings enabled =
    let m = Move.Create clock session settings enabled in
    let b = is_full r.subscriptions session in
    let w = stage_of r.subscriptions r.items clock in
    subst (λ (made : List Made). Tells ms r.replies (moved r m).replies made (moved_told r m)) (sym (created_none b (r.subscriptions.made + 1) session settings enabled w))
    (subst (Tells ms r.replies (moved r m).replies []) (sym (created_untold b (r.subscriptions.made + 1) session settings enabled w))
    (left_tells r m ms [] [] (record { so = created_silent r clock session settings enabled; brings = refl; sequence = tt })))

plain_tells : (ms : List Made) (r : Ran) (m : Move) → makes m ≡ false → IsRunKept r → IsRunNumbered ms r → Tells ms r.replies (moved r m).replies (moved_made r m) (moved_told r m)
plain_tells ms r m plain k h = left_tells r m ms (moved_made r m) (moved_told r m) (walked_on CanAnswer Tell follows_tell r m plain (begins r m k) r.subscriptions.made ms h).1

one_call : (ms : List Made) (r : Ran) (m : Move) → IsRunKept r → IsRunNumbered ms r → Tells ms r.replies (moved r m).replies (moved_made r m) (moved_told r m)
one_call ms r (Move.Create clock session settings enabled) k h = created_tells ms r clock session settings enabled
one_call ms r m k h = plain_tells ms r m refl k h

all_tells : (moves : List Move) (ms : List Made) (r : Ran) → IsRunKept r → IsRunNumbered ms r → Tells ms r.replies (fold moved r moves).replies (run_made r moves) (run_told r moves)
all_tells [] ms r k h = tells_none ms r.replies
all_tells (m ∷ moves) ms r k h =
    tells_then ms r.replies (moved r m).replies (fold moved (moved r m) moves).replies (moved_made r m) (run_made (moved r m) moves) (moved_told r m) (run_told (moved r m) moves)
    (one_call ms r m k h) (all_tells moves (ms ++ moved_made r m) (moved r m) (kept.one_run r m k) (one_run ms r m h))

run_tells : (config : Configuration) (moves : List Move) → Tells [] [] (run config moves).replies (run_made (start config) moves) (run_told (start config) moves)
run_tells config moves = all_tells moves [] (start config) (started_run config) (run_numbered config [])

pub all_are_told : (config : Configuration) (moves : List Move) → (run config moves).replies ≡ map answer_of (run_told (start config) moves)
all_are_told config moves = (run_tells config moves).so

pub messages_told : (config : Configuration) (moves : List Move) → messages_in (run_told (start config) moves) ≡ run_made (start config) moves
messages_told config moves = (run_tells config moves).brings

pub numbers_follow : (config : Configuration) (moves : List Move) → AreInSequence [] (run_told (start config) moves)
numbers_follow config moves = (run_tells config moves).sequence

-- ---- each message is brought by an answer of its own

brought_behind : (reply : Reply) (rs : List Reply) (ms : List Made) → AreBrought rs ms → AreBrought (reply ∷ rs) ms
brought_behind reply rs [] h = tt
brought_behind reply rs (m ∷ ms) h = inr h

told_brought : (ts : List Telling) → AreBrought (map answer_of ts) (messages_in ts)
told_brought [] = tt
told_brought (t ∷ ts) = by t.told (told_brought ts)
  where
    by : (told : Told) → AreBrought (map answer_of ts) (messages_in ts) → AreBrought (answer_by t.clock t.call t.kept told ∷ map answer_of ts) (message_in told ++ messages_in ts)
    by (Notifications m more) h = inl (record { clock = t.clock; call = t.call; kept = map number_of t.kept; more = more; so = refl }, h)
    by (KeepAlive subscription number) h = brought_behind _ (map answer_of ts) (messages_in ts) h
    by (TimedOut note) h = brought_behind _ (map answer_of ts) (messages_in ts) h
    by (Refused code) h = brought_behind _ (map answer_of ts) (messages_in ts) h

-- what was answered since, and that it brings these
pub record AreAnswered (before after : List Reply) (ms : List Made) : Type 0 where
  pub more : List Reply
  pub so : after ≡ before ++ more
  pub brought : AreBrought more ms

pub all_answers : (moves : List Move) (ms : List Made) (r : Ran) → IsRunKept r → IsRunNumbered ms r → AreAnswered r.replies (fold moved r moves).replies (run_made r moves)
all_answers moves ms r k n =
    let h = all_tells moves ms r k n in
    record { more = map answer_of (run_told r moves); so = h.so; brought = subst (AreBrought (map answer_of (run_told r moves))) h.brings (told_brought (run_told r moves)) }

pub messages_brought : (config : Configuration) (moves : List Move) → AreBrought (run config moves).replies (run_made (start config) moves)
messages_brought config moves =
    let h = all_answers moves [] (start config) (started_run config) (run_numbered config []) in
    subst (λ (rs : List Reply). AreBrought rs (run_made (start config) moves)) (sym h.so) h.brought

-- ---- the note of a time-out

module _ (r : Ran) (clock : Moment) (session : ℕ) (asked : PublishCall) (acks : List SubscriptionAcknowledgement) (note : TimeoutNote) (is : note_of session r.subscriptions.table.sessions ≡ Some note) where
  pub note_answers : (moved r (Move.Publish clock session asked acks)).replies
      ≡ r.replies ++ published_of clock (with_results asked (acknowledged_all session r.subscriptions.table.subscriptions acks).results) note.subscription [] false (timeout_message note.number clock) ∷ []
  unfolding published
  note_answers =
      let w = stage_of r.subscriptions r.items clock in
      let all = acknowledged_all session r.subscriptions.table.subscriptions acks in
      ap (λ (o : Option TimeoutNote). r.replies ++ (noted_or_answered o session (with_results asked all.results) (ready session acks w)).round.replies) is

  taken_by : (part_at session (without_note session r.subscriptions.table.sessions)).notes ≡ drop 1 (part_at session r.subscriptions.table.sessions).notes
  taken_by = by (lookup (is_at (nat_cmp session)) r.subscriptions.table.sessions) refl
    where
      part : SessionSubscriptions
      part = part_at session r.subscriptions.table.sessions

      by : (o : Option SessionSubscriptions) → lookup (is_at (nat_cmp session)) r.subscriptions.table.sessions ≡ o → (part_at session (without_note session r.subscriptions.table.sessions)).notes ≡ drop 1 part.notes
      by None none = let nothing : first_of {A = TimeoutNote} [] ≡ Some note = sym (ap (λ (x : Option SessionSubscriptions). first_of (unwrap_or x no_part).notes) none) ∙ is in absurd (cc)
      by (Some old) found = ap (λ (x : Option SessionSubscriptions). (unwrap_or x no_part).notes) (set_here session old (part_without_note part) r.subscriptions.table.sessions found)

  pub note_taken : (part_at session (moved r (Move.Publish clock session asked acks)).subscriptions.table.sessions).notes ≡ drop 1 (part_at session r.subscriptions.table.sessions).notes
  unfolding published
  note_taken =
      let w = stage_of r.subscriptions r.items clock in
      let all = acknowledged_all session r.subscriptions.table.subscriptions acks in
      ap (λ (o : Option TimeoutNote). (part_at session (noted_or_answered o session (with_results asked all.results) (ready session acks w)).table.sessions).notes) is ∙ taken_by
