-- What holds of a call, by its encounters: a relation between two stages and the encounters between them.
use Rattle.std.proofs.Common.{◌≡◌, ℕ, ◌+◌, Bool, true, false, cond, List, [], ◌∷◌, ◌++◌, append-nil, fold, Option, Some, None, Ok, Err, refl, sym, ap, ◌∙◌, subst}
use Rattle.std.specs.List.{AllByRecursion}
use Rattle.std.specs.Map.{keys_of}
use Rattle.std.specs.Option.{is_some, ok_or}
use Rattle.ua_types.specs.declared.moment.Moment.{Moment}
use Rattle.ua_types.specs.declared.status.Status.{Status}
use Rattle.ua_types.specs.declared.status.TheConstants.Status as status
use Rattle.ua_state_table.specs.declared.vars.Vars.{Vars}
use Rattle.ua_subscription_messages.specs.declared.publishing.SubscriptionAcknowledgement.{SubscriptionAcknowledgement}
use Rattle.ua_subscriptions.specs.declared.call.Call.{Call}
use Rattle.ua_subscriptions.specs.declared.call.Call.TheVariants as call
use Rattle.ua_subscriptions.specs.declared.publish_call.PublishCall.{PublishCall}
use Rattle.ua_subscriptions.specs.declared.session_part.TimeoutNote.{TimeoutNote}
use Rattle.ua_subscriptions.specs.declared.settings.Settings.{Settings}
use Rattle.ua_subscriptions.specs.declared.subscription.Subscription.{Subscription}
use Rattle.ua_subscriptions.specs.Ending.{session_ended, shut_down}
use Rattle.ua_subscriptions.specs.Firing.{fired}
use Rattle.ua_subscriptions.specs.Making.{revised_of, kept_at, modified, republished, refused_one, added}
use Rattle.ua_subscriptions.specs.Named.{Outcome, outcome, is_own, own_met, named_one, named_all, all_refused, has_none, deleted}
use Rattle.ua_subscriptions.specs.Publishing.{acknowledged_all, note_of, asked_by, answered_to, noted_or_answered, with_results, published, ready, asked_numbers}
use Rattle.ua_subscriptions.specs.Ranks.{due_numbers}
use Rattle.ua_subscriptions.specs.SubscriptionCalls.{stage_of, said, without_answer, is_full, refused, created_one, created}
use Rattle.ua_subscriptions.specs.Subscriptions.{vars_of}
use Rattle.ua_subscriptions.specs.Tables.{Stage, with_call, met, all_met, part_of, part_at, subscription_at, vars_by, vars_found, TableState, stage_after, scene_at, met_by}
use Rattle.subscription_laws.specs.Encounters.{Beside, CallsItems, ShowsItems, Acknowledges, Asks, TellsNote, TellsNone, Refuses, Leaves, LeavesAll, Loses, beside, Encounter, Meets, Does, meets_by, meets, is_meant, met_if, all_meet, asked_encounters, noted_encounters, made_scene, served_encounters, any_time, if_none_left, encounters}
use Rattle.subscription_laws.specs.Runs.{ItemsCall, ran_by, items_ran, Move, Ran, moved}
use Rattle.ua_subscriptions.proofs.Choosing.{either}
use Rattle.ua_subscriptions.proofs.OwingRows.{all_append}
use Rattle.ua_subscriptions.proofs.Shutdowns.{nothing_left}
use Rattle.subscription_laws.proofs.ChosenRows.{is_create}

-- ---- where a call begins, and the stage that it leaves

abbrev pub clock_of : Move → Moment
clock_of (Move.Create clock session settings enabled) = clock
clock_of (Move.Modify clock session number settings) = clock
clock_of (Move.SetMode clock session numbers enabled) = clock
clock_of (Move.Delete clock session numbers) = clock
clock_of (Move.Publish clock session asked acks) = clock
clock_of (Move.Republish clock session number wanted) = clock
clock_of (Move.Timers clock) = clock
clock_of (Move.EndSession clock session deleting) = clock
clock_of (Move.Shutdown clock) = clock
clock_of (Move.Gone conn) = any_time
clock_of (Move.Items clock number asked) = clock
clock_of (Move.Show changed) = any_time

abbrev pub entered : Ran → Move → Stage
entered r m = stage_of r.subscriptions r.items (clock_of m)

abbrev pub left_asked : List ℕ → PublishCall → Stage → Stage
left_asked [] asked w = beside w (TellsNone asked)
left_asked (n ∷ ns) asked w = all_met call.Publish (asked_by w asked) (asked_numbers w (n ∷ ns))

abbrev pub left_noted : Option TimeoutNote → ℕ → PublishCall → List SubscriptionAcknowledgement → Stage → Stage
left_noted (Some note) session asked acks w = ready session acks (beside w (TellsNote session asked note))
left_noted None session asked acks w = let v = ready session acks w in left_asked (part_at session v.table.sessions).numbers asked v

abbrev pub left_served : ℕ → Option ItemsCall → Stage → Option Vars → Stage
left_served number asked w None = w
left_served number asked w (Some vars) = met (beside w (CallsItems number asked)) number (call.Items vars)

abbrev left_deleted : ℕ → Stage → Stage
left_deleted session v = cond (has_none session v.table) (all_refused session status.BAD_NO_SUBSCRIPTION v) v

abbrev pub left : Ran → Move → Stage
left r (Move.Create clock session settings enabled) = (created session settings enabled r.subscriptions r.items clock).outcome.stage
left r (Move.Modify clock session number settings) = met_if (is_own r.subscriptions.table session number) (stage_of r.subscriptions r.items clock) number (call.Modify settings)
left r (Move.SetMode clock session numbers enabled) = (named_all session (call.SetMode enabled) (stage_of r.subscriptions r.items clock) numbers).stage
left r (Move.Delete clock session numbers) = left_deleted session (named_all session call.Delete (stage_of r.subscriptions r.items clock) numbers).stage
left r (Move.Publish clock session asked acks) =
    let w = stage_of r.subscriptions r.items clock in
    left_noted (note_of session w.table.sessions) session (with_results asked (acknowledged_all session w.table.subscriptions acks).results) acks w
left r (Move.Republish clock session number wanted) = met_if (is_own r.subscriptions.table session number) (stage_of r.subscriptions r.items clock) number (call.Republish (is_some (kept_at number wanted r.subscriptions.table)))
left r (Move.Timers clock) = all_met call.Timer (stage_of r.subscriptions r.items clock) (due_numbers clock r.subscriptions.table.subscriptions)
left r (Move.EndSession clock session deleting) =
    beside (beside (all_met (call.SessionEnd deleting) (stage_of r.subscriptions r.items clock) (part_at session r.subscriptions.table.sessions).numbers) (Refuses session status.BAD_SESSION_CLOSED)) (Leaves session)
left r (Move.Shutdown clock) = beside (all_met call.Shutdown (stage_of r.subscriptions r.items clock) (keys_of r.subscriptions.table.subscriptions)) (LeavesAll status.BAD_SHUTDOWN)
left r (Move.Gone conn) = beside (stage_of r.subscriptions r.items any_time) (Loses conn)
left r (Move.Items clock number asked) = left_served number asked (stage_of r.subscriptions r.items clock) (vars_found number r.items r.subscriptions.table)
left r (Move.Show changed) = beside (stage_of r.subscriptions r.items any_time) (ShowsItems changed)

-- ---- which is what stands after it

-- what stands after a call, by the world that it leaves
pub record IsLeft (r after : Ran) (w : Stage) : Type 0 where
  pub table : after.subscriptions.table ≡ w.table
  pub items : after.items ≡ w.items
  pub rows : after.rows ≡ r.rows ++ w.round.rows
  pub replies : after.replies ≡ r.replies ++ w.round.replies
  pub bounds : after.subscriptions.bounds ≡ r.subscriptions.bounds

said_left : {A : Type 0} → (r : Ran) (o : Outcome A) (w : Stage) → o.stage ≡ w → IsLeft r (ran_by r (said r.subscriptions o)) w
said_left r o w is = subst (IsLeft r (ran_by r (said r.subscriptions o))) is (record { table = refl; items = refl; rows = refl; replies = refl; bounds = refl })

unanswered_left : (r : Ran) (v w : Stage) → v ≡ w → IsLeft r (ran_by r (without_answer r.subscriptions v)) w
unanswered_left r v w is = subst (IsLeft r (ran_by r (without_answer r.subscriptions v))) is (record { table = refl; items = refl; rows = refl; replies = refl; bounds = refl })

either_is : {A : Type 0} → (b : Bool) (w : Stage) (n : ℕ) (asked : Call) (x y : A) → (cond b (outcome x (met w n asked)) (outcome y w)).stage ≡ met_if b w n asked
either_is true w n asked x y = refl
either_is false w n asked x y = refl

own_is : (session : ℕ) (asked : Call) (w : Stage) (n : ℕ) → (own_met session asked w n).stage ≡ met_if (is_own w.table session n) w n asked
unfolding own_met
own_is session asked w n = either_is (is_own w.table session n) w n asked status.GOOD status.BAD_SUBSCRIPTION_ID_INVALID

deleted_is : (session : ℕ) (ns : List ℕ) (w : Stage) → (deleted session w ns).stage ≡ left_deleted session (named_all session call.Delete w ns).stage
unfolding deleted
deleted_is session ns w = refl

modified_is : (session number : ℕ) (settings : Settings) (w : Stage) → (modified session number settings w).stage ≡ met_if (is_own w.table session number) w number (call.Modify settings)
unfolding modified
modified_is session number settings w = either_is (is_own w.table session number) w number (call.Modify settings) (Ok (revised_of settings)) (Err status.BAD_SUBSCRIPTION_ID_INVALID)

republished_is : (session number wanted : ℕ) (w : Stage) → (republished session number wanted w).stage ≡ met_if (is_own w.table session number) w number (call.Republish (is_some (kept_at number wanted w.table)))
unfolding republished
republished_is session number wanted w =
    let kept = kept_at number wanted w.table in
    either_is (is_own w.table session number) w number (call.Republish (is_some kept)) (ok_or kept status.BAD_MESSAGE_NOT_AVAILABLE) (Err status.BAD_SUBSCRIPTION_ID_INVALID)

asked_is : (ns : List ℕ) (asked : PublishCall) (w : Stage) → answered_to ns asked w ≡ left_asked ns asked w
unfolding answered_to
asked_is [] asked w = refl
asked_is (n ∷ ns) asked w = refl

noted_is : (note : Option TimeoutNote) (session : ℕ) (asked : PublishCall) (acks : List SubscriptionAcknowledgement) (w : Stage) → noted_or_answered note session asked (ready session acks w) ≡ left_noted note session asked acks w
noted_is (Some note) session asked acks w = refl
noted_is None session asked acks w = let v = ready session acks w in asked_is (part_at session v.table.sessions).numbers asked v

published_is : (session : ℕ) (asked : PublishCall) (acks : List SubscriptionAcknowledgement) (w : Stage) →
    published session asked acks w ≡ left_noted (note_of session w.table.sessions) session (with_results asked (acknowledged_all session w.table.subscriptions acks).results) acks w
unfolding published
published_is session asked acks w = noted_is (note_of session w.table.sessions) session (with_results asked (acknowledged_all session w.table.subscriptions acks).results) acks w

ended_is : (session : ℕ) (deleting : Bool) (w : Stage) →
    session_ended session deleting w ≡ beside (beside (all_met (call.SessionEnd deleting) w (part_at session w.table.sessions).numbers) (Refuses session status.BAD_SESSION_CLOSED)) (Leaves session)
unfolding session_ended
ended_is session deleting w = refl

shut_is : (w : Stage) → shut_down w ≡ beside (all_met call.Shutdown w (keys_of w.table.subscriptions)) (LeavesAll status.BAD_SHUTDOWN)
unfolding shut_down
shut_is w = refl

created_left : (r : Ran) (clock : Moment) (session : ℕ) (settings : Settings) (enabled : Bool) →
    IsLeft r (moved r (Move.Create clock session settings enabled)) (created session settings enabled r.subscriptions r.items clock).outcome.stage
unfolding created refused created_one
created_left r clock session settings enabled = by (is_full r.subscriptions session)
  where
    w : Stage
    w = stage_of r.subscriptions r.items clock

    by : (b : Bool) → let s = cond b (refused session settings enabled r.subscriptions w) (created_one session settings enabled r.subscriptions w) in IsLeft r (ran_by r s) s.outcome.stage
    by true = record { table = refl; items = refl; rows = refl; replies = refl; bounds = refl }
    by false = record { table = refl; items = refl; rows = refl; replies = refl; bounds = refl }

items_left : (r : Ran) (clock : Moment) (number : ℕ) (asked : Option ItemsCall) (o : Option Vars) → IsLeft r (items_ran clock number asked r o) (left_served number asked (stage_of r.subscriptions r.items clock) o)
items_left r clock number asked None = record { table = refl; items = refl; rows = sym (append-nil r.rows); replies = sym (append-nil r.replies); bounds = refl }
items_left r clock number asked (Some vars) = record { table = refl; items = refl; rows = refl; replies = refl; bounds = refl }

pub left_is : (r : Ran) (m : Move) → IsLeft r (moved r m) (left r m)
left_is r (Move.Create clock session settings enabled) = created_left r clock session settings enabled
left_is r (Move.Modify clock session number settings) =
    let w = stage_of r.subscriptions r.items clock in
    said_left r (modified session number settings w) (left r (Move.Modify clock session number settings)) (modified_is session number settings w)
left_is r (Move.SetMode clock session numbers enabled) =
    let w = stage_of r.subscriptions r.items clock in
    said_left r (named_all session (call.SetMode enabled) w numbers) (left r (Move.SetMode clock session numbers enabled)) refl
left_is r (Move.Delete clock session numbers) =
    let w = stage_of r.subscriptions r.items clock in
    said_left r (deleted session w numbers) (left r (Move.Delete clock session numbers)) (deleted_is session numbers w)
left_is r (Move.Publish clock session asked acks) =
    let w = stage_of r.subscriptions r.items clock in
    unanswered_left r (published session asked acks w) (left r (Move.Publish clock session asked acks)) (published_is session asked acks w)
left_is r (Move.Republish clock session number wanted) =
    let w = stage_of r.subscriptions r.items clock in
    said_left r (republished session number wanted w) (left r (Move.Republish clock session number wanted)) (republished_is session number wanted w)
left_is r (Move.Timers clock) =
    let w = stage_of r.subscriptions r.items clock in
    let ns = due_numbers clock r.subscriptions.table.subscriptions in
    unanswered_left r (all_met call.Timer w ns) (left r (Move.Timers clock)) refl
left_is r (Move.EndSession clock session deleting) =
    let w = stage_of r.subscriptions r.items clock in
    unanswered_left r (session_ended session deleting w) (left r (Move.EndSession clock session deleting)) (ended_is session deleting w)
left_is r (Move.Shutdown clock) =
    let w = stage_of r.subscriptions r.items clock in
    unanswered_left r (shut_down w) (left r (Move.Shutdown clock)) (shut_is w)
left_is r (Move.Gone conn) = record { table = refl; items = refl; rows = sym (append-nil r.rows); replies = sym (append-nil r.replies); bounds = refl }
left_is r (Move.Items clock number asked) = items_left r clock number asked (vars_found number r.items r.subscriptions.table)
left_is r (Move.Show changed) = record { table = refl; items = refl; rows = sym (append-nil r.rows); replies = sym (append-nil r.replies); bounds = refl }

abbrev pub makes : Move → Bool
makes (Move.Create clock session settings enabled) = true
makes m = false

pub made_stays : (r : Ran) (m : Move) → makes m ≡ false → (moved r m).subscriptions.made ≡ r.subscriptions.made
made_stays r (Move.Create clock session settings enabled) plain = absurd (cc)
made_stays r (Move.Items clock number asked) plain = by (vars_found number r.items r.subscriptions.table)
  where
    by : (o : Option Vars) → (items_ran clock number asked r o).subscriptions.made ≡ r.subscriptions.made
    by None = refl
    by (Some vars) = refl
made_stays r m plain = refl

-- ---- the principle

-- a number of no subscription
abbrev pub passed : Stage → ℕ → Call → Stage
passed w n asked = record w { round = with_call w.round n asked }

-- the items of a live subscription alone are called, the oldest note is told, and sessions are left with no subscription
abbrev pub Fits : Stage → Beside → Type 0
Fits w (CallsItems number asked) = is_some (subscription_at number w.table.subscriptions) ≡ true
Fits w (TellsNote session asked note) = note_of session w.table.sessions ≡ Some note
Fits w (LeavesAll code) = w.table.subscriptions ≡ []
Fits w b = Unit {0}

-- How a relation follows a call, but one that makes a subscription: over each encounter, and from one to the next. Something may be
-- given of the numbers that are met, which has to be given of the rest once the first was met
pub record Follows (Given : Option ℕ → Call → Stage → List ℕ → Type 0) (R : Stage → List Encounter → Stage → Type 0) : Type 0 where
  pub rest : (whose : Option ℕ) (asked : Call) (w : Stage) (n : ℕ) (ns : List ℕ) → Given whose asked w (n ∷ ns) → Given whose asked (met_if (is_meant whose w n) w n asked) ns
  pub none : (w : Stage) → R w [] w
  pub next : (w v u : Stage) (es fs : List Encounter) → R w es v → R v fs u → R w (es ++ fs) u
  pub passes : (w : Stage) (n : ℕ) (asked : Call) → R w [] (passed w n asked)
  pub aside : (w : Stage) (b : Beside) → Fits w b → R w (Does w b ∷ []) (beside w b)
  pub one : (whose : Option ℕ) (asked : Call) (w : Stage) (n : ℕ) (ns : List ℕ) (s : Subscription) → is_create asked ≡ false → Given whose asked w (n ∷ ns) → is_meant whose w n ≡ true →
      subscription_at n w.table.subscriptions ≡ Some s → R w (Meets (scene_at w n asked s) ∷ []) (stage_after n s (fired (scene_at w n asked s)) w.table)

-- and one that makes a subscription, or none, where the session holds as many as it may
pub record FollowsMaking (R : Stage → List Encounter → Stage → Type 0) : Type 0 where
  pub refuses : (session number : ℕ) (settings : Settings) (enabled : Bool) (w : Stage) → R w (Meets (made_scene true number session settings enabled w) ∷ []) (refused_one session settings enabled w)
  pub adds : (r : Ran) (clock : Moment) (session : ℕ) (settings : Settings) (enabled : Bool) → is_full r.subscriptions session ≡ false → let w = stage_of r.subscriptions r.items clock in
      R w (Meets (made_scene false (r.subscriptions.made + 1) session settings enabled w) ∷ []) (added session (r.subscriptions.made + 1) settings enabled w)

-- what has to be given where a call begins
abbrev pub Begins : (Option ℕ → Call → Stage → List ℕ → Type 0) → Ran → Move → Type 0
Begins Given r (Move.Modify clock session number settings) = Given (Some session) (call.Modify settings) (stage_of r.subscriptions r.items clock) (number ∷ [])
Begins Given r (Move.SetMode clock session numbers enabled) = Given (Some session) (call.SetMode enabled) (stage_of r.subscriptions r.items clock) numbers
Begins Given r (Move.Delete clock session numbers) = Given (Some session) call.Delete (stage_of r.subscriptions r.items clock) numbers
Begins Given r (Move.Publish clock session asked acks) =
    let v = ready session acks (stage_of r.subscriptions r.items clock) in
    note_of session r.subscriptions.table.sessions ≡ None → Given None call.Publish (asked_by v (with_results asked (acknowledged_all session r.subscriptions.table.subscriptions acks).results)) (asked_numbers v (part_at session v.table.sessions).numbers)
Begins Given r (Move.Republish clock session number wanted) = Given (Some session) (call.Republish (is_some (kept_at number wanted r.subscriptions.table))) (stage_of r.subscriptions r.items clock) (number ∷ [])
Begins Given r (Move.Timers clock) = Given None call.Timer (stage_of r.subscriptions r.items clock) (due_numbers clock r.subscriptions.table.subscriptions)
Begins Given r (Move.EndSession clock session deleting) = Given None (call.SessionEnd deleting) (stage_of r.subscriptions r.items clock) (part_at session r.subscriptions.table.sessions).numbers
Begins Given r (Move.Shutdown clock) = Given None call.Shutdown (stage_of r.subscriptions r.items clock) (keys_of r.subscriptions.table.subscriptions)
Begins Given r (Move.Items clock number asked) = (vars : Vars) → Given None (call.Items vars) (beside (stage_of r.subscriptions r.items clock) (CallsItems number asked)) (number ∷ [])
Begins Given r m = Unit {0}

module _ (Given : Option ℕ → Call → Stage → List ℕ → Type 0) (R : Stage → List Encounter → Stage → Type 0) (f : Follows Given R) where
  met_walked : (whose : Option ℕ) (asked : Call) (w : Stage) (n : ℕ) (ns : List ℕ) → is_create asked ≡ false → Given whose asked w (n ∷ ns) → is_meant whose w n ≡ true → R w (meets w n asked) (met w n asked)
  unfolding met
  met_walked whose asked w n ns plain given meant = by (subscription_at n w.table.subscriptions) refl
    where
      by : (o : Option Subscription) → subscription_at n w.table.subscriptions ≡ o → R w (meets_by w n asked o) (met_by w n asked o)
      by None found = f.passes w n asked
      by (Some s) found = f.one whose asked w n ns s plain given meant found

  if_walked : (whose : Option ℕ) (asked : Call) (w : Stage) (n : ℕ) (ns : List ℕ) → is_create asked ≡ false → Given whose asked w (n ∷ ns) → (b : Bool) → is_meant whose w n ≡ b → R w (cond b (meets w n asked) []) (met_if b w n asked)
  if_walked whose asked w n ns plain given true meant = met_walked whose asked w n ns plain given meant
  if_walked whose asked w n ns plain given false meant = f.none w

  one_walked : (session : ℕ) (asked : Call) (w : Stage) (n : ℕ) → is_create asked ≡ false → Given (Some session) asked w (n ∷ []) → R w (all_meet (Some session) asked w (n ∷ [])) (met_if (is_own w.table session n) w n asked)
  one_walked session asked w n plain given =
      let b = is_own w.table session n in
      let v = met_if b w n asked in
      f.next w v v (cond b (meets w n asked) []) [] (if_walked (Some session) asked w n [] plain given b refl) (f.none v)

  pub all_walked : (asked : Call) → is_create asked ≡ false → (ns : List ℕ) (w : Stage) → Given None asked w ns → R w (all_meet None asked w ns) (all_met asked w ns)
  all_walked asked plain [] w given = f.none w
  all_walked asked plain (n ∷ ns) w given =
      let v = met w n asked in
      f.next w v (all_met asked v ns) (meets w n asked) (all_meet None asked v ns) (met_walked None asked w n ns plain given refl) (all_walked asked plain ns v (f.rest None asked w n ns given))

  named_walked : (session : ℕ) (asked : Call) → is_create asked ≡ false → (ns : List ℕ) (before : Outcome (List Status)) → Given (Some session) asked before.stage ns →
      R before.stage (all_meet (Some session) asked before.stage ns) (fold (named_one session asked) before ns).stage
  named_walked session asked plain [] before given = f.none before.stage
  named_walked session asked plain (n ∷ ns) before given =
      let w = before.stage in
      let b = is_own w.table session n in
      let v = met_if b w n asked in
      let after = named_one session asked before n in
      let is : after.stage ≡ v = own_is session asked w n in
      f.next w v (fold (named_one session asked) after ns).stage (cond b (meets w n asked) []) (all_meet (Some session) asked v ns) (if_walked (Some session) asked w n ns plain given b refl)
      (subst (λ (u : Stage). R u (all_meet (Some session) asked u ns) (fold (named_one session asked) after ns).stage) is
      (named_walked session asked plain ns after (subst (λ (u : Stage). Given (Some session) asked u ns) (sym is) (f.rest (Some session) asked w n ns given))))

  asked_walked : (ns : List ℕ) (asked : PublishCall) (w : Stage) → Given None call.Publish (asked_by w asked) (asked_numbers w ns) → R w (asked_encounters ns asked w) (left_asked ns asked w)
  asked_walked [] asked w given = f.aside w (TellsNone asked) tt
  asked_walked (n ∷ ns) asked w given =
      let v = asked_by w asked in
      let ms = asked_numbers w (n ∷ ns) in
      f.next w v (all_met call.Publish v ms) (Does w (Asks asked) ∷ []) (all_meet None call.Publish v ms) (f.aside w (Asks asked) tt) (all_walked call.Publish refl ms v given)

  noted_walked : (note : Option TimeoutNote) (session : ℕ) (asked : PublishCall) (acks : List SubscriptionAcknowledgement) (w : Stage) → note_of session w.table.sessions ≡ note →
      (let v = ready session acks w in note ≡ None → Given None call.Publish (asked_by v asked) (asked_numbers v (part_at session v.table.sessions).numbers)) → R w (noted_encounters note session asked acks w) (left_noted note session asked acks w)
  noted_walked (Some note) session asked acks w is given =
      let v = beside w (TellsNote session asked note) in
      let b = Acknowledges session acks in
      f.next w v (beside v b) (Does w (TellsNote session asked note) ∷ []) (Does v b ∷ []) (f.aside w (TellsNote session asked note) is) (f.aside v b tt)
  noted_walked None session asked acks w is given =
      let b = Acknowledges session acks in
      let v = ready session acks w in
      let ns = (part_at session v.table.sessions).numbers in
      f.next w v (left_asked ns asked v) (Does w b ∷ []) (asked_encounters ns asked v) (f.aside w b tt) (asked_walked ns asked v (given refl))

  none_left_walked : (session : ℕ) (v : Stage) → R v (if_none_left session v) (left_deleted session v)
  none_left_walked session v = by (has_none session v.table)
    where
      by : (b : Bool) → R v (cond b (Does v (Refuses session status.BAD_NO_SUBSCRIPTION) ∷ []) []) (cond b (all_refused session status.BAD_NO_SUBSCRIPTION v) v)
      by true = f.aside v (Refuses session status.BAD_NO_SUBSCRIPTION) tt
      by false = f.none v

  served_walked : (number : ℕ) (asked : Option ItemsCall) (w : Stage) → ((vars : Vars) → Given None (call.Items vars) (beside w (CallsItems number asked)) (number ∷ [])) → (o : Option Subscription) → subscription_at number w.table.subscriptions ≡ o →
      let vars = vars_by number w.items w.table.sessions o in R w (served_encounters number asked w vars) (left_served number asked w vars)
  served_walked number asked w given None found = f.none w
  served_walked number asked w given (Some s) found =
      let b = CallsItems number asked in
      let v = beside w b in
      let vars = vars_of s (part_of s.session w.table.sessions) w.items number in
      f.next w v (met v number (call.Items vars)) (Does w b ∷ []) (meets v number (call.Items vars)) (f.aside w b (ap is_some found)) (met_walked None (call.Items vars) v number [] refl (given vars) refl)

  -- any call that makes no subscription
  pub walked_on : (r : Ran) (m : Move) → makes m ≡ false → Begins Given r m → R (entered r m) (encounters r m) (left r m)
  walked_on r (Move.Create clock session settings enabled) plain given = absurd (cc)
  walked_on r (Move.Modify clock session number settings) plain given = one_walked session (call.Modify settings) (stage_of r.subscriptions r.items clock) number refl given
  walked_on r (Move.SetMode clock session numbers enabled) plain given = named_walked session (call.SetMode enabled) refl numbers (outcome [] (stage_of r.subscriptions r.items clock)) given
  walked_on r (Move.Delete clock session numbers) plain given =
      let w = stage_of r.subscriptions r.items clock in
      let v = (named_all session call.Delete w numbers).stage in
      f.next w v (left_deleted session v) (all_meet (Some session) call.Delete w numbers) (if_none_left session v) (named_walked session call.Delete refl numbers (outcome [] w) given) (none_left_walked session v)
  walked_on r (Move.Publish clock session asked acks) plain given =
      let w = stage_of r.subscriptions r.items clock in
      noted_walked (note_of session w.table.sessions) session (with_results asked (acknowledged_all session w.table.subscriptions acks).results) acks w refl given
  walked_on r (Move.Republish clock session number wanted) plain given =
      one_walked session (call.Republish (is_some (kept_at number wanted r.subscriptions.table))) (stage_of r.subscriptions r.items clock) number refl given
  walked_on r (Move.Timers clock) plain given = all_walked call.Timer refl (due_numbers clock r.subscriptions.table.subscriptions) (stage_of r.subscriptions r.items clock) given
  walked_on r (Move.EndSession clock session deleting) plain given =
      let w = stage_of r.subscriptions r.items clock in
      let ns = (part_at session r.subscriptions.table.sessions).numbers in
      let v = all_met (call.SessionEnd deleting) w ns in
      let b = Refuses session status.BAD_SESSION_CLOSED in
      let u = beside v b in
      f.next w v (beside u (Leaves session)) (all_meet None (call.SessionEnd deleting) w ns) (Does v b ∷ Does u (Leaves session) ∷ []) (all_walked (call.SessionEnd deleting) refl ns w given)
      (f.next v u (beside u (Leaves session)) (Does v b ∷ []) (Does u (Leaves session) ∷ []) (f.aside v b tt) (f.aside u (Leaves session) tt))
  walked_on r (Move.Shutdown clock) plain given =
      let w = stage_of r.subscriptions r.items clock in
      let ns = keys_of r.subscriptions.table.subscriptions in
      let v = all_met call.Shutdown w ns in
      f.next w v (beside v (LeavesAll status.BAD_SHUTDOWN)) (all_meet None call.Shutdown w ns) (Does v (LeavesAll status.BAD_SHUTDOWN) ∷ []) (all_walked call.Shutdown refl ns w given)
      (f.aside v (LeavesAll status.BAD_SHUTDOWN) (ap (λ (x : Stage). x.table.subscriptions) (sym (shut_is w)) ∙ ap (λ (t : TableState). t.subscriptions) (nothing_left w)))
  walked_on r (Move.Gone conn) plain given = f.aside (stage_of r.subscriptions r.items any_time) (Loses conn) tt
  walked_on r (Move.Items clock number asked) plain given = served_walked number asked (stage_of r.subscriptions r.items clock) given (subscription_at number r.subscriptions.table.subscriptions) refl
  walked_on r (Move.Show changed) plain given = f.aside (stage_of r.subscriptions r.items any_time) (ShowsItems changed) tt

  module _ (g : FollowsMaking R) where
    created_walked : (r : Ran) (clock : Moment) (session : ℕ) (settings : Settings) (enabled : Bool) → let w = stage_of r.subscriptions r.items clock in
        R w (Meets (made_scene (is_full r.subscriptions session) (r.subscriptions.made + 1) session settings enabled w) ∷ []) (created session settings enabled r.subscriptions r.items clock).outcome.stage
    unfolding created refused created_one
    created_walked r clock session settings enabled = by (is_full r.subscriptions session) refl
      where
        w : Stage
        w = stage_of r.subscriptions r.items clock

        by : (b : Bool) → is_full r.subscriptions session ≡ b → R w (Meets (made_scene b (r.subscriptions.made + 1) session settings enabled w) ∷ []) (cond b (refused session settings enabled r.subscriptions w) (created_one session settings enabled r.subscriptions w)).outcome.stage
        by true is = g.refuses session (r.subscriptions.made + 1) settings enabled w
        by false is = g.adds r clock session settings enabled is

    -- any call
    pub walked : (r : Ran) (m : Move) → Begins Given r m → R (entered r m) (encounters r m) (left r m)
    walked r (Move.Create clock session settings enabled) given = created_walked r clock session settings enabled
    walked r m given = walked_on r m refl given

-- ---- where nothing need be given

abbrev pub Any : Option ℕ → Call → Stage → List ℕ → Type 0
Any whose asked w ns = Unit {0}

pub any_begins : (r : Ran) (m : Move) → Begins Any r m
any_begins r (Move.Publish clock session asked acks) = λ none. tt
any_begins r (Move.Items clock number asked) = λ vars. tt
any_begins r m = tt

-- ---- what is done beside, of each call

-- what is said of all that a call may do beside
abbrev pub DoneBy : (Beside → Type 0) → Move → Type 0
DoneBy Q (Move.Delete clock session numbers) = Q (Refuses session status.BAD_NO_SUBSCRIPTION)
DoneBy Q (Move.Publish clock session asked acks) =
    Q (Acknowledges session acks) × ((results : List Status) → let a = with_results asked results in ((note : TimeoutNote) → Q (TellsNote session a note)) × Q (TellsNone a) × Q (Asks a))
DoneBy Q (Move.EndSession clock session deleting) = Q (Refuses session status.BAD_SESSION_CLOSED) × Q (Leaves session)
DoneBy Q (Move.Shutdown clock) = Q (LeavesAll status.BAD_SHUTDOWN)
DoneBy Q (Move.Gone conn) = Q (Loses conn)
DoneBy Q (Move.Items clock number asked) = Q (CallsItems number asked)
DoneBy Q (Move.Show changed) = Q (ShowsItems changed)
DoneBy Q m = Unit {0}

abbrev pub OnBeside : (Beside → Type 0) → Encounter → Type 0
OnBeside Q (Meets c) = Unit {0}
OnBeside Q (Does w b) = Q b

-- what holds of two lists in a row holds of each
pub all_split : {X : Type 0} → (P : X → Type 0) (xs ys : List X) → AllByRecursion P (xs ++ ys) → AllByRecursion P xs × AllByRecursion P ys
all_split P [] ys h = (tt, h)
all_split P (x ∷ xs) ys h = let both = all_split P xs ys h.1 in ((h.0, both.0), both.1)

module _ (Q : Beside → Type 0) where
  meets_none : (w : Stage) (n : ℕ) (asked : Call) (b : Bool) → AllByRecursion (OnBeside Q) (cond b (meets w n asked) [])
  meets_none w n asked false = tt
  meets_none w n asked true = by (subscription_at n w.table.subscriptions)
    where
      by : (o : Option Subscription) → AllByRecursion (OnBeside Q) (meets_by w n asked o)
      by None = tt
      by (Some s) = (tt, tt)

  then_done : (es fs : List Encounter) → AllByRecursion (OnBeside Q) es → AllByRecursion (OnBeside Q) fs → AllByRecursion (OnBeside Q) (es ++ fs)
  then_done = all_append (OnBeside Q)

  pub meet_done : (whose : Option ℕ) (asked : Call) (ns : List ℕ) (w : Stage) → AllByRecursion (OnBeside Q) (all_meet whose asked w ns)
  meet_done whose asked [] w = tt
  meet_done whose asked (n ∷ ns) w =
      let b = is_meant whose w n in
      then_done (cond b (meets w n asked) []) (all_meet whose asked (met_if b w n asked) ns) (meets_none w n asked b) (meet_done whose asked ns (met_if b w n asked))

  asked_done : (ns : List ℕ) (asked : PublishCall) (w : Stage) → Q (TellsNone asked) → Q (Asks asked) → AllByRecursion (OnBeside Q) (asked_encounters ns asked w)
  asked_done [] asked w none one = (none, tt)
  asked_done (n ∷ ns) asked w none one = (one, meet_done None call.Publish (asked_numbers w (n ∷ ns)) (asked_by w asked))

  noted_done : (note : Option TimeoutNote) (session : ℕ) (asked : PublishCall) (acks : List SubscriptionAcknowledgement) (w : Stage) → Q (Acknowledges session acks) → ((note : TimeoutNote) → Q (TellsNote session asked note)) → Q (TellsNone asked) →
      Q (Asks asked) → AllByRecursion (OnBeside Q) (noted_encounters note session asked acks w)
  noted_done (Some note) session asked acks w acknowledges noted none one = (noted note, (acknowledges, tt))
  noted_done None session asked acks w acknowledges noted none one = let v = ready session acks w in (acknowledges, asked_done (part_at session v.table.sessions).numbers asked v none one)

  none_left_done : (session : ℕ) (w : Stage) → Q (Refuses session status.BAD_NO_SUBSCRIPTION) → AllByRecursion (OnBeside Q) (if_none_left session w)
  none_left_done session w h = either (AllByRecursion (OnBeside Q)) (has_none session w.table) (Does w (Refuses session status.BAD_NO_SUBSCRIPTION) ∷ []) [] (h, tt) tt

  served_done : (number : ℕ) (asked : Option ItemsCall) (w : Stage) (o : Option Vars) → Q (CallsItems number asked) → AllByRecursion (OnBeside Q) (served_encounters number asked w o)
  served_done number asked w None h = tt
  served_done number asked w (Some vars) h = (h, meets_none (beside w (CallsItems number asked)) number (call.Items vars) true)

  pub each_done : (r : Ran) (m : Move) → DoneBy Q m → AllByRecursion (OnBeside Q) (encounters r m)
  each_done r (Move.Create clock session settings enabled) h = (tt, tt)
  each_done r (Move.Modify clock session number settings) h = meet_done (Some session) (call.Modify settings) (number ∷ []) (stage_of r.subscriptions r.items clock)
  each_done r (Move.SetMode clock session numbers enabled) h = meet_done (Some session) (call.SetMode enabled) numbers (stage_of r.subscriptions r.items clock)
  each_done r (Move.Delete clock session numbers) h =
      let w = stage_of r.subscriptions r.items clock in
      let v = (named_all session call.Delete w numbers).stage in
      then_done (all_meet (Some session) call.Delete w numbers) (if_none_left session v) (meet_done (Some session) call.Delete numbers w) (none_left_done session v h)
  each_done r (Move.Publish clock session asked acks) h =
      let w = stage_of r.subscriptions r.items clock in
      let results = (acknowledged_all session w.table.subscriptions acks).results in
      let of = h.1 results in
      noted_done (note_of session w.table.sessions) session (with_results asked results) acks w h.0 of.0 of.1 of.2
  each_done r (Move.Republish clock session number wanted) h = meet_done (Some session) (call.Republish (is_some (kept_at number wanted r.subscriptions.table))) (number ∷ []) (stage_of r.subscriptions r.items clock)
  each_done r (Move.Timers clock) h = meet_done None call.Timer (due_numbers clock r.subscriptions.table.subscriptions) (stage_of r.subscriptions r.items clock)
  each_done r (Move.EndSession clock session deleting) h = then_done _ _ (meet_done None (call.SessionEnd deleting) (part_at session r.subscriptions.table.sessions).numbers (stage_of r.subscriptions r.items clock)) (h.0, (h.1, tt))
  each_done r (Move.Shutdown clock) h = then_done _ _ (meet_done None call.Shutdown (keys_of r.subscriptions.table.subscriptions) (stage_of r.subscriptions r.items clock)) (h, tt)
  each_done r (Move.Gone conn) h = (h, tt)
  each_done r (Move.Items clock number asked) h = served_done number asked (stage_of r.subscriptions r.items clock) (vars_found number r.items r.subscriptions.table) h
  each_done r (Move.Show changed) h = (h, tt)
