-- Any calls keep what every call keeps.
use Rattle.std.proofs.Common.{◌≡◌, ℕ, ◌+◌, arith, Bool, true, false, List, [], ◌∷◌, ◌++◌, append-nil, Option, Some, None, refl, sym, ap, ◌∙◌, inl, subst}
use Rattle.std.specs.List.{AllByRecursion}
use Rattle.ua_types.specs.Configuration.{Configuration}
use Rattle.ua_types.specs.declared.moment.Moment.{Moment}
use Rattle.ua_types.specs.declared.status.Status.{Status}
use Rattle.server_messages.specs.declared.fired.Fired.{Fired}
use Rattle.ua_subscriptions.specs.declared.call.Call.{Call}
use Rattle.ua_subscriptions.specs.declared.call.Call.TheVariants as call
use Rattle.ua_subscriptions.specs.declared.settings.Settings.{Settings}
use Rattle.ua_subscriptions.specs.declared.subscription.Subscription.{Subscription}
use Rattle.subscription_laws.specs.Calm.{ListsItsOwn, AreLists, IsCalm}
use Rattle.ua_subscriptions.specs.Ending.{session_ended}
use Rattle.ua_subscriptions.specs.Firing.{fired}
use Rattle.ua_subscriptions.specs.Publishing.{acknowledged_all, with_results}
use Rattle.subscription_laws.specs.Encounters.{Beside, CallsItems, ShowsItems, Acknowledges, Refuses, Leaves, LeavesAll, Loses, beside, Encounter}
use Rattle.subscription_laws.specs.Runs.{ItemsCall, Move, Ran, start, ran_by, items_ran, moved, run, items_asked}
use Rattle.ua_subscriptions.specs.SubscriptionCalls.{stage_of, without_answer, is_full, refused, created_one, created}
use Rattle.ua_subscriptions.specs.Tables.{Stage, vars_by, part_of, subscription_at, stage_after, scene_at}
use Rattle.ua_subscriptions.specs.Subscriptions.{vars_of}
use Rattle.ua_subscriptions.proofs.Choosing.{either}
use Rattle.subscription_laws.proofs.Folds.{fold_keeps}
use Rattle.subscription_laws.proofs.Keeping.{IsKept, live_plain}
use Rattle.subscription_laws.proofs.KeepingItems.{shown_calm, served_apart, served_kept}
use Rattle.subscription_laws.proofs.KeepingMade.{refused_one_kept, added_kept}
use Rattle.subscription_laws.proofs.KeepingEnds.{refused_kept, ended_kept}
use Rattle.subscription_laws.proofs.KeepingParts.{fewer_calm, parts_kept, conn_fewer}
use Rattle.subscription_laws.proofs.KeepingPublish.{CanAnswer, rest_can, publish_begins, ready_kept, live_publish}
use Rattle.subscription_laws.proofs.Settling.{none_behind}
use Rattle.subscription_laws.proofs.Walks.{clock_of, left_is, makes, made_stays, Fits, Follows, Begins, walked_on, DoneBy, OnBeside, all_split, each_done}

-- what holds after any calls
pub record IsRunKept (r : Ran) : Type 0 where
  pub calm : IsCalm r.rows r.subscriptions.table r.items
  pub own : (session : ℕ) → ListsItsOwn r.subscriptions.table session
  pub within : AreLists r.subscriptions.made r.subscriptions.table

-- ---- one call

pub enter : (r : Ran) (clock : Moment) → IsRunKept r → IsKept None r.subscriptions.made r.rows (stage_of r.subscriptions r.items clock)
enter r clock k = record {
  calm = subst (λ (rows : List Fired). IsCalm rows r.subscriptions.table r.items) (sym (append-nil r.rows)) k.calm;
  own = λ j other. k.own j;
  within = k.within;
}

leave : (r : Ran) (w : Stage) → IsKept None r.subscriptions.made r.rows w → IsRunKept (ran_by r (without_answer r.subscriptions w))
leave r w k = record { calm = k.calm; own = λ j. k.own j (λ e. absurd (cc)); within = k.within }

-- CreateSubscription
created_run : (r : Ran) (clock : Moment) (session : ℕ) (settings : Settings) (enabled : Bool) → IsRunKept r → IsRunKept (ran_by r (created session settings enabled r.subscriptions r.items clock))
unfolding created refused created_one
created_run r clock session settings enabled k =
    let w = stage_of r.subscriptions r.items clock in
    let none = refused_one_kept r.subscriptions.made r.rows session settings enabled w (enter r clock k) in
    let one = added_kept r.subscriptions.made r.rows session (r.subscriptions.made + 1) settings enabled w (omega arith) (enter r clock k) in
    either (λ s. IsRunKept (ran_by r s)) (is_full r.subscriptions session) (refused session settings enabled r.subscriptions w) (created_one session settings enabled r.subscriptions w)
    (record { calm = none.calm; own = λ j. none.own j (λ e. absurd (cc)); within = none.within }) (record { calm = one.calm; own = λ j. one.own j (λ e. absurd (cc)); within = one.within })

-- the items of a subscription are served
items_run : (r : Ran) (clock : Moment) (number : ℕ) (asked : Option ItemsCall) (s : Subscription) → subscription_at number r.subscriptions.table.subscriptions ≡ Some s → IsRunKept r →
    IsRunKept (items_ran clock number asked r (Some (vars_of s (part_of s.session r.subscriptions.table.sessions) r.items number)))
items_run r clock number asked s found k =
    let after = items_asked r.items number asked in
    leave r _
    (served_kept r.subscriptions.made r.rows (stage_of r.subscriptions after clock) r.items number s (subst (λ (rows : List Fired). IsCalm rows r.subscriptions.table r.items) (sym (append-nil r.rows)) k.calm)
    (λ j other. k.own j) k.within (served_apart number asked r.items) found)

items_found : (r : Ran) (clock : Moment) (number : ℕ) (asked : Option ItemsCall) → IsRunKept r → (o : Option Subscription) → subscription_at number r.subscriptions.table.subscriptions ≡ o →
    IsRunKept (items_ran clock number asked r (vars_by number r.items r.subscriptions.table.sessions o))
items_found r clock number asked k None found = k
items_found r clock number asked k (Some s) found = items_run r clock number asked s found k

-- ---- calls that end no session and serve no items

abbrev is_quiet : Call → Bool
is_quiet (call.Create full settings enabled) = false
is_quiet (call.Items before) = false
is_quiet (call.SessionEnd deleting) = false
is_quiet asked = true

abbrev Quiet : Option ℕ → Call → Stage → List ℕ → Type 0
Quiet whose asked w ns = (is_quiet asked ≡ true) × CanAnswer whose asked w ns

abbrev IsQuiet : Beside → Type 0
IsQuiet (CallsItems number asked) = ⊥
IsQuiet (Leaves session) = ⊥
IsQuiet b = Unit {0}

module _ (made : ℕ) (past : List Fired) where
  one_quiet : (whose : Option ℕ) (asked : Call) (w : Stage) (n : ℕ) (ns : List ℕ) (s : Subscription) → is_quiet asked ≡ true → CanAnswer whose asked w (n ∷ ns) → subscription_at n w.table.subscriptions ≡ Some s →
      IsKept None made past w → IsKept None made past (stage_after n s (fired (scene_at w n asked s)) w.table)
  one_quiet whose (call.Create full settings enabled) w n ns s quiet can found k = absurd (cc)
  one_quiet whose (call.Items before) w n ns s quiet can found k = absurd (cc)
  one_quiet whose (call.SessionEnd deleting) w n ns s quiet can found k = absurd (cc)
  one_quiet whose call.Publish w n ns s quiet can found k = live_publish made past w n ns s (can refl).1 found k
  one_quiet whose asked w n ns s quiet can found k = live_plain None made past w n asked s refl (inl refl) found k

  none_left : (code : Status) (w : Stage) → w.table.subscriptions ≡ [] → IsKept None made past w → IsKept None made past (beside w (LeavesAll code))
  none_left code w none k = record {
    calm = fewer_calm (past ++ w.round.rows) w.table w.items [] tt (λ m s j found own. let clash : None ≡ Some s = sym (ap (subscription_at m) none) ∙ found in absurd (cc)) (λ j any. absurd (cc)) k.calm;
    own = λ j other m listed. absurd (cc);
    within = record { within = λ m j listed. absurd (cc); rising = λ j. tt };
  }

  beside_quiet : (w : Stage) (b : Beside) → Fits w b → IsQuiet b → IsKept None made past w → IsKept None made past (beside w b)
  beside_quiet w (CallsItems number asked) fits quiet k = absurd quiet
  beside_quiet w (ShowsItems changed) fits quiet k = record { calm = shown_calm (past ++ w.round.rows) w.table w.items changed k.calm; own = k.own; within = k.within }
  beside_quiet w (Acknowledges session acks) fits quiet k = ready_kept session made past acks w k
  beside_quiet w (Refuses session code) fits quiet k = refused_kept None made past session code w k
  beside_quiet w (Leaves session) fits quiet k = absurd quiet
  beside_quiet w (LeavesAll code) fits quiet k = none_left code w fits k
  beside_quiet w (Loses conn) fits quiet k = parts_kept None made past w _ (conn_fewer conn w.table.sessions) k
  beside_quiet w b fits quiet k = record { calm = k.calm; own = k.own; within = k.within }

  abbrev StaysKept : Stage → List Encounter → Stage → Type 0
  StaysKept w es v = AllByRecursion (OnBeside IsQuiet) es → IsKept None made past w → IsKept None made past v

  follows_kept : Follows Quiet StaysKept
  follows_kept = record {
    rest = λ whose asked w n ns given. (given.0, rest_can whose asked w n ns given.1);
    none = λ w quiet k. k;
    next = λ w v u es fs p q quiet k. let both = all_split (OnBeside IsQuiet) es fs quiet in q both.1 (p both.0 k);
    passes = λ w n asked quiet k. record { calm = k.calm; own = k.own; within = k.within };
    aside = λ w b fits quiet k. beside_quiet w b fits quiet.0 k;
    one = λ whose asked w n ns s plain given meant found quiet k. one_quiet whose asked w n ns s given.0 given.1 found k;
  }

quiet_run : (r : Ran) (m : Move) → makes m ≡ false → DoneBy IsQuiet m → Begins Quiet r m → IsRunKept r → IsRunKept (moved r m)
quiet_run r m plain done given k =
    let v = walked_on Quiet (StaysKept r.subscriptions.made r.rows) (follows_kept r.subscriptions.made r.rows) r m plain given (each_done IsQuiet r m done) (enter r (clock_of m) k) in
    let is = left_is r m in
    record {
      calm = rw (is.rows, is.table, is.items) v.calm;
      own = λ j. rw is.table (v.own j (λ e. absurd (cc)));
      within = rw (is.table, made_stays r m plain) v.within;
    }

pub one_run : (r : Ran) (m : Move) → IsRunKept r → IsRunKept (moved r m)
one_run r (Move.Create clock session settings enabled) k = created_run r clock session settings enabled k
one_run r (Move.Delete clock session numbers) k = quiet_run r (Move.Delete clock session numbers) refl tt (refl, λ is. absurd (cc)) k
one_run r (Move.Publish clock session asked acks) k =
    let request = with_results asked (acknowledged_all session r.subscriptions.table.subscriptions acks).results in
    quiet_run r (Move.Publish clock session asked acks) refl (tt, λ results. ((λ note. tt), tt, tt))
    (λ none. (refl, λ is. (refl, publish_begins session r.subscriptions.made r.rows request acks (stage_of r.subscriptions r.items clock) (enter r clock k)))) k
one_run r (Move.EndSession clock session deleting) k =
    leave r (session_ended session deleting (stage_of r.subscriptions r.items clock)) (ended_kept session r.subscriptions.made r.rows deleting (stage_of r.subscriptions r.items clock) (enter r clock k))
one_run r (Move.Shutdown clock) k = quiet_run r (Move.Shutdown clock) refl tt (refl, λ is. absurd (cc)) k
one_run r (Move.Gone conn) k = quiet_run r (Move.Gone conn) refl tt tt k
one_run r (Move.Items clock number asked) k = items_found r clock number asked k (subscription_at number r.subscriptions.table.subscriptions) refl
one_run r (Move.Show changed) k = quiet_run r (Move.Show changed) refl tt tt k
one_run r m k = quiet_run r m refl tt (refl, λ is. absurd (cc)) k

-- ---- all calls

pub started_run : (config : Configuration) → IsRunKept (start config)
started_run config = record {
  calm = record {
    listed = record { subscriptions = tt; sessions = tt; listed = λ n s k found own. absurd (cc) };
    steady = λ n s found. absurd (cc);
    lives = λ n s found. absurd (cc);
    lawful = λ before f rest is. absurd (none_behind f before rest is);
    reached = record { config = config; moves = []; left = refl };
  };
  own = λ k n listed. absurd (cc);
  within = record { within = λ n k listed. absurd (cc); rising = λ k. tt };
}

pub run_kept : (config : Configuration) (moves : List Move) → IsRunKept (run config moves)
run_kept config moves = fold_keeps IsRunKept moved one_run moves (start config) (started_run config)
