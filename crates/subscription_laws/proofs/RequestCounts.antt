-- No Publish request is answered that didn't come, and none twice.
use Rattle.std.proofs.Common.{◌≡◌, ℕ, ◌+◌, ◌≤◌, arith, Bool, true, false, cond, List, [], ◌∷◌, ◌++◌, map, filter, drop, fold, nat_le, length, Option, Some, None, unwrap_or, refl, ap, ◌∙◌}
use Rattle.std.specs.BTreeMap.{insert_entry, is_at}
use Rattle.std.specs.List.{AllByRecursion}
use Rattle.std.specs.Map.{values_of, lookup, set_value, remove_entry}
use Rattle.std.specs.Ordering.{nat_cmp, match_ordering}
use Rattle.std.specs.declared.cmp.Ordering.{Ordering}
use Rattle.std.specs.declared.cmp.Ordering.TheVariants.{Less, Equal, Greater}
use Rattle.ua_types.specs.Configuration.{Configuration}
use Rattle.ua_types.specs.declared.moment.Moment.{Moment}
use Rattle.ua_types.specs.declared.status.Status.{Status}
use Rattle.server_messages.specs.declared.origin.Origin.{Origin}
use Rattle.server_messages.specs.declared.reply.Reply.{Reply}
use Rattle.ua_subscription_messages.specs.declared.publishing.SubscriptionAcknowledgement.{SubscriptionAcknowledgement}
use Rattle.ua_state_table.specs.StateTable.{actions_of}
use Rattle.ua_state_table.specs.declared.action.Action.{Action}
use Rattle.ua_state_table.specs.declared.action.Action.TheVariants.{Enqueue, Dequeue, SendNotifications, SendKeepAlive}
use Rattle.ua_subscriptions.specs.declared.call.Call.{Call}
use Rattle.ua_subscriptions.specs.declared.call.Call.TheVariants as call
use Rattle.ua_subscriptions.specs.declared.publish_call.PublishCall.{PublishCall}
use Rattle.ua_subscriptions.specs.declared.session_part.SessionSubscriptions.{SessionSubscriptions}
use Rattle.ua_subscriptions.specs.declared.session_part.TimeoutNote.{TimeoutNote}
use Rattle.ua_subscriptions.specs.declared.settings.Settings.{Settings}
use Rattle.ua_subscriptions.specs.declared.subscription.Subscription.{Subscription}
use Rattle.ua_subscriptions.specs.declared.round.Round.{Round}
use Rattle.ua_subscriptions.specs.Answers.{refused_of}
use Rattle.ua_subscriptions.specs.Ending.{came_by_other, all_requests, all_left, entry_without_conn}
use Rattle.ua_subscriptions.specs.Firing.{row_of, fired}
use Rattle.ua_subscriptions.specs.Making.{refused_one, refused_scene, added, added_scene, with_number}
use Rattle.ua_subscriptions.specs.Named.{all_refused, without_requests}
use Rattle.ua_subscriptions.specs.Publishing.{acknowledged_all, note_of, part_without_note, asked_by, with_results, ready, asked_numbers}
use Rattle.ua_subscriptions.specs.Queues.{first_of}
use Rattle.ua_subscriptions.specs.Scenes as scenes
use Rattle.ua_subscriptions.specs.Scenes.{Scene, Noting, Queueing, Sending, noting, sending, note_sent, rest_sent, notes_sent, with_asked, with_refused, enqueued, enqueued_by, counted, subscription_noted, message_made, done, all_done, row_done}
use Rattle.ua_subscriptions.specs.SubscriptionCalls.{stage_of}
use Rattle.ua_subscriptions.specs.Subscriptions.{no_part}
use Rattle.ua_subscriptions.specs.Tables.{TableState, Stage, part_at, part_of, set_part, stage_after, scene_at}
use Rattle.subscription_laws.specs.Requests.{one_if, such_calls, such_waiting, such_answers, came_by, such_came}
use Rattle.ua_subscriptions.proofs.Choosing.{either}
use Rattle.subscription_laws.proofs.Walks.{left, left_is, Follows, FollowsMaking, Any, any_begins, walked, DoneBy, OnBeside, meet_done, each_done}
use Rattle.subscription_laws.specs.Runs.{Move, Ran, start, moved, run}
use Rattle.subscription_laws.specs.Encounters.{Beside, Acknowledges, Asks, TellsNote, TellsNone, Refuses, Leaves, LeavesAll, Loses, beside, Encounter, Meets, Does, all_meet, asked_encounters, noted_encounters, encounters}

module _ (such : Origin → Bool) where
  -- ---- lists

  answers-append : (xs ys : List Reply) → such_answers such (xs ++ ys) ≡ such_answers such xs + such_answers such ys
  answers-append [] ys = omega arith
  answers-append (x ∷ xs) ys = let h : such_answers such (xs ++ ys) ≡ such_answers such xs + such_answers such ys = answers-append xs ys in omega (arith, h)

  calls-append : (xs ys : List PublishCall) → such_calls such (xs ++ ys) ≡ such_calls such xs + such_calls such ys
  calls-append [] ys = omega arith
  calls-append (x ∷ xs) ys = let h : such_calls such (xs ++ ys) ≡ such_calls such xs + such_calls such ys = calls-append xs ys in omega (arith, h)

  all_same : (clock : Moment) (code : Status) (calls : List PublishCall) → such_answers such (map (refused_of clock code) calls) ≡ such_calls such calls
  all_same clock code [] = refl
  all_same clock code (x ∷ xs) = ap (λ (n : ℕ). one_if (such x.origin) + n) (all_same clock code xs)

  -- ---- a round, and what a row sees

  abbrev asked_one : Option PublishCall → ℕ
  asked_one None = 0
  asked_one (Some asked) = one_if (such asked.origin)

  abbrev of_round : Round → ℕ
  of_round round = such_answers such round.replies + asked_one round.asked

  abbrev of_scene : Scene → ℕ
  of_scene c = of_round c.round + such_calls such c.part.requests

  answered_less : (o : Option PublishCall) (round : Round) (s : Subscription) (more : Bool) (message : List ℕ) → round.asked ≡ o → of_round (scenes.answered_by o round s more message) ≤ of_round round
  answered_less None round s more message is = omega arith
  answered_less (Some asked) round s more message is =
      let one : asked_one round.asked ≡ one_if (such asked.origin) = ap asked_one is in
      let sum : such_answers such (scenes.answered_by (Some asked) round s more message).replies ≡ such_answers such round.replies + (one_if (such asked.origin) + 0) = answers-append round.replies _ in
      omega (arith, one, sum)

  note_less : (n : Noting) → of_round (note_sent n).round ≤ of_round n.round
  unfolding note_sent
  note_less n =
      let after = subscription_noted n.round n.subscription n.items in
      answered_less n.round.asked (counted n.round) after after.more (message_made n.round n.subscription n.items) refl

  abbrev of_sending : Sending → ℕ
  of_sending s = of_round s.noting.round + such_calls such s.requests

  rest_less : (calls : List PublishCall) (n : Noting) → of_sending (rest_sent calls n) ≤ of_round n.round + such_calls such calls
  rest_less [] n = omega arith
  rest_less (asked ∷ calls) n = by n.subscription.more (rest_less calls (note_sent (with_asked n asked))) (note_less (with_asked n asked))
    where
      next : Noting
      next = note_sent (with_asked n asked)

      by : (more : Bool) → of_sending (rest_sent calls next) ≤ of_round next.round + such_calls such calls → of_round next.round ≤ such_answers such n.round.replies + one_if (such asked.origin) →
          of_sending (cond more (rest_sent calls next) (sending n (asked ∷ calls))) ≤ of_round n.round + (one_if (such asked.origin) + such_calls such calls)
      by true h k = omega (arith, h, k)
      by false h k = omega arith

  notes_less : (calls : List PublishCall) (n : Noting) → of_sending (notes_sent calls n) ≤ of_round n.round + such_calls such calls
  unfolding notes_sent
  notes_less calls n =
      let h : of_sending (rest_sent calls (note_sent n)) ≤ of_round (note_sent n).round + such_calls such calls = rest_less calls (note_sent n) in
      let k : of_round (note_sent n).round ≤ of_round n.round = note_less n in
      omega (arith, h, k)

  abbrev of_queueing : Queueing → ℕ
  of_queueing q = of_round q.round + such_calls such q.part.requests

  enqueued_less : (round : Round) (part : SessionSubscriptions) → of_queueing (enqueued round part) ≤ of_round round + such_calls such part.requests
  unfolding enqueued
  enqueued_less round part = by round.asked refl
    where
      full : (asked : PublishCall) (calls : List PublishCall) → round.asked ≡ Some asked →
          of_round (with_refused (record round { asked = None }) (first_of calls)) + such_calls such (drop 1 calls ++ asked ∷ []) ≤ of_round round + such_calls such calls
      full asked [] is = let one : asked_one round.asked ≡ one_if (such asked.origin) = ap asked_one is in omega (arith, one)
      full asked (x ∷ xs) is =
          let one : asked_one round.asked ≡ one_if (such asked.origin) = ap asked_one is in
          let sum : such_answers such (with_refused (record round { asked = None }) (Some x)).replies ≡ such_answers such round.replies + (one_if (such x.origin) + 0) = answers-append round.replies _ in
          let queue : such_calls such (xs ++ asked ∷ []) ≡ such_calls such xs + (one_if (such asked.origin) + 0) = calls-append xs (asked ∷ []) in
          omega (arith, one, sum, queue)

      room : (asked : PublishCall) → round.asked ≡ Some asked → such_answers such round.replies + 0 + such_calls such (part.requests ++ asked ∷ []) ≤ of_round round + such_calls such part.requests
      room asked is =
          let one : asked_one round.asked ≡ one_if (such asked.origin) = ap asked_one is in
          let queue : such_calls such (part.requests ++ asked ∷ []) ≡ such_calls such part.requests + (one_if (such asked.origin) + 0) = calls-append part.requests (asked ∷ []) in
          omega (arith, one, queue)

      by : (o : Option PublishCall) → round.asked ≡ o → of_queueing (enqueued_by o round part) ≤ of_round round + such_calls such part.requests
      by None is = omega arith
      by (Some asked) is = either (λ (q : Queueing). of_queueing q ≤ of_round round + such_calls such part.requests) (nat_le round.bounds.publish_queue (length part.requests)) _ _ (full asked part.requests is) (room asked is)

  dequeued_less : (calls : List PublishCall) → asked_one (first_of calls) + such_calls such (drop 1 calls) ≤ such_calls such calls
  dequeued_less [] = omega arith
  dequeued_less (x ∷ xs) = omega arith

  done_less : (c : Scene) (action : Action) → of_scene (done c action) ≤ of_scene c
  done_less c Enqueue = enqueued_less c.round c.part
  done_less c Dequeue = let h : asked_one (first_of c.part.requests) + such_calls such (drop 1 c.part.requests) ≤ such_calls such c.part.requests = dequeued_less c.part.requests in omega (arith, h)
  done_less c SendNotifications = notes_less c.part.requests (noting c.round c.subscription c.items)
  done_less c SendKeepAlive =
      let h : of_round (done c SendKeepAlive).round ≤ of_round c.round = answered_less c.round.asked (counted c.round) _ _ _ refl in
      omega (arith, h)
  done_less c action = omega arith

  all_less : (actions : List Action) (c : Scene) → of_scene (all_done c actions) ≤ of_scene c
  all_less [] c = omega arith
  all_less (action ∷ actions) c =
      let h : of_scene (all_done (done c action) actions) ≤ of_scene (done c action) = all_less actions (done c action) in
      let k : of_scene (done c action) ≤ of_scene c = done_less c action in
      omega (arith, h, k)

  fired_less : (c : Scene) → of_scene (fired c) ≤ of_scene c
  unfolding fired row_done
  fired_less c = all_less (actions_of (row_of c)) c

  -- ---- what a subscription meets

  abbrev of_stage : Stage → ℕ
  of_stage w = of_round w.round + such_waiting such w.table.sessions

  set_less : (k : ℕ) (part : SessionSubscriptions) (sessions : List (ℕ × SessionSubscriptions)) →
      such_waiting such (set_value (is_at (nat_cmp k)) sessions part) + such_calls such (part_at k sessions).requests ≤ such_waiting such sessions + such_calls such part.requests
  set_less k part [] = omega arith
  set_less k part (e ∷ sessions) = by (is_at (nat_cmp k) e.0) (set_less k part sessions)
    where
      by : (here : Bool) → such_waiting such (set_value (is_at (nat_cmp k)) sessions part) + such_calls such (part_at k sessions).requests ≤ such_waiting such sessions + such_calls such part.requests →
          such_waiting such (cond here ((e.0, part) ∷ sessions) (e ∷ set_value (is_at (nat_cmp k)) sessions part)) + such_calls such (unwrap_or (cond here (Some e.1) (lookup (is_at (nat_cmp k)) sessions)) no_part).requests
          ≤ such_calls such e.1.requests + such_waiting such sessions + such_calls such part.requests
      by true h = omega arith
      by false h = omega (arith, h)

  part_less : (o : Option ℕ) (part : SessionSubscriptions) (sessions : List (ℕ × SessionSubscriptions)) →
      such_waiting such (set_part o sessions part) + such_calls such (part_of o sessions).requests ≤ such_waiting such sessions + such_calls such part.requests
  part_less None part sessions = omega arith
  part_less (Some k) part sessions = set_less k part sessions

  one_less : (w : Stage) (n : ℕ) (asked : Call) (s : Subscription) → of_stage (stage_after n s (fired (scene_at w n asked s)) w.table) ≤ of_stage w
  one_less w n asked s =
      let d = fired (scene_at w n asked s) in
      let h : of_scene d ≤ of_round w.round + such_calls such (part_of s.session w.table.sessions).requests = fired_less (scene_at w n asked s) in
      let k : such_waiting such (set_part s.session w.table.sessions d.part) + such_calls such (part_of s.session w.table.sessions).requests ≤ such_waiting such w.table.sessions + such_calls such d.part.requests =
      part_less s.session d.part w.table.sessions in
      omega (arith, h, k)

  -- ---- what is done beside

  refused_less : (session : ℕ) (code : Status) (w : Stage) → of_stage (all_refused session code w) ≤ of_stage w
  unfolding all_refused
  refused_less session code w =
      let part = part_at session w.table.sessions in
      let given = map (refused_of w.round.clock code) part.requests in
      let sum : such_answers such (w.round.replies ++ given) ≡ such_answers such w.round.replies + such_answers such given = answers-append w.round.replies given in
      let same : such_answers such given ≡ such_calls such part.requests = all_same w.round.clock code part.requests in
      let set : such_waiting such (set_value (is_at (nat_cmp session)) w.table.sessions (without_requests part)) + such_calls such part.requests ≤ such_waiting such w.table.sessions + 0 = set_less session (without_requests part) w.table.sessions in
      omega (arith, sum, same, set)

  removed_less : (k : ℕ) (sessions : List (ℕ × SessionSubscriptions)) → such_waiting such (remove_entry (is_at (nat_cmp k)) sessions) + such_calls such (part_at k sessions).requests ≤ such_waiting such sessions
  removed_less k [] = omega arith
  removed_less k (e ∷ sessions) = by (is_at (nat_cmp k) e.0) (removed_less k sessions)
    where
      by : (here : Bool) → such_waiting such (remove_entry (is_at (nat_cmp k)) sessions) + such_calls such (part_at k sessions).requests ≤ such_waiting such sessions →
          such_waiting such (cond here sessions (e ∷ remove_entry (is_at (nat_cmp k)) sessions)) + such_calls such (unwrap_or (cond here (Some e.1) (lookup (is_at (nat_cmp k)) sessions)) no_part).requests
          ≤ such_calls such e.1.requests + such_waiting such sessions
      by true h = omega arith
      by false h = omega (arith, h)

  -- all that wait are answered
  all_waiting : (sessions : List (ℕ × SessionSubscriptions)) → such_calls such (all_requests (values_of sessions)) ≡ such_waiting such sessions
  all_waiting [] = refl
  all_waiting (e ∷ sessions) = calls-append e.1.requests (all_requests (values_of sessions)) ∙ ap (λ (n : ℕ). such_calls such e.1.requests + n) (all_waiting sessions)

  all_left_less : (code : Status) (w : Stage) → of_stage (all_left code w) ≤ of_stage w
  all_left_less code w =
      let calls = all_requests (values_of w.table.sessions) in
      let sum : such_answers such (w.round.replies ++ map (refused_of w.round.clock code) calls) ≡ such_answers such w.round.replies + such_answers such (map (refused_of w.round.clock code) calls) = answers-append w.round.replies (map (refused_of w.round.clock code) calls) in
      let same : such_answers such (map (refused_of w.round.clock code) calls) ≡ such_waiting such w.table.sessions = all_same w.round.clock code calls ∙ all_waiting w.table.sessions in
      omega (arith, sum, same)

  fewer_calls : (conn : ℕ) (calls : List PublishCall) → such_calls such (filter (came_by_other conn) calls) ≤ such_calls such calls
  fewer_calls conn [] = omega arith
  fewer_calls conn (x ∷ xs) =
      let h = fewer_calls conn xs in
      either (λ (calls : List PublishCall). such_calls such calls ≤ one_if (such x.origin) + such_calls such xs) (came_by_other conn x) (x ∷ filter (came_by_other conn) xs) (filter (came_by_other conn) xs) (omega (arith, h)) (omega (arith, h))

  gone_less : (conn : ℕ) (sessions : List (ℕ × SessionSubscriptions)) → such_waiting such (map (entry_without_conn conn) sessions) ≤ such_waiting such sessions
  gone_less conn [] = omega arith
  gone_less conn (e ∷ sessions) =
      let h : such_waiting such (map (entry_without_conn conn) sessions) ≤ such_waiting such sessions = gone_less conn sessions in
      let k : such_calls such (filter (came_by_other conn) e.1.requests) ≤ such_calls such e.1.requests = fewer_calls conn e.1.requests in
      omega (arith, h, k)

  -- ---- one that is made

  refused_one_less : (session : ℕ) (asked : Settings) (enabled : Bool) (w : Stage) → of_stage (refused_one session asked enabled w) ≤ of_stage w
  unfolding refused_one
  refused_one_less session asked enabled w =
      let h : of_scene (refused_scene session asked enabled w) ≤ of_round w.round + 0 = fired_less _ in
      omega (arith, h)

  put_less : (k : ℕ) (part : SessionSubscriptions) (sessions : List (ℕ × SessionSubscriptions)) → such_waiting such (insert_entry nat_cmp sessions k part) ≤ such_waiting such sessions + such_calls such part.requests
  put_less k part [] = omega arith
  put_less k part (e ∷ sessions) = by (nat_cmp k e.0) (put_less k part sessions)
    where
      by : (o : Ordering) → such_waiting such (insert_entry nat_cmp sessions k part) ≤ such_waiting such sessions + such_calls such part.requests →
          such_waiting such (match_ordering o ((k, part) ∷ e ∷ sessions) ((e.0, part) ∷ sessions) (e ∷ insert_entry nat_cmp sessions k part))
          ≤ such_calls such e.1.requests + such_waiting such sessions + such_calls such part.requests
      by Less h = omega arith
      by Equal h = omega arith
      by Greater h = omega (arith, h)

  added_less : (session number : ℕ) (asked : Settings) (enabled : Bool) (w : Stage) → of_stage (added session number asked enabled w) ≤ of_stage w
  unfolding added
  added_less session number asked enabled w =
      let d = added_scene session number asked enabled w in
      let rest = remove_entry (is_at (nat_cmp session)) w.table.sessions in
      let h : of_scene d ≤ of_round w.round + such_calls such (part_at session w.table.sessions).requests = fired_less _ in
      let k : such_waiting such rest + such_calls such (part_at session w.table.sessions).requests ≤ such_waiting such w.table.sessions = removed_less session w.table.sessions in
      let g : such_waiting such (insert_entry nat_cmp rest session (with_number number d.part)) ≤ such_waiting such rest + such_calls such d.part.requests = put_less session (with_number number d.part) rest in
      omega (arith, h, k, g)

  -- ---- the requests that come

  abbrev asked_beside : Beside → ℕ
  asked_beside (Asks asked) = one_if (such asked.origin)
  asked_beside (TellsNote session asked note) = one_if (such asked.origin)
  asked_beside (TellsNone asked) = one_if (such asked.origin)
  asked_beside b = 0

  abbrev asked_at : Encounter → ℕ
  asked_at (Meets c) = 0
  asked_at (Does w b) = asked_beside b

  abbrev such_asked : List Encounter → ℕ
  such_asked [] = 0
  such_asked (e ∷ es) = asked_at e + such_asked es

  asked-append : (es fs : List Encounter) → such_asked (es ++ fs) ≡ such_asked es + such_asked fs
  asked-append [] fs = omega arith
  asked-append (e ∷ es) fs = let h : such_asked (es ++ fs) ≡ such_asked es + such_asked fs = asked-append es fs in omega (arith, h)

  abbrev AsksNone : Beside → Type 0
  AsksNone b = asked_beside b ≡ 0

  none_asked : (es : List Encounter) → AllByRecursion (OnBeside AsksNone) es → such_asked es ≡ 0
  none_asked [] h = refl
  none_asked (Meets c ∷ es) h = let rest : such_asked es ≡ 0 = none_asked es h.1 in omega (arith, rest)
  none_asked (Does w b ∷ es) h = let first : asked_beside b ≡ 0 = h.0 in let rest : such_asked es ≡ 0 = none_asked es h.1 in omega (arith, first, rest)

  asked_once : (ns : List ℕ) (asked : PublishCall) (w : Stage) → such_asked (asked_encounters ns asked w) ≤ one_if (such asked.origin)
  asked_once [] asked w = omega arith
  asked_once (n ∷ ns) asked w =
      let met = all_meet None call.Publish (asked_by w asked) (asked_numbers w (n ∷ ns)) in
      let h : such_asked met ≡ 0 = none_asked met (meet_done AsksNone None call.Publish (asked_numbers w (n ∷ ns)) (asked_by w asked)) in
      omega (arith, h)

  noted_once : (note : Option TimeoutNote) (session : ℕ) (asked : PublishCall) (acks : List SubscriptionAcknowledgement) (w : Stage) → such_asked (noted_encounters note session asked acks w) ≤ one_if (such asked.origin)
  noted_once (Some note) session asked acks w = omega arith
  noted_once None session asked acks w = let v = ready session acks w in let h : such_asked (asked_encounters (part_at session v.table.sessions).numbers asked v) ≤ one_if (such asked.origin) = asked_once (part_at session v.table.sessions).numbers asked v in omega (arith, h)

  none_comes : (r : Ran) (m : Move) → DoneBy AsksNone m → such_asked (encounters r m) ≤ came_by such m
  none_comes r m done = let h : such_asked (encounters r m) ≡ 0 = none_asked (encounters r m) (each_done AsksNone r m done) in omega (arith, h)

  as_came : (r : Ran) (m : Move) → such_asked (encounters r m) ≤ came_by such m
  as_came r (Move.Publish clock session asked acks) =
      let w = stage_of r.subscriptions r.items clock in
      noted_once (note_of session w.table.sessions) session (with_results asked (acknowledged_all session w.table.subscriptions acks).results) acks w
  as_came r (Move.Delete clock session numbers) = none_comes r (Move.Delete clock session numbers) refl
  as_came r (Move.EndSession clock session deleting) = none_comes r (Move.EndSession clock session deleting) (refl, refl)
  as_came r (Move.Shutdown clock) = none_comes r (Move.Shutdown clock) refl
  as_came r (Move.Gone conn) = none_comes r (Move.Gone conn) refl
  as_came r (Move.Items clock number asked) = none_comes r (Move.Items clock number asked) refl
  as_came r (Move.Show changed) = none_comes r (Move.Show changed) refl
  as_came r m = none_comes r m tt

  -- ---- any calls

  abbrev Grows : Stage → List Encounter → Stage → Type 0
  Grows w es v = of_stage v ≤ of_stage w + such_asked es

  beside_less : (w : Stage) (b : Beside) → Grows w (Does w b ∷ []) (beside w b)
  beside_less w (Acknowledges session acks) =
      let part = part_at session w.table.sessions in
      let k : such_waiting such (set_value (is_at (nat_cmp session)) w.table.sessions (part_without_note part)) + such_calls such part.requests ≤ such_waiting such w.table.sessions + such_calls such part.requests =
      set_less session (part_without_note part) w.table.sessions in
      omega (arith, k)
  beside_less w (TellsNote session asked note) =
      let sum : such_answers such (beside w (TellsNote session asked note)).round.replies ≡ such_answers such w.round.replies + (one_if (such asked.origin) + 0) = answers-append w.round.replies _ in
      omega (arith, sum)
  beside_less w (TellsNone asked) =
      let sum : such_answers such (beside w (TellsNone asked)).round.replies ≡ such_answers such w.round.replies + (one_if (such asked.origin) + 0) = answers-append w.round.replies _ in
      omega (arith, sum)
  beside_less w (Refuses session code) = let h : of_stage (all_refused session code w) ≤ of_stage w = refused_less session code w in omega (arith, h)
  beside_less w (Leaves session) =
      let g : such_waiting such (remove_entry (is_at (nat_cmp session)) w.table.sessions) + such_calls such (part_at session w.table.sessions).requests ≤ such_waiting such w.table.sessions = removed_less session w.table.sessions in
      omega (arith, g)
  beside_less w (LeavesAll code) = let h : of_stage (all_left code w) ≤ of_stage w = all_left_less code w in omega (arith, h)
  beside_less w (Loses conn) = let h : such_waiting such (map (entry_without_conn conn) w.table.sessions) ≤ such_waiting such w.table.sessions = gone_less conn w.table.sessions in omega (arith, h)
  beside_less w b = omega arith

  next_less : (w v u : Stage) (es fs : List Encounter) → Grows w es v → Grows v fs u → Grows w (es ++ fs) u
  next_less w v u es fs p q = let sum : such_asked (es ++ fs) ≡ such_asked es + such_asked fs = asked-append es fs in omega (arith, p, q, sum)

  no_more : (n k : ℕ) → n ≤ k → n ≤ k + 0
  no_more n k h = omega (arith, h)

  follows_less : Follows Any Grows
  follows_less = record {
    rest = λ whose asked w n ns given. tt;
    none = λ w. omega arith;
    next = next_less;
    passes = λ w n asked. omega arith;
    aside = λ w b fits. beside_less w b;
    one = λ whose asked w n ns s plain given meant found. no_more _ _ (one_less w n asked s);
  }

  less_making : FollowsMaking Grows
  less_making = record {
    refuses = λ session number settings enabled w. no_more _ _ (refused_one_less session settings enabled w);
    adds = λ r clock session settings enabled room. no_more _ _ (added_less session (r.subscriptions.made + 1) settings enabled (stage_of r.subscriptions r.items clock));
  }

  abbrev of_ran : Ran → ℕ
  of_ran r = such_answers such r.replies + such_waiting such r.subscriptions.table.sessions

  call_less : (r : Ran) (m : Move) → of_ran (moved r m) ≤ of_ran r + came_by such m
  call_less r m =
      let v = left r m in
      let h : of_stage v ≤ 0 + 0 + such_waiting such r.subscriptions.table.sessions + such_asked (encounters r m) = walked Any Grows follows_less less_making r m (any_begins r m) in
      let came : such_asked (encounters r m) ≤ came_by such m = as_came r m in
      let sum : such_answers such (r.replies ++ v.round.replies) ≡ such_answers such r.replies + such_answers such v.round.replies = answers-append r.replies v.round.replies in
      let replies : such_answers such (moved r m).replies ≡ such_answers such (r.replies ++ v.round.replies) = ap (such_answers such) (left_is r m).replies in
      let waiting : such_waiting such (moved r m).subscriptions.table.sessions ≡ such_waiting such v.table.sessions = ap (λ (t : TableState). such_waiting such t.sessions) (left_is r m).table in
      omega (arith, h, came, sum, replies, waiting)

  runs_less : (moves : List Move) (r : Ran) → of_ran (fold moved r moves) ≤ of_ran r + such_came such moves
  runs_less [] r = omega arith
  runs_less (m ∷ moves) r =
      let h : of_ran (fold moved (moved r m) moves) ≤ of_ran (moved r m) + such_came such moves = runs_less moves (moved r m) in
      let k : of_ran (moved r m) ≤ of_ran r + came_by such m = call_less r m in
      omega (arith, h, k)

pub answered_once : (config : Configuration) (moves : List Move) (such : Origin → Bool) → let r = run config moves in such_answers such r.replies + such_waiting such r.subscriptions.table.sessions ≤ such_came such moves
answered_once config moves such =
    let r = run config moves in
    let h : such_answers such r.replies + such_waiting such r.subscriptions.table.sessions ≤ 0 + such_came such moves = runs_less such moves (start config) in
    omega (arith, h)
