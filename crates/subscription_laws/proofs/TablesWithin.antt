-- Queued requests, subscriptions of a session and kept messages stay within their bounds, whatever is called.
use Rattle.std.proofs.Common.{◌≡◌, ◌≤◌, ℕ, suc, ◌+◌, arith, Bool, true, false, cond, List, [], ◌∷◌, ◌++◌, length, take, drop, Option, Some, None, unwrap_or, refl, sym, ◌∙◌, subst, length-append, length-drop, ap}
use Rattle.std.proofs.lemmas.Bool.{or_parts, cond_both}
use Rattle.std.proofs.lemmas.List.{length-take}
use Rattle.std.proofs.lemmas.Map.{length-set_value}
use Rattle.std.specs.Prelude.{map, nat_lt, nat_le}
use Rattle.std.specs.BTreeMap.{is_at}
use Rattle.std.specs.BTreeSet.{insert_key}
use Rattle.std.specs.List.{AllByRecursion, position}
use Rattle.std.specs.Map.{set_value, remove_entry}
use Rattle.std.specs.Ordering.{nat_cmp, match_ordering}
use Rattle.std.specs.Set.{remove_key}
use Rattle.std.specs.declared.cmp.Ordering.{Ordering}
use Rattle.std.specs.declared.cmp.Ordering.TheVariants.{Less, Equal, Greater}
use Rattle.ua_types.specs.Configuration.{Configuration, IsConfigured}
use Rattle.ua_types.specs.declared.status.Status.{Status}
use Rattle.ua_state_table.specs.StateTable.{actions_of}
use Rattle.ua_state_table.specs.declared.action.Action.{Action}
use Rattle.ua_state_table.specs.declared.action.Action.TheVariants.{Initialise, Enqueue, Dequeue, SendNotifications, SendKeepAlive, DeleteItems}
use Rattle.ua_state_table.specs.declared.row.RowId.{RowId}
use Rattle.ua_subscriptions.specs.declared.call.Call.{Call}
use Rattle.ua_subscriptions.specs.declared.call.Call.TheVariants as call
use Rattle.ua_subscriptions.specs.declared.messages.KeptMessage.{KeptMessage}
use Rattle.ua_subscriptions.specs.declared.publish_call.PublishCall.{PublishCall}
use Rattle.ua_subscriptions.specs.declared.round.Round.{Round}
use Rattle.ua_subscriptions.specs.declared.session_part.SessionSubscriptions.{SessionSubscriptions}
use Rattle.ua_subscriptions.specs.declared.settings.Bounds.{Bounds}
use Rattle.ua_subscriptions.specs.declared.settings.Settings.{Settings}
use Rattle.ua_subscriptions.specs.declared.subscription.Subscription.{Subscription}
use Rattle.ua_subscriptions.specs.Ending.{came_by_other, entry_without_conn}
use Rattle.ua_subscriptions.specs.Firing.{is_closed, row_of, fired}
use Rattle.ua_subscriptions.specs.Making.{refused_one, added, with_number}
use Rattle.ua_subscriptions.specs.Messages.{number_after, has_number}
use Rattle.ua_subscriptions.specs.Named.{all_refused, without_requests}
use Rattle.ua_subscriptions.specs.Publishing.{without_at, forgotten, without_kept, part_without_note}
use Rattle.ua_subscriptions.specs.Scenes.{Scene, scene, Queueing, enqueued, enqueued_by, kept_with, message_made, Noting, noting, note_sent, with_asked, Sending, sending, rest_sent, notes_sent, done, all_done, row_done}
use Rattle.ua_subscriptions.specs.Settings.{bounds_of}
use Rattle.ua_subscriptions.specs.SubscriptionCalls.{SubscriptionsState, stage_of, is_full}
use Rattle.ua_subscriptions.specs.Subscriptions.{unborn, no_part}
use Rattle.ua_subscriptions.specs.Tables.{TableState, Stage, with_call, part_at, part_of, set_part, subscription_at, stage_after, scene_at}
use Rattle.ua_subscriptions.proofs.Choosing.{either}
use Rattle.ua_subscriptions.proofs.MapEntries.{entries_removed, entries_if_removed, entries_set, entries_found, entries_inserted}
use Rattle.subscription_laws.specs.Runs.{Move, Ran, start, moved, run}
use Rattle.subscription_laws.specs.Encounters.{Beside, Acknowledges, Refuses, Leaves, LeavesAll, Loses, beside, Encounter}
use Rattle.subscription_laws.proofs.Acknowledgements.{all_acknowledged}
use Rattle.subscription_laws.proofs.Folds.{fold_keeps}
use Rattle.subscription_laws.proofs.Owners.{Frame, note_frame, done_frame}
use Rattle.subscription_laws.proofs.Room.{room, length_inserted, length_removed, length_filtered}
use Rattle.subscription_laws.proofs.Walks.{left_is, Follows, FollowsMaking, Any, any_begins, walked}

-- ---- lengths

kept_length : (bound : ℕ) (kept : List KeptMessage) (m : KeptMessage) → length kept ≤ bound → length (kept_with bound kept m) ≤ bound
kept_length bound kept m h =
    let more = length-append kept (m ∷ []) in
    cond_both (nat_lt bound (length kept + 1)) _ _ (λ (ms : List KeptMessage). length ms ≤ bound) (λ is. let less = length-drop 1 (kept ++ m ∷ []) in omega (arith, more, less, h)) (λ is. grind (arith, more, is))

forgotten_length : (number : ℕ) (kept : List KeptMessage) → length (forgotten number kept) ≤ length kept
forgotten_length number kept = by (position (has_number number) kept)
  where
    by : (o : Option ℕ) → length (without_at kept o) ≤ length kept
    by None = omega arith
    by (Some i) =
        let both = length-append (take i kept) (drop (suc i) kept) in
        let front = length-take i kept in
        let back = length-drop (suc i) kept in
        omega (arith, both, front, back)

key_length : (test : ℕ → Bool) (ns : List ℕ) → length (remove_key test ns) ≤ length ns
key_length test [] = omega arith
key_length test (n ∷ ns) =
    let h = key_length test ns in
    either (λ (ms : List ℕ). length ms ≤ length (n ∷ ns)) (test n) ns (n ∷ remove_key test ns) (omega arith) (omega (arith, h))

put_length : (k : ℕ) (ns : List ℕ) → length (insert_key nat_cmp ns k) ≤ length ns + 1
put_length k [] = omega arith
put_length k (n ∷ ns) = by (nat_cmp k n) (put_length k ns)
  where
    by : (o : Ordering) → length (insert_key nat_cmp ns k) ≤ length ns + 1 → length (match_ordering o (k ∷ n ∷ ns) (n ∷ ns) (n ∷ insert_key nat_cmp ns k)) ≤ length (n ∷ ns) + 1
    by Less h = omega arith
    by Equal h = omega arith
    by Greater h = omega (arith, h)

-- ---- a row

module _ (b : Bounds) (some : 1 ≤ b.publish_queue) where
  pub record QueueingBounded (q : Queueing) : Type 0 where
    pub requests : length q.part.requests ≤ b.publish_queue
    pub numbers : length q.part.numbers ≤ b.subscriptions

  full_length : (requests : List PublishCall) (c : PublishCall) → length requests ≤ b.publish_queue → length (drop 1 requests ++ c ∷ []) ≤ b.publish_queue
  full_length requests c h =
      let more = length-append (drop 1 requests) (c ∷ []) in
      let less = length-drop 1 requests in
      omega (arith, more, less, h, some)

  enqueued_by_bounded : (asked : Option PublishCall) (round : Round) (part : SessionSubscriptions) → round.bounds ≡ b → length part.requests ≤ b.publish_queue → length part.numbers ≤ b.subscriptions → QueueingBounded (enqueued_by asked round part)
  enqueued_by_bounded None round part h g k = record { requests = g; numbers = k }
  enqueued_by_bounded (Some c) round part h g k =
      let more = length-append part.requests (c ∷ []) in
      cond_both (nat_le round.bounds.publish_queue (length part.requests)) _ _ QueueingBounded (λ is. record { requests = full_length part.requests c g; numbers = k })
      (λ is.
      let room : nat_le b.publish_queue (length part.requests) ≡ false = subst (λ (x : Bounds). nat_le x.publish_queue (length part.requests) ≡ false) h is in
      record { requests = grind (arith, more, room); numbers = k })

  enqueued_bounded : (round : Round) (part : SessionSubscriptions) → round.bounds ≡ b → length part.requests ≤ b.publish_queue → length part.numbers ≤ b.subscriptions → QueueingBounded (enqueued round part)
  unfolding enqueued
  enqueued_bounded round part h g k = enqueued_by_bounded round.asked round part h g k

  pub record NotingBounded (n : Noting) : Type 0 where
    pub bounds : n.round.bounds ≡ b
    pub kept : length n.subscription.kept ≤ b.kept

  kept_bounded : (round : Round) (kept : List KeptMessage) (m : KeptMessage) → round.bounds ≡ b → length kept ≤ b.kept → length (kept_with round.bounds.kept kept m) ≤ b.kept
  kept_bounded round kept m is h = subst (λ (x : Bounds). length (kept_with x.kept kept m) ≤ b.kept) (sym is) (kept_length b.kept kept m h)

  note_bounded : (n : Noting) → NotingBounded n → NotingBounded (note_sent n)
  unfolding note_sent
  note_bounded n h = record {
    bounds = ap (λ (f : Frame). f.bounds) (note_frame n) ∙ h.bounds;
    kept = kept_bounded n.round n.subscription.kept (record { number = number_after n.subscription.number; bytes = message_made n.round n.subscription n.items }) h.bounds h.kept;
  }

  pub record SendingBounded (sent : Sending) : Type 0 where
    pub noting : NotingBounded sent.noting
    pub requests : length sent.requests ≤ b.publish_queue

  rest_bounded : (calls : List PublishCall) (n : Noting) → NotingBounded n → length calls ≤ b.publish_queue → SendingBounded (rest_sent calls n)
  rest_bounded [] n h g = record { noting = h; requests = omega arith }
  rest_bounded (c ∷ cs) n h g =
      either SendingBounded n.subscription.more (rest_sent cs (note_sent (with_asked n c))) (sending n (c ∷ cs))
      (rest_bounded cs (note_sent (with_asked n c)) (note_bounded (with_asked n c) (record { bounds = h.bounds; kept = h.kept })) (omega (arith, g)))
      (record { noting = h; requests = g })

  notes_bounded : (calls : List PublishCall) (n : Noting) → NotingBounded n → length calls ≤ b.publish_queue → SendingBounded (notes_sent calls n)
  unfolding notes_sent
  notes_bounded calls n h g = rest_bounded calls (note_sent n) (note_bounded n h) g

  pub record SceneBounded (c : Scene) : Type 0 where
    pub bounds : c.round.bounds ≡ b
    pub requests : length c.part.requests ≤ b.publish_queue
    pub numbers : length c.part.numbers ≤ b.subscriptions
    pub kept : length c.subscription.kept ≤ b.kept

  done_bounded : (c : Scene) (action : Action) → SceneBounded c → SceneBounded (done c action)
  done_bounded c Initialise h = record { bounds = h.bounds; requests = h.requests; numbers = h.numbers; kept = omega arith }
  done_bounded c Enqueue h =
      let q = enqueued_bounded c.round c.part h.bounds h.requests h.numbers in
      record { bounds = ap (λ (f : Frame). f.bounds) (done_frame c Enqueue) ∙ h.bounds; requests = q.requests; numbers = q.numbers; kept = h.kept }
  done_bounded c Dequeue h = record { bounds = h.bounds; requests = let less = length-drop 1 c.part.requests in let before = h.requests in omega (arith, less, before); numbers = h.numbers; kept = h.kept }
  done_bounded c SendNotifications h =
      let sent = notes_bounded c.part.requests (noting c.round c.subscription c.items) (record { bounds = h.bounds; kept = h.kept }) h.requests in
      record { bounds = sent.noting.bounds; requests = sent.requests; numbers = h.numbers; kept = sent.noting.kept }
  done_bounded c SendKeepAlive h = record { bounds = ap (λ (f : Frame). f.bounds) (done_frame c SendKeepAlive) ∙ h.bounds; requests = h.requests; numbers = h.numbers; kept = h.kept }
  done_bounded c DeleteItems h = record { bounds = h.bounds; requests = h.requests; numbers = h.numbers; kept = omega arith }
  done_bounded c action h = record { bounds = h.bounds; requests = h.requests; numbers = h.numbers; kept = h.kept }

  all_done_bounded : (actions : List Action) (c : Scene) → SceneBounded c → SceneBounded (all_done c actions)
  all_done_bounded [] c h = h
  all_done_bounded (action ∷ actions) c h = all_done_bounded actions (done c action) (done_bounded c action h)

  row_bounded : (row : RowId) (c : Scene) → SceneBounded c → SceneBounded (row_done row c)
  unfolding row_done
  row_bounded row c h =
      let after = all_done_bounded (actions_of row) c h in
      record { bounds = after.bounds; requests = after.requests; numbers = after.numbers; kept = after.kept }

  fired_bounded : (c : Scene) → SceneBounded c → SceneBounded (fired c)
  unfolding fired
  fired_bounded c h =
      let after = row_bounded (row_of c) c h in
      record { bounds = after.bounds; requests = after.requests; numbers = fewer (is_closed (row_done (row_of c) c).subscription) _ after.numbers; kept = after.kept }
    where
      fewer : (closed : Bool) (ns : List ℕ) → length ns ≤ b.subscriptions → length (cond closed (remove_key (is_at (nat_cmp (row_done (row_of c) c).round.own)) ns) ns) ≤ b.subscriptions
      fewer true ns h = let less = key_length (is_at (nat_cmp (row_done (row_of c) c).round.own)) ns in omega (arith, less, h)
      fewer false ns h = h

  -- ---- subscriptions and sessions under their numbers

  pub record PartBounded (part : SessionSubscriptions) : Type 0 where
    pub requests : length part.requests ≤ b.publish_queue
    pub numbers : length part.numbers ≤ b.subscriptions

  abbrev EachPart : ℕ × SessionSubscriptions → Type 0
  EachPart e = PartBounded e.1

  abbrev EachKept : ℕ × Subscription → Type 0
  EachKept e = length e.1.kept ≤ b.kept

  pub record TableBounded (t : TableState) : Type 0 where
    pub sessions : AllByRecursion EachPart t.sessions
    pub subscriptions : AllByRecursion EachKept t.subscriptions
    pub few : length t.subscriptions ≤ b.subscriptions_in_all

  pub record StageBounded (w : Stage) : Type 0 where
    pub bounds : w.round.bounds ≡ b
    pub table : TableBounded w.table

  none_bounded : PartBounded no_part
  none_bounded = record { requests = omega arith; numbers = omega arith }

  pub part_bounded : (session : ℕ) (sessions : List (ℕ × SessionSubscriptions)) → AllByRecursion EachPart sessions → PartBounded (part_at session sessions)
  part_bounded session sessions h = entries_found EachPart session no_part sessions none_bounded h

  part_of_bounded : (o : Option ℕ) (sessions : List (ℕ × SessionSubscriptions)) → AllByRecursion EachPart sessions → PartBounded (part_of o sessions)
  part_of_bounded None sessions h = none_bounded
  part_of_bounded (Some session) sessions h = part_bounded session sessions h

  set_bounded : (session : ℕ) (part : SessionSubscriptions) (sessions : List (ℕ × SessionSubscriptions)) → PartBounded part → AllByRecursion EachPart sessions → AllByRecursion EachPart (set_value (is_at (nat_cmp session)) sessions part)
  set_bounded session part sessions p h = entries_set EachPart session part sessions p h

  set_part_bounded : (o : Option ℕ) (part : SessionSubscriptions) (sessions : List (ℕ × SessionSubscriptions)) → PartBounded part → AllByRecursion EachPart sessions → AllByRecursion EachPart (set_part o sessions part)
  set_part_bounded None part sessions p h = h
  set_part_bounded (Some session) part sessions p h = set_bounded session part sessions p h

  -- of what is found under a number
  pub kept_found : (number : ℕ) (subscriptions : List (ℕ × Subscription)) → AllByRecursion EachKept subscriptions → length (unwrap_or (subscription_at number subscriptions) (unborn 0)).kept ≤ b.kept
  kept_found number subscriptions h = entries_found EachKept number (unborn 0) subscriptions (omega arith) h

  -- ---- what a call does

  all_refused_bounded : (session : ℕ) (code : Status) (w : Stage) → StageBounded w → StageBounded (all_refused session code w)
  unfolding all_refused
  all_refused_bounded session code w h =
      let p = part_bounded session w.table.sessions h.table.sessions in
      record {
        bounds = h.bounds;
        table = record {
          sessions = set_bounded session (without_requests (part_at session w.table.sessions)) w.table.sessions (record { requests = omega arith; numbers = p.numbers }) h.table.sessions;
          subscriptions = h.table.subscriptions;
          few = h.table.few;
        };
      }

  refused_one_bounded : (session : ℕ) (asked : Settings) (enabled : Bool) (w : Stage) → StageBounded w → StageBounded (refused_one session asked enabled w)
  unfolding refused_one
  refused_one_bounded session asked enabled w h =
      let c = scene (with_call w.round 0 (call.Create true asked enabled)) (unborn session) no_part w.items in
      let after = fired_bounded c (record { bounds = h.bounds; requests = omega arith; numbers = omega arith; kept = omega arith }) in
      record { bounds = after.bounds; table = h.table }

  -- one more subscription, where the session and the server have fewer than may be: the row lists none
  added_bounded : (session number : ℕ) (asked : Settings) (enabled : Bool) (w : Stage) → let part : SessionSubscriptions = part_at session w.table.sessions in length part.numbers + 1 ≤ b.subscriptions → length w.table.subscriptions + 1 ≤ b.subscriptions_in_all → StageBounded w → StageBounded (added session number asked enabled w)
  unfolding added fired row_done
  added_bounded session number asked enabled w room room_in_all h =
      let part : SessionSubscriptions = part_at session w.table.sessions in
      let c = scene (with_call w.round number (call.Create false asked enabled)) (unborn session) part w.items in
      let p = part_bounded session w.table.sessions h.table.sessions in
      let after = fired_bounded c (record { bounds = h.bounds; requests = p.requests; numbers = p.numbers; kept = omega arith }) in
      let more = put_length number part.numbers in
      record {
        bounds = after.bounds;
        table = record {
          sessions = entries_inserted EachPart session (with_number number (fired c).part) (remove_entry (is_at (nat_cmp session)) w.table.sessions) (record { requests = after.requests; numbers = omega (arith, more, room) })
              (entries_removed EachPart (is_at (nat_cmp session)) w.table.sessions h.table.sessions);
          subscriptions = entries_inserted EachKept number (fired c).subscription w.table.subscriptions after.kept h.table.subscriptions;
          few = let one = length_inserted number (fired c).subscription w.table.subscriptions in omega (arith, one, room_in_all);
        };
      }

  -- ---- Publish

  -- of the subscriptions of a table
  record AreFew (subscriptions : List (ℕ × Subscription)) : Type 0 where
    kept : AllByRecursion EachKept subscriptions
    few : length subscriptions ≤ b.subscriptions_in_all

  forgotten_few : (subscriptions : List (ℕ × Subscription)) (n number : ℕ) (s : Subscription) → subscription_at n subscriptions ≡ Some s → AreFew subscriptions → AreFew (set_value (is_at (nat_cmp n)) subscriptions (without_kept number s))
  forgotten_few subscriptions n number s found h =
      let k : length s.kept ≤ b.kept = subst (λ (o : Option Subscription). length (unwrap_or o (unborn 0)).kept ≤ b.kept) found (kept_found n subscriptions h.kept) in
      let less = forgotten_length number s.kept in
      let same = length-set_value (is_at (nat_cmp n)) subscriptions (without_kept number s) in
      let before = h.few in
      record { kept = entries_set EachKept n (without_kept number s) subscriptions (omega (arith, less, k)) h.kept; few = omega (arith, same, before) }

  without_conn_bounded : (conn : ℕ) (sessions : List (ℕ × SessionSubscriptions)) → AllByRecursion EachPart sessions → AllByRecursion EachPart (map (entry_without_conn conn) sessions)
  without_conn_bounded conn [] h = tt
  without_conn_bounded conn (e ∷ es) h =
      let less = length_filtered (came_by_other conn) e.1.requests in
      let before = h.0.requests in
      (record { requests = omega (arith, less, before); numbers = h.0.numbers }, without_conn_bounded conn es h.1)

  -- ---- any calls

  pub record RunBounded (r : Ran) : Type 0 where
    pub bounds : r.subscriptions.bounds ≡ b
    pub table : TableBounded r.subscriptions.table

  room_left : (s : SubscriptionsState) (session : ℕ) → is_full s session ≡ false → length (part_at session s.table.sessions).numbers + 1 ≤ s.bounds.subscriptions
  room_left s session e = room s.bounds.subscriptions (length (part_at session s.table.sessions).numbers) (or_parts _ _ e).0

  room_in_all : (s : SubscriptionsState) (session : ℕ) → is_full s session ≡ false → length s.table.subscriptions + 1 ≤ s.bounds.subscriptions_in_all
  room_in_all s session e = room s.bounds.subscriptions_in_all (length s.table.subscriptions) (or_parts _ _ (or_parts _ _ e).1).0

  abbrev StaysBounded : Stage → List Encounter → Stage → Type 0
  StaysBounded w es v = StageBounded w → StageBounded v

  bounded_beside : (w : Stage) (x : Beside) → StageBounded w → StageBounded (beside w x)
  bounded_beside w (Acknowledges session acks) h =
      let p = part_bounded session w.table.sessions h.table.sessions in
      let those = all_acknowledged session AreFew (λ subscriptions n number s found its k. forgotten_few subscriptions n number s found k) acks w.table.subscriptions (record { kept = h.table.subscriptions; few = h.table.few }) in
      record {
        bounds = h.bounds;
        table = record {
          sessions = set_bounded session (part_without_note (part_at session w.table.sessions)) w.table.sessions (record { requests = p.requests; numbers = p.numbers }) h.table.sessions;
          subscriptions = those.kept;
          few = those.few;
        };
      }
  bounded_beside w (Refuses session code) h = all_refused_bounded session code w h
  bounded_beside w (Leaves session) h = record { bounds = h.bounds; table = record { sessions = entries_removed EachPart (is_at (nat_cmp session)) _ h.table.sessions; subscriptions = h.table.subscriptions; few = h.table.few } }
  bounded_beside w (LeavesAll code) h = record { bounds = h.bounds; table = record { sessions = tt; subscriptions = h.table.subscriptions; few = h.table.few } }
  bounded_beside w (Loses conn) h = record { bounds = h.bounds; table = record { sessions = without_conn_bounded conn w.table.sessions h.table.sessions; subscriptions = h.table.subscriptions; few = h.table.few } }
  bounded_beside w b h = record { bounds = h.bounds; table = h.table }

  fewer : (closed : Bool) (test : ℕ → Bool) (subscriptions : List (ℕ × Subscription)) → length subscriptions ≤ b.subscriptions_in_all → length (cond closed (remove_entry test subscriptions) subscriptions) ≤ b.subscriptions_in_all
  fewer true test subscriptions h = let less = length_removed test subscriptions in omega (arith, less, h)
  fewer false test subscriptions h = h

  met_bounded : (w : Stage) (n : ℕ) (asked : Call) (s : Subscription) → subscription_at n w.table.subscriptions ≡ Some s → StageBounded w → StageBounded (stage_after n s (fired (scene_at w n asked s)) w.table)
  met_bounded w n asked s found h =
      let k : length s.kept ≤ b.kept = subst (λ (o : Option Subscription). length (unwrap_or o (unborn 0)).kept ≤ b.kept) found (kept_found n w.table.subscriptions h.table.subscriptions) in
      let c = scene_at w n asked s in
      let p = part_of_bounded s.session w.table.sessions h.table.sessions in
      let after = fired_bounded c (record { bounds = h.bounds; requests = p.requests; numbers = p.numbers; kept = k }) in
      let same = length-set_value (is_at (nat_cmp n)) w.table.subscriptions (fired c).subscription in
      let before = h.table.few in
      record {
        bounds = after.bounds;
        table = record {
          sessions = set_part_bounded s.session (fired c).part w.table.sessions (record { requests = after.requests; numbers = after.numbers }) h.table.sessions;
          subscriptions = entries_if_removed EachKept (is_closed (fired c).subscription) (is_at (nat_cmp n)) _ (entries_set EachKept n (fired c).subscription w.table.subscriptions after.kept h.table.subscriptions);
          few = fewer (is_closed (fired c).subscription) (is_at (nat_cmp n)) _ (omega (arith, same, before));
        };
      }

  follows_bounded : Follows Any StaysBounded
  follows_bounded = record {
    rest = λ whose asked w n ns given. tt;
    none = λ w h. h;
    next = λ w v u es fs p q h. q (p h);
    passes = λ w n asked h. record { bounds = h.bounds; table = record { sessions = h.table.sessions; subscriptions = h.table.subscriptions; few = h.table.few } };
    aside = λ w b fits h. bounded_beside w b h;
    one = λ whose asked w n ns s plain given meant found h. met_bounded w n asked s found h;
  }

  making_bounded : FollowsMaking StaysBounded
  making_bounded = record {
    refuses = λ session number settings enabled w h. refused_one_bounded session settings enabled w h;
    adds = λ r clock session settings enabled free h.
        added_bounded session (r.subscriptions.made + 1) settings enabled (stage_of r.subscriptions r.items clock)
        (subst (λ (x : Bounds). length (part_at session r.subscriptions.table.sessions).numbers + 1 ≤ x.subscriptions) h.bounds (room_left r.subscriptions session free))
        (subst (λ (x : Bounds). length r.subscriptions.table.subscriptions + 1 ≤ x.subscriptions_in_all) h.bounds (room_in_all r.subscriptions session free)) h;
  }

  pub one_bounded : (r : Ran) (m : Move) → RunBounded r → RunBounded (moved r m)
  one_bounded r m h =
      let v = walked Any StaysBounded follows_bounded making_bounded r m (any_begins r m) (record { bounds = h.bounds; table = h.table }) in
      let is = left_is r m in
      record { bounds = is.bounds ∙ h.bounds; table = subst TableBounded (sym is.table) v.table }

pub subs_bounded : (config : Configuration) (is : IsConfigured config) (moves : List Move) → let r = run config moves in TableBounded (bounds_of config) is.publish_queue.0 r.subscriptions.table
subs_bounded config is moves =
    (fold_keeps (RunBounded (bounds_of config) is.publish_queue.0) moved (one_bounded (bounds_of config) is.publish_queue.0) moves (start config) (record { bounds = refl; table = record { sessions = tt; subscriptions = tt; few = omega arith } })).table
