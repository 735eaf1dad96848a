-- Sessions, their continuation points and the histories stay within their bounds, whatever happens.
use Rattle.std.proofs.Common.{◌≡◌, ℕ, ◌+◌, ◌-◌, ◌≤◌, arith, Bool, true, false, ◌||◌, cond, List, [], ◌∷◌, length, Option, Some, None, is_some, unwrap_or, Ok, fold, refl, sym, ap, ◌∙◌, subst}
use Rattle.std.specs.Prelude.{not, ◌==◌, ◌&&◌, ◌^◌, nat_le, ℤ}
use Rattle.std.specs.BTreeMap.{is_at, insert_entry}
use Rattle.std.specs.Cmp.{nat_cmp_total}
use Rattle.std.specs.FinMap.{FinMap, get, insert, remove, empty, len, contains_key, get-empty, get-insert, get-remove, len-empty, len-insert, len-remove}
use Rattle.std.specs.List.{AllByRecursion}
use Rattle.std.specs.Map.{lookup, set_value}
use Rattle.std.specs.Ordering.{nat_cmp, eq_by_cmp, match_ordering}
use Rattle.std.specs.declared.cmp.Ordering.{Ordering}
use Rattle.std.specs.declared.cmp.Ordering.TheVariants.{Less, Equal, Greater}
use Rattle.ua_types.specs.Configuration.{Configuration}
use Rattle.ua_types.specs.Moments.{later}
use Rattle.ua_types.specs.NodeIdOrder.{id_cmp}
use Rattle.ua_types.specs.declared.moment.Moment.{Moment}
use Rattle.ua_types.specs.declared.node_id.NodeId.{NodeId}
use Rattle.ua_types.specs.declared.status.TheConstants.Status as status
use Rattle.ua_types.specs.declared.data_value.DataValue.{DataValue}
use Rattle.ua_read_write.specs.declared.writing.Change.{Change}
use Rattle.ua_history.specs.Histories.{HistoryState, Values, no_histories, kept_in, with_one, kept_at, kept, with_all, with_node}
use Rattle.ua_history.proofs.Keeping.{keeps_within_bounds}
use Rattle.ua_session.specs.Points.{PointsState, no_points}
use Rattle.ua_session.specs.Sessions as sessions
use Rattle.ua_session.specs.Sessions.{SessionsState, Named, named, create_of, find_of, activate_of, close_of, is_full, refused, found, used, activated, moved, closed, next_nonce, with_nonce, with_new_session, new_session, without, ended_at, ticked, points_of, with_points}
use Rattle.ua_session.specs.Tokens.{parts_of}
use Rattle.ua_session.specs.declared.session.Session.{Session}
use Rattle.ua_session.proofs.PointLemmas.{stay_sound}
use Rattle.ua_space.specs.Nodes.{Nodes, SpaceState}
use Rattle.ua_space.specs.Values.{variable_at}
use Rattle.ua_services.specs.Write.{is_historizing, with_change}
use Rattle.server_core.specs.Coherent.{reached, IfRuns}
use Rattle.server_core.specs.declared.event.Event.{Event}
use Rattle.server_core.specs.declared.world.World.{World}
use Rattle.server_laws.specs.Bounds.{SessionsAreFew, PointsAreFew, HistoriesAreFew}
use Rattle.server_laws.proofs.OtherSessions.{parts_there}
use Rattle.server_laws.proofs.PointsFew.{PointsFew, browse_few, go_on_few, node_read_few, all_few}
use Rattle.server_laws.proofs.ServersKept.{Holds, all_hold, if_runs}
use Rattle.server_laws.proofs.ServicesKept.{AreKept}

-- ---- how many there are

module _ {X : Type 0} where
  inserted_len : (m : FinMap nat_cmp X) (k : ℕ) (v : X) → len (insert m k v) ≤ len m + 1
  inserted_len m k v = by (contains_key m k) (len-insert nat_cmp_total m k v)
    where
      by : (b : Bool) → len (insert m k v) ≡ cond b (len m) (len m + 1) → len (insert m k v) ≤ len m + 1
      by true e = omega (arith, e)
      by false e = omega (arith, e)

  replaced_len : (m : FinMap nat_cmp X) (k : ℕ) (v : X) → is_some (get m k) ≡ true → len (insert m k v) ≡ len m
  replaced_len m k v there = len-insert nat_cmp_total m k v ∙ ap (λ (b : Bool). cond b (len m) (len m + 1)) there

  removed_len : (m : FinMap nat_cmp X) (k : ℕ) → len (remove m k) ≤ len m
  removed_len m k = by (contains_key m k) (len-remove nat_cmp_total m k)
    where
      by : (b : Bool) → len (remove m k) ≡ cond b (len m - 1) (len m) → len (remove m k) ≤ len m
      by true e = omega (arith, e)
      by false e = omega (arith, e)

  without_len : (ks : List ℕ) (m : FinMap nat_cmp X) → len (without m ks) ≤ len m
  without_len [] m = omega arith
  without_len (k ∷ ks) m = let less = without_len ks (remove m k) in let one = removed_len m k in omega (arith, less, one)

-- ---- sessions

module _ (config : Configuration) where
  abbrev Each : ℕ → FinMap nat_cmp PointsState → Type 0
  Each most m = (q : ℕ) → PointsFew config.points (unwrap_or (get m q) (no_points most))

  pub record SessionsFew (clock : Moment) (s : SessionsState) : Type 0 where
    pub most : s.most ≡ config.sessions
    pub most_points : s.most_points ≡ config.points
    pub few : len s.sessions ≤ config.sessions
    pub points : Each s.most_points s.points

  none_few : (most : ℕ) → most ≡ config.points → PointsFew config.points (no_points most)
  none_few most is = record { most_is = is; sound = stay_sound.new most }

  none_left : (most : ℕ) → most ≡ config.points → Each most empty
  none_left most is q = subst (λ (o : Option PointsState). PointsFew config.points (unwrap_or o (no_points most))) (sym (get-empty nat_cmp q)) (none_few most is)

  removed_points : (most k : ℕ) (m : FinMap nat_cmp PointsState) → most ≡ config.points → Each most m → Each most (remove m k)
  removed_points most k m is h q =
      subst (λ (o : Option PointsState). PointsFew config.points (unwrap_or o (no_points most))) (sym (get-remove nat_cmp_total m k q)) (by (eq_by_cmp nat_cmp q k))
    where
      by : (b : Bool) → PointsFew config.points (unwrap_or (cond b None (get m q)) (no_points most))
      by true = none_few most is
      by false = h q

  without_points : (most : ℕ) (ks : List ℕ) (m : FinMap nat_cmp PointsState) → most ≡ config.points → Each most m → Each most (without m ks)
  without_points most [] m is h = h
  without_points most (k ∷ ks) m is h = without_points most ks (remove m k) is (removed_points most k m is h)

  set_points : (most k : ℕ) (p : PointsState) (m : FinMap nat_cmp PointsState) → PointsFew config.points p → Each most m → Each most (insert m k p)
  set_points most k p m few h q =
      subst (λ (o : Option PointsState). PointsFew config.points (unwrap_or o (no_points most))) (sym (get-insert nat_cmp_total m k p q)) (by (eq_by_cmp nat_cmp q k))
    where
      by : (b : Bool) → PointsFew config.points (unwrap_or (cond b (Some p) (get m q)) (no_points most))
      by true = few
      by false = h q

  module _ (clock : Moment) where
    abbrev Few : SessionsState → Type 0
    Few s = SessionsFew clock s

    room : (s : SessionsState) → is_full s ≡ false → len s.sessions + 1 ≤ s.most
    room s e = by (nat_le s.most (len s.sessions)) refl e
      where
        by : (b : Bool) → nat_le s.most (len s.sessions) ≡ b → (b || nat_le (2 ^ 32 - 1) s.made) ≡ false → len s.sessions + 1 ≤ s.most
        by true is e = absurd (cc)
        by false is e = grind (arith, is)

    created_few : (s : SessionsState) (conn : ℕ) (key : List ℕ) → Few s → Few (create_of s conn key).state
    unfolding create_of
    created_few s conn key h = by (is_full s) refl
      where
        by : (full : Bool) → is_full s ≡ full → Few (cond full (refused s status.BAD_TOO_MANY_SESSIONS) (record { answer = Ok (sessions.created s conn key); state = with_nonce (with_new_session s (new_session s conn key)) })).state
        by true e = h
        by false e =
            let more = inserted_len s.sessions (s.made + 1) (new_session s conn key) in
            let left : len s.sessions + 1 ≤ config.sessions = subst (λ (m : ℕ). len s.sessions + 1 ≤ m) h.most (room s e) in
            record { most = h.most; most_points = h.most_points; few = omega (arith, more, left); points = removed_points s.most_points (s.made + 1) s.points h.most_points h.points }

    set_few : (s : SessionsState) (n : Named) (session : Session) → get s.sessions n.number ≡ Some n.session → Few s → Few (sessions.with_session s n.number session)
    set_few s n session there h = record {
      most = h.most;
      most_points = h.most_points;
      few = subst (λ (l : ℕ). l ≤ config.sessions) (sym (replaced_len s.sessions n.number session (ap is_some there))) h.few;
      points = h.points;
    }

    found_few : (s : SessionsState) (token : NodeId) (conn : ℕ) → Few s → Few (find_of s token conn).state
    unfolding find_of
    found_few s token conn h = by (named s token) refl
      where
        by : (o : Option Named) → named s token ≡ o → Few (found s conn o).state
        by None is = h
        by (Some n) is = which (not (n.session.conn == conn)) (not n.session.is_activated)
          where
            which : (a b : Bool) → Few (cond a (refused s status.BAD_SECURE_CHANNEL_ID_INVALID) (cond b (refused s status.BAD_SESSION_NOT_ACTIVATED) (record { answer = Ok n.number; state = used s n }))).state
            which true b = h
            which false true = h
            which false false = set_few s n _ (parts_there s (parts_of token) n is) h

    activated_few : (s : SessionsState) (token : NodeId) (conn : ℕ) (key : List ℕ) (is_anonymous : Bool) → Few s → Few (activate_of s token conn key is_anonymous).state
    unfolding activate_of
    activated_few s token conn key is_anonymous h = by (named s token) refl
      where
        by : (o : Option Named) → named s token ≡ o → Few (activated s conn key is_anonymous o).state
        by None is = h
        by (Some n) is = which (not (n.session.conn == conn) && not n.session.is_activated) (not is_anonymous)
          where
            which : (a b : Bool) → Few (cond a (refused s status.BAD_SECURE_CHANNEL_ID_INVALID) (cond b (refused s status.BAD_IDENTITY_TOKEN_REJECTED) (record { answer = Ok (next_nonce s key); state = with_nonce (moved s n conn) }))).state
            which true b = h
            which false true = h
            which false false =
                let m = set_few s n (record n.session { conn = conn; is_activated = true; deadline = sessions.deadline_of s }) (parts_there s (parts_of token) n is) h in
                record { most = m.most; most_points = m.most_points; few = m.few; points = m.points }

    closed_few : (s : SessionsState) (token : NodeId) (conn : ℕ) → Few s → Few (close_of s token conn).state
    unfolding close_of
    closed_few s token conn h = by (named s token)
      where
        by : (o : Option Named) → Few (closed s conn o).state
        by None = h
        by (Some n) = which (not (n.session.conn == conn))
          where
            which : (a : Bool) → Few (cond a (refused {A = ℕ} s status.BAD_SECURE_CHANNEL_ID_INVALID) (record { answer = Ok n.number; state = record s { sessions = remove s.sessions n.number; points = remove s.points n.number } })).state
            which true = h
            which false =
                let less = removed_len s.sessions n.number in
                let before = h.few in
                record { most = h.most; most_points = h.most_points; few = omega (arith, less, before); points = removed_points s.most_points n.number s.points h.most_points h.points }

    paged_few : (s : SessionsState) (session : ℕ) (p : PointsState) → Few s → PointsFew config.points p → Few (with_points s session p)
    paged_few s session p h few = record { most = h.most; most_points = h.most_points; few = h.few; points = set_points s.most_points session p s.points few h.points }

  -- ---- histories

  abbrev EachHistory : NodeId × Values → Type 0
  EachHistory e = length e.1 ≤ config.history

  pub record HistoriesFew (h : HistoryState) : Type 0 where
    pub most : h.most ≡ config.history
    pub each : AllByRecursion EachHistory h.nodes

  set_each : (test : NodeId → Bool) (w : Values) → length w ≤ config.history → (es : List (NodeId × Values)) → AllByRecursion EachHistory es → AllByRecursion EachHistory (set_value test es w)
  set_each test w fits [] h = tt
  set_each test w fits (e ∷ es) h = by (test e.0) (set_each test w fits es h.1)
    where
      by : (b : Bool) → AllByRecursion EachHistory (set_value test es w) → AllByRecursion EachHistory (cond b ((e.0, w) ∷ es) (e ∷ set_value test es w))
      by true rest = (fits, h.1)
      by false rest = (h.0, rest)

  put_each : (id : NodeId) (w : Values) → length w ≤ config.history → (es : List (NodeId × Values)) → AllByRecursion EachHistory es → AllByRecursion EachHistory (insert_entry id_cmp es id w)
  put_each id w fits [] h = (fits, tt)
  put_each id w fits (e ∷ es) h = by (id_cmp id e.0) (put_each id w fits es h.1)
    where
      by : (o : Ordering) → AllByRecursion EachHistory (insert_entry id_cmp es id w) → AllByRecursion EachHistory (match_ordering o ((id, w) ∷ e ∷ es) ((e.0, w) ∷ es) (e ∷ insert_entry id_cmp es id w))
      by Less rest = (fits, h)
      by Equal rest = (fits, h.1)
      by Greater rest = (h.0, rest)

  found_each : (test : NodeId → Bool) (es : List (NodeId × Values)) → AllByRecursion EachHistory es → length (unwrap_or (lookup test es) []) ≤ config.history
  found_each test [] h = omega arith
  found_each test (e ∷ es) h = by (test e.0) (found_each test es h.1)
    where
      by : (b : Bool) → length (unwrap_or (lookup test es) []) ≤ config.history → length (unwrap_or (cond b (Some e.1) (lookup test es)) []) ≤ config.history
      by true rest = h.0
      by false rest = rest

  one_fits : (most : ℕ) (time : ℤ) (value : DataValue) (values : Values) → most ≡ config.history → length values ≤ config.history → length (kept_in most time value values) ≤ config.history
  one_fits most time value values is fits = subst (λ (m : ℕ). length (kept_in m time value values) ≤ config.history) (sym is) (keeps_within_bounds config.history time value values fits)

  one_few : (h : HistoryState) (id : NodeId) (time : ℤ) (value : DataValue) (o : Option Values) → length (unwrap_or o []) ≤ config.history → HistoriesFew h → HistoriesFew (with_one h id time value o)
  one_few h id time value None fits f = record { most = f.most; each = put_each id (kept_in h.most time value []) (one_fits h.most time value [] f.most fits) h.nodes f.each }
  one_few h id time value (Some values) fits f =
      record { most = f.most; each = set_each (is_at (id_cmp id)) (kept_in h.most time value values) (one_fits h.most time value values f.most fits) h.nodes f.each }

  kept_few : (h : HistoryState) (id : NodeId) (value : DataValue) (time : Option Moment) → HistoriesFew h → HistoriesFew (kept_at h id value time)
  kept_few h id value None f = f
  kept_few h id value (Some time) f = one_few h id time.0 value (lookup (is_at (id_cmp id)) h.nodes) (found_each (is_at (id_cmp id)) h.nodes f.each) f

  change_few : (b : Bool) (h : HistoryState) (change : Change) → HistoriesFew h → HistoriesFew (cond b (kept h change.node_id change.value) h)
  change_few true h change f = kept_few h change.node_id change.value change.value.source_time f
  change_few false h change f = f

  all_kept_few : (nodes : Nodes) (changes : List Change) (h : HistoryState) → HistoriesFew h → HistoriesFew (fold (with_change nodes) h changes)
  all_kept_few nodes [] h f = f
  all_kept_few nodes (change ∷ changes) h f = all_kept_few nodes changes (with_change nodes h change) (change_few (is_historizing (variable_at change.node_id nodes)) h change f)

  all_values_few : (id : NodeId) (values : List DataValue) (h : HistoryState) → HistoriesFew h → HistoriesFew (with_all h id values)
  all_values_few id [] h f = f
  all_values_few id (value ∷ values) h f = all_values_few id values (kept h id value) (kept_few h id value value.source_time f)

  begun_few : (nodes : Nodes) (h : HistoryState) → HistoriesFew h → HistoriesFew (fold with_node h nodes)
  begun_few [] h f = f
  begun_few (e ∷ nodes) h f = begun_few nodes (with_node h e) (all_values_few e.1.id e.1.history h f)

  -- ---- whatever happens

  kept_within : (clock : Moment) → AreKept (SessionsFew clock) HistoriesFew
  kept_within clock = record {
    created = created_few clock;
    found = found_few clock;
    activated = activated_few clock;
    closed = closed_few clock;
    ended = λ s h. record { most = h.most; most_points = h.most_points; few = let none = len-empty nat_cmp Session in let before = h.few in omega (arith, none, before); points = none_left s.most_points h.most_points };
    browsed = λ space size session descriptions s h. paged_few clock s session _ h (all_few config.points _ (browse_few config.points space size) descriptions _ (h.points session));
    went_on = λ space is_release session named s h. paged_few clock s session _ h (all_few config.points _ (go_on_few config.points space is_release) named _ (h.points session));
    read = λ history nodes wanted session asked s h. paged_few clock s session _ h (all_few config.points _ (node_read_few config.points history nodes wanted) asked _ (h.points session));
    kept = λ nodes h changes f. all_kept_few nodes changes h f;
  }

  tick_few : (clock brought : Moment) (s : SessionsState) → SessionsFew clock s → SessionsFew (later clock brought) (ticked s (later clock brought))
  tick_few clock brought s h =
      let gone = ended_at s (later s.clock (later clock brought)) in
      let less = without_len gone s.sessions in
      let before = h.few in
      record { most = h.most; most_points = h.most_points; few = omega (arith, less, before); points = without_points s.most_points gone s.points h.most_points h.points }

  start_few : SessionsFew config.start (sessions.no_sessions config)
  start_few = record {
    most = refl;
    most_points = refl;
    few = subst (λ (n : ℕ). n ≤ config.sessions) (sym (len-empty nat_cmp Session)) (omega arith);
    points = λ q. subst (λ (o : Option PointsState). PointsFew config.points (unwrap_or o (no_points config.points))) (sym (get-empty nat_cmp q)) (none_few config.points refl);
  }

  module _ (space : SpaceState) (events : List Event) where
    abbrev Runs : World → Type 0
    Runs world = Holds config SessionsFew HistoriesFew kept_within tick_few world.core

    runs : IfRuns Runs (reached config space events).server
    runs = all_hold config SessionsFew HistoriesFew kept_within tick_few space events (record { config_is = refl; sessions = start_few; history = begun_few space.nodes (no_histories config) (record { most = refl; each = tt }) })

    pub sessions_few : IfRuns (SessionsAreFew config) (reached config space events).server
    sessions_few = if_runs Runs (SessionsAreFew config) (λ world h. h.sessions.few) (reached config space events).server runs

    points_within : (world : World) → Runs world → PointsAreFew config world
    points_within world h session = let p = h.sessions.points session in subst (λ (m : ℕ). len (points_of world.core.services.sessions session).held ≤ m) p.most_is p.sound.few

    pub points_few : IfRuns (PointsAreFew config) (reached config space events).server
    points_few = if_runs Runs (PointsAreFew config) points_within (reached config space events).server runs

    pub histories_few : IfRuns (HistoriesAreFew config) (reached config space events).server
    histories_few = if_runs Runs (HistoriesAreFew config) (λ world h id. found_each (is_at (id_cmp id)) world.core.services.history.nodes h.history.each) (reached config space events).server runs
