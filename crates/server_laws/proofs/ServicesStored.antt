-- What each service has a store keep is what it changed of the nodes' values and of the histories.
use Rattle.std.proofs.Common.{◌≡◌, Bool, true, false, List, [], ◌++◌, map, refl, sym, ap, subst, ◌∙◌}
use Rattle.std.proofs.lemmas.Bool.{false≢true}
use Rattle.std.proofs.lemmas.List.Sums.{fold-append}
use Rattle.server_messages.specs.declared.request.Request.{Request}
use Rattle.server_messages.specs.declared.setting.Setting.{Setting}
use Rattle.ua_service_messages.specs.declared.writing.WriteValue.{WriteValue}
use Rattle.ua_read_write.specs.Writing.{write_of}
use Rattle.ua_history.specs.Histories.{HistoryState, history_of}
use Rattle.ua_session.specs.Sessions.{ticked, all_ended}
use Rattle.ua_services.specs.Services.{serving_of, ticking_of, shutting_of}
use Rattle.ua_services.specs.Serving.{Serving, stored_of}
use Rattle.ua_services.specs.Serving.Occurrence.{Store}
use Rattle.ua_services.specs.SessionServing.{with_sessions}
use Rattle.ua_services.specs.SubServing.{called}
use Rattle.ua_services.specs.Write.{for_store, stored_changes, stored_written, with_written}
use Rattle.ua_services.specs.declared.services.Services.{Services}
use Rattle.ua_space.specs.Values.{value_at}
use Rattle.ua_history.specs.Histories as history
use Rattle.ua_history.proofs.Dropping.{AreByTime}
use Rattle.server_messages.specs.Kept.{Kept, with_stored, with_all_stored}
use Rattle.server_messages.specs.declared.stored.Stored.{Stored}
use Rattle.ua_services.proofs.SubLemmas.{stored_joined, none_stored, rounds_store_none}
use Rattle.ua_services.proofs.WriteLemmas.{stored_of_stores}
use Rattle.server_laws.proofs.StoredLemmas.{write_has_all, all_sorted, HasAll}
use Rattle.server_laws.proofs.WalkingServices.{stepped, FollowsServices, served, ticking, shutting}
use Rattle.subscription_laws.specs.Runs.{Move}

-- the same values and histories
moved : (k : Kept) (a b : Services) → b.space.nodes ≡ a.space.nodes → b.history ≡ a.history → HasAll k a → HasAll k b
moved k a b nodes same has = record {
  values = λ id value e. has.values id value (ap (value_at id) (sym nodes) ∙ e);
  histories = λ id time. has.histories id time ∙ ap (λ (h : HistoryState). history.value_at time (history_of id h)) (sym same);
}

module _ (has_store : Bool) where
  -- Who had all of the services before, and keeps what is told, has all of them afterwards; without a store nothing is told
  pub record Told (before : Services) (stored : List Stored) (after : Services) : Type 0 where
    pub all : has_store ≡ true → (k : Kept) → HasAll k before → HasAll (with_all_stored k stored) after
    pub nothing : has_store ≡ false → stored ≡ []
    pub sorted : AreByTime after.history

  abbrev Tells : Services → List Move → Serving → Type 0
  Tells before moves s = AreByTime before.history → Told before (stored_of s.occurrences) s.state

  -- values and histories are as they were, and nothing is told
  pub still : (before after : Services) (stored : List Stored) → AreByTime before.history → after.space.nodes ≡ before.space.nodes → after.history ≡ before.history → stored ≡ [] → Told before stored after
  still before after stored sorted nodes same none = record {
    all = λ is k has. subst (λ (ss : List Stored). HasAll (with_all_stored k ss) after) (sym none) (moved k before after nodes same has);
    nothing = λ is. none;
    sorted = subst AreByTime (sym same) sorted;
  }

  -- one after the other
  pub told_both : (a b c : Services) (xs ys : List Stored) → Told a xs b → Told b ys c → Told a (xs ++ ys) c
  told_both a b c xs ys p q = record {
    all = λ is k has. subst (λ (x : Kept). HasAll x c) (sym (fold-append with_stored k xs ys)) (q.all is (with_all_stored k xs) (p.all is k has));
    nothing = λ is. ap (λ (ss : List Stored). ss ++ ys) (p.nothing is) ∙ q.nothing is;
    sorted = q.sorted;
  }

  -- from sessions that are others
  pub from_same : (a b c : Services) (xs : List Stored) → b.space.nodes ≡ a.space.nodes → b.history ≡ a.history → Told b xs c → Told a xs c
  from_same a b c xs nodes same p = record { all = λ is k has. p.all is k (moved k a b nodes same has); nothing = p.nothing; sorted = p.sorted }

  follows : (setting : Setting) → FollowsServices setting Tells
  follows setting = record {
    still = λ state replies spends is_refused p. still state state _ p refl refl (none_stored spends);
    steps = λ state step moves s f p. from_same state (stepped state step) s.state _ refl refl (f p);
    calls = λ A state own s move e p. still state (called state own s).state _ p refl refl (rounds_store_none state.subscriptions.halted s.outcome.stage.round);
    next = λ state moves later s more f g p.
        let first = f p in
        let t : Serving = more s.state in
        subst (λ (ss : List Stored). Told state ss t.state) (sym (stored_joined s.occurrences t.occurrences))
        (told_both state s.state t.state (stored_of s.occurrences) (stored_of t.occurrences) first (g first.sorted));
    ends = λ state moves s f p.
        let t = f p in
        record { all = λ is kept has. moved _ s.state (with_sessions s.state (all_ended s.state.sessions)) refl refl (t.all is kept has); nothing = t.nothing; sorted = t.sorted };
  }

  -- once the sessions were told the time
  pub ticking_tells : (setting : Setting) (state : Services) → AreByTime state.history → Told state (stored_of (ticking_of setting state).occurrences) (ticking_of setting state).state
  ticking_tells setting state p = from_same state (with_sessions state (ticked state.sessions setting.clock)) _ _ refl refl (ticking setting Tells (follows setting) state p)

  pub shutting_tells : (setting : Setting) (state : Services) → AreByTime state.history → Told state (stored_of (shutting_of setting state).occurrences) (shutting_of setting state).state
  shutting_tells setting = shutting setting Tells (follows setting)

-- ---- a Write, and so all requests

written_tells : (has_store : Bool) (setting : Setting) (state : Services) → setting.config.has_store ≡ has_store → AreByTime state.history → (values : List WriteValue) →
    (let w = write_of setting.clock state.space.nodes values in Told has_store state (stored_of (map Store (stored_written setting.config.has_store state w))) (with_written state w))
written_tells has_store setting state is p values =
    let w = write_of setting.clock state.space.nodes values in
    let changes = stored_changes w.nodes state.history w.changed in
    subst (λ (ss : List Stored). Told has_store state ss (with_written state w)) (sym (stored_of_stores (stored_written setting.config.has_store state w)))
    (subst (λ (b : Bool). Told has_store state (for_store b changes) (with_written state w)) (sym is) (by has_store))
  where
    by : (b : Bool) → (let w = write_of setting.clock state.space.nodes values in Told b state (for_store b (stored_changes w.nodes state.history w.changed)) (with_written state w))
    by true = let w = write_of setting.clock state.space.nodes values in record {
      all = λ yes k has. write_has_all setting.clock state values k p has;
      nothing = λ not_so. absurd (false≢true (sym not_so));
      sorted = all_sorted w.nodes state.history w.changed p;
    }
    by false = let w = write_of setting.clock state.space.nodes values in record {
      all = λ not_so. absurd (false≢true not_so);
      nothing = λ yes. refl;
      sorted = all_sorted w.nodes state.history w.changed p;
    }

pub serving_tells : (has_store : Bool) (setting : Setting) → setting.config.has_store ≡ has_store → (request : Request) (state : Services) → AreByTime state.history →
    Told has_store state (stored_of (serving_of setting request state).occurrences) (serving_of setting request state).state
serving_tells has_store setting is = served setting (Tells has_store) (follows has_store setting) (λ caller state values p. written_tells has_store setting state is p values)
