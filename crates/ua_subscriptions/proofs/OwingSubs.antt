-- Each call of the server's subscriptions answers such connections alone, and leaves such alone waiting.
use Rattle.std.proofs.Common.{◌≡◌, ◌≢◌, ℕ, ◌+◌, Bool, true, false, List, [], ◌∷◌, cond, refl, sym, ◌∙◌}
use Rattle.std.proofs.lemmas.Bool.{false≢true, eq-eqb}
use Rattle.std.specs.Prelude.{◌==◌, not, filter, map}
use Rattle.ua_types.specs.Configuration.{Configuration}
use Rattle.ua_types.specs.declared.moment.Moment.{Moment}
use Rattle.ua_monitored_items.specs.Items.{ItemsState}
use Rattle.ua_subscription_messages.specs.declared.publishing.SubscriptionAcknowledgement.{SubscriptionAcknowledgement}
use Rattle.ua_state_table.specs.declared.vars.Vars.{Vars}
use Rattle.ua_subscriptions.specs.declared.call.Call.TheVariants.{Items, SetMode}
use Rattle.ua_subscriptions.specs.declared.publish_call.PublishCall.{PublishCall}
use Rattle.ua_subscriptions.specs.declared.session_part.SessionSubscriptions.{SessionSubscriptions}
use Rattle.ua_subscriptions.specs.declared.settings.Settings.{Settings}
use Rattle.ua_subscriptions.specs.Ending.{came_by_other, entry_without_conn, without_conn, session_ended, shut_down}
use Rattle.ua_subscriptions.specs.Making.{modified, republished, timed}
use Rattle.ua_subscriptions.specs.Named.{Outcome, named_all, deleted}
use Rattle.ua_subscriptions.specs.Owing.{AllBy, QueuedBy, OwesOnly, SaysOnly}
use Rattle.ua_subscriptions.specs.Publishing.{published}
use Rattle.ua_subscriptions.specs.SubscriptionCalls.{SubscriptionsState, no_subscriptions, stage_of, said, without_answer, is_full, refused, created_one, created}
use Rattle.ua_subscriptions.specs.Tables.{TableState, Stage, met}
use Rattle.ua_subscriptions.proofs.Choosing.{either}
use Rattle.ua_subscriptions.proofs.OwingCalls.{named_only, deleted_only, refused_one_only, added_only, modified_only, republished_only, timed_only, published_only, session_ended_only, shut_down_only}
use Rattle.ua_subscriptions.proofs.OwingTables.{met_only}

module _ (Such : ℕ → Type 0) where
  -- nothing is answered yet where a call begins
  stage_of_only : (s : SubscriptionsState) (items : ItemsState) (clock : Moment) → QueuedBy Such s.table.sessions → OwesOnly Such (stage_of s items clock)
  stage_of_only s items clock h = record { round = record { replies = tt; asked = tt }; queued = h }

  said_only : {A : Type 0} (s : SubscriptionsState) (o : Outcome A) → OwesOnly Such o.stage → SaysOnly Such (said s o)
  said_only s o h = record { queued = h.queued; replies = h.round.replies }

  unanswered_only : (s : SubscriptionsState) (w : Stage) → OwesOnly Such w → SaysOnly Such (without_answer s w)
  unanswered_only s w h = record { queued = h.queued; replies = h.round.replies }

  -- ---- CreateSubscription

  refused_says : (s : SubscriptionsState) (session : ℕ) (asked : Settings) (enabled : Bool) (w : Stage) → OwesOnly Such w → SaysOnly Such (refused session asked enabled s w)
  unfolding refused
  refused_says s session asked enabled w h = let after = refused_one_only Such session asked enabled w h in record { queued = after.queued; replies = after.round.replies }

  created_one_says : (s : SubscriptionsState) (session : ℕ) (asked : Settings) (enabled : Bool) (w : Stage) → OwesOnly Such w → SaysOnly Such (created_one session asked enabled s w)
  unfolding created_one
  created_one_says s session asked enabled w h = let after = added_only Such session (s.made + 1) asked enabled w h in record { queued = after.queued; replies = after.round.replies }

  pub create_owes_only : (s : SubscriptionsState) (items : ItemsState) (clock : Moment) (session : ℕ) (asked : Settings) (enabled : Bool) → QueuedBy Such s.table.sessions → SaysOnly Such (created session asked enabled s items clock)
  unfolding created
  create_owes_only s items clock session asked enabled h =
      let w = stage_of s items clock in
      let before = stage_of_only s items clock h in
      either (SaysOnly Such) (is_full s session) (refused session asked enabled s w) (created_one session asked enabled s w) (refused_says s session asked enabled w before) (created_one_says s session asked enabled w before)

  -- ---- requests that name a subscription

  pub modify_owes_only : (s : SubscriptionsState) (items : ItemsState) (clock : Moment) (session number : ℕ) (asked : Settings) → QueuedBy Such s.table.sessions → SaysOnly Such (said s (modified session number asked (stage_of s items clock)))
  modify_owes_only s items clock session number asked h = said_only s _ (modified_only Such session number asked (stage_of s items clock) (stage_of_only s items clock h))

  pub set_mode_owes_only : (s : SubscriptionsState) (items : ItemsState) (clock : Moment) (session : ℕ) (numbers : List ℕ) (enabled : Bool) → QueuedBy Such s.table.sessions →
      SaysOnly Such (said s (named_all session (SetMode enabled) (stage_of s items clock) numbers))
  set_mode_owes_only s items clock session numbers enabled h = said_only s _ (named_only Such session (SetMode enabled) (stage_of s items clock) numbers (stage_of_only s items clock h))

  pub delete_owes_only : (s : SubscriptionsState) (items : ItemsState) (clock : Moment) (session : ℕ) (numbers : List ℕ) → QueuedBy Such s.table.sessions → SaysOnly Such (said s (deleted session (stage_of s items clock) numbers))
  delete_owes_only s items clock session numbers h = said_only s _ (deleted_only Such session (stage_of s items clock) numbers (stage_of_only s items clock h))

  pub republish_owes_only : (s : SubscriptionsState) (items : ItemsState) (clock : Moment) (session number wanted : ℕ) → QueuedBy Such s.table.sessions → SaysOnly Such (said s (republished session number wanted (stage_of s items clock)))
  republish_owes_only s items clock session number wanted h = said_only s _ (republished_only Such session number wanted (stage_of s items clock) (stage_of_only s items clock h))

  pub items_owes_only : (s : SubscriptionsState) (items : ItemsState) (clock : Moment) (number : ℕ) (before : Vars) → QueuedBy Such s.table.sessions → SaysOnly Such (without_answer s (met (stage_of s items clock) number (Items before)))
  items_owes_only s items clock number before h = unanswered_only s _ (met_only Such (stage_of s items clock) number (Items before) (stage_of_only s items clock h))

  -- ---- Publish, the timers, the end of a session, and the server's shutdown

  pub publish_owes_only : (s : SubscriptionsState) (items : ItemsState) (clock : Moment) (session : ℕ) (call : PublishCall) (acks : List SubscriptionAcknowledgement) → Such call.origin.conn → QueuedBy Such s.table.sessions →
      SaysOnly Such (without_answer s (published session call acks (stage_of s items clock)))
  publish_owes_only s items clock session call acks a h = unanswered_only s _ (published_only Such session call acks (stage_of s items clock) a (stage_of_only s items clock h))

  pub timers_owe_only : (s : SubscriptionsState) (items : ItemsState) (clock : Moment) → QueuedBy Such s.table.sessions → SaysOnly Such (without_answer s (timed (stage_of s items clock)))
  timers_owe_only s items clock h = unanswered_only s _ (timed_only Such (stage_of s items clock) (stage_of_only s items clock h))

  pub session_end_owes_only : (s : SubscriptionsState) (items : ItemsState) (clock : Moment) (session : ℕ) (deleting : Bool) → QueuedBy Such s.table.sessions → SaysOnly Such (without_answer s (session_ended session deleting (stage_of s items clock)))
  session_end_owes_only s items clock session deleting h = unanswered_only s _ (session_ended_only Such session deleting (stage_of s items clock) (stage_of_only s items clock h))

  pub shut_down_owes_only : (s : SubscriptionsState) (items : ItemsState) (clock : Moment) → QueuedBy Such s.table.sessions → SaysOnly Such (without_answer s (shut_down (stage_of s items clock)))
  shut_down_owes_only s items clock h = unanswered_only s _ (shut_down_only Such (stage_of s items clock) (stage_of_only s items clock h))

  -- whoever asked, nothing waits after a shutdown
  pub shut_down_queued : (s : SubscriptionsState) (items : ItemsState) (clock : Moment) → QueuedBy Such (without_answer s (shut_down (stage_of s items clock))).state.table.sessions
  unfolding shut_down
  shut_down_queued s items clock = tt

  -- ---- the beginning

  -- nothing waits at first
  pub no_subscriptions_queued : (config : Configuration) → QueuedBy Such (no_subscriptions config).table.sessions
  no_subscriptions_queued config = tt

-- ---- a connection that is closed or gone

module _ (Such : ℕ → Type 0) (gone : ℕ) where
  abbrev pub Others : ℕ → Type 0
  Others conn = Such conn × (conn ≢ gone)

  apart : (conn : ℕ) → (conn == gone) ≡ false → conn ≢ gone
  apart conn is same = false≢true (sym is ∙ eq-eqb conn gone same)

  calls_if : (call : PublishCall) (calls : List PublishCall) (b : Bool) → (call.origin.conn == gone) ≡ b → Such call.origin.conn → AllBy Others calls → AllBy Others (cond (not b) (call ∷ calls) calls)
  calls_if call calls true is h rest = rest
  calls_if call calls false is h rest = ((h, apart call.origin.conn is), rest)

  calls_left : (calls : List PublishCall) → AllBy Such calls → AllBy Others (filter (came_by_other gone) calls)
  calls_left [] h = tt
  calls_left (call ∷ calls) h = calls_if call (filter (came_by_other gone) calls) (call.origin.conn == gone) refl h.0 (calls_left calls h.1)

  entries_left : (sessions : List (ℕ × SessionSubscriptions)) → QueuedBy Such sessions → QueuedBy Others (map (entry_without_conn gone) sessions)
  entries_left [] h = tt
  entries_left (e ∷ es) h = (calls_left e.1.requests h.0, entries_left es h.1)

  -- no request waits that came by it
  pub without_conn_queued : (table : TableState) → QueuedBy Such table.sessions → QueuedBy (λ (other : ℕ). Such other × (other ≢ gone)) (without_conn gone table).sessions
  without_conn_queued table h = entries_left table.sessions h

-- what is true of more connections
module _ (Such More : ℕ → Type 0) (f : (conn : ℕ) → Such conn → More conn) where
  pub calls_more : (calls : List PublishCall) → AllBy Such calls → AllBy More calls
  calls_more [] h = tt
  calls_more (call ∷ calls) h = (f call.origin.conn h.0, calls_more calls h.1)

  pub queued_more : (sessions : List (ℕ × SessionSubscriptions)) → QueuedBy Such sessions → QueuedBy More sessions
  queued_more [] h = tt
  queued_more (e ∷ es) h = (calls_more e.1.requests h.0, queued_more es h.1)
