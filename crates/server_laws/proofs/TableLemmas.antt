-- Whatever happens to a server, its subscriptions are where some calls lead.
use Rattle.std.proofs.Common.{◌≡◌, List, [], map, fold, Result, Ok, Err, refl, sym, ap, subst, ◌∙◌}
use Rattle.std.specs.List.{flat_map}
use Rattle.std.specs.FinMap.{get-empty}
use Rattle.std.specs.Ordering.{nat_cmp}
use Rattle.ua_types.specs.Configuration.{Configuration}
use Rattle.server_messages.specs.declared.fired.Fired.{Fired}
use Rattle.server_messages.specs.declared.reply.Reply.{Reply}
use Rattle.ua_space.specs.Nodes.{SpaceState}
use Rattle.server_connections.specs.Connecting.{taking_of}
use Rattle.server_connections.specs.declared.frame_outcome.FrameOutcome.{FrameOutcome}
use Rattle.ua_state_table.proofs.SteadyLemmas.{steady_is_sound}
use Rattle.subscription_laws.specs.Calm.{AreSteady, NoneWaitsBesideARequest, LivesCountTimers, NoKeepAliveIsSkipped}
use Rattle.subscription_laws.specs.Histories.{AreLawful}
use Rattle.subscription_laws.specs.Concern.{concern_of, all_concerned, AreTheRowsFor}
use Rattle.subscription_laws.specs.Runs.{Move, Ran, moved, start}
use Rattle.ua_subscriptions.specs.Tables.{TableState}
use Rattle.subscription_laws.proofs.BestFirst.{each_is_met, comes_to_the_best}
use Rattle.subscription_laws.proofs.Concerned.{all_from, one_row_for_each}
use Rattle.subscription_laws.specs.LiveItems.{AreOfLive}
use Rattle.subscription_laws.proofs.LiveItemRows.{items_of_live}
use Rattle.subscription_laws.proofs.OwnAnswers.{answers_are_own}
use Rattle.subscription_laws.proofs.Reached.{rows_are_lawful, all_steady, none_beside, lives_count, none_skipped}
use Rattle.server_laws.specs.Moving.{Went, ran_at}
use Rattle.ua_services.specs.declared.services.Services.{Services}
use Rattle.server_laws.proofs.ApartLemmas.{CameBy, keeps_apart}
use Rattle.server_laws.proofs.OtherSessions.{IsFresh}
use Rattle.server_laws.proofs.PostingLemmas as posting
use Rattle.server_laws.proofs.PostingLemmas.{goes, Goes, follows}
use Rattle.server_laws.proofs.Walking.{HasGone, seen, Answers, by_event}
use Rattle.server_core.specs.Coherent.{reached, IfRuns}
use Rattle.server_core.specs.Handling.{asked_for, handled}
use Rattle.server_core.specs.Running.{Running, joined_effects}
use Rattle.server_laws.specs.SessionsApart.{KeepsSessionsApart, ServesByFrames, SessionsStayApart}
use Rattle.server_core.specs.Stepping.{WorldStep, step_of}
use Rattle.server_laws.specs.Tables.{rows_of_run, IfShown, LeadTo, StaysSteady, VariablesAreSound, FiresOneRow, TimesOutExactly, NoneTimesOutBesideARequest, ItemsAreOfLive, AnswersStayInSessions, ServesTheBestFirst}
use Rattle.server_laws.specs.Concern.{concerned, FiresFor, FiresForEach}
use Rattle.server_laws.specs.Dealings.{event_dealings, dealings_of}
use Rattle.server_laws.specs.EventMoves.{event_moves, moves_of}
use Rattle.server_laws.specs.Postings.{posted_at, posted}
use Rattle.server_core.specs.World.{opening}
use Rattle.server_core.specs.declared.world.World.{World}
use Rattle.server_core.specs.declared.parts.Core.{Core}
use Rattle.server_core.specs.declared.event.Event.{Event}
use Rattle.server_core.specs.declared.out.StepFault.{StepFault}

-- ---- any event

-- one row fires for each subscription that an event concerns
for_each_by : (world : World) (event : Event) (r : Result WorldStep StepFault) → Answers Goes follows world (event_dealings world event) r → FiresFor (concerned world event) r
for_each_by world event (Ok s) h =
    let went = goes world.core.services (event_moves world event) s.world.core.services (flat_map posted_at (event_dealings world event)) s.effects h [] [] in
    sym (ap (λ (ran : Ran). map concern_of ran.rows) went.left) ∙ all_from (event_moves world event) (ran_at world.core.services [] [])
for_each_by world event (Err fault) h = tt

pub fires_for_each : (world : World) → FiresForEach world
fires_for_each world event = for_each_by world event (step_of world event) (by_event Goes follows world event)

-- ---- what holds of the subscriptions after any calls, holds of a server's

-- a frame that completes a request
serves_by_frames : (core : Core) → ServesByFrames core
unfolding handled
serves_by_frames core conn frame request e =
    let t = taking_of core.setting conn core.connections frame in
    ap (λ (a : FrameOutcome). (asked_for conn (record core { connections = t.connections }) t.outs a).state.services) e

-- calls that leave this lead there
leads : (config : Configuration) (moves : List Move) (world : World) (rows : List Fired) (replies : List Reply) → fold moved (start config) moves ≡ ran_at world.core.services rows replies → LeadTo config moves rows world
leads config moves world rows replies left = record { subscriptions = ap (λ (r : Ran). r.subscriptions) left; items = ap (λ (r : Ran). r.items) left; fired = ap (λ (r : Ran). r.rows) left }

module _ (config : Configuration) (space : SpaceState) (events : List Event) where
  abbrev r : Running
  r = reached config space events

  abbrev moves : List Move
  moves = moves_of config space events

  gone : HasGone Goes (opening config space).core (dealings_of config space events) r
  gone = posting.gone config space events

  went : let services : Services = gone.world.core.services in Went (start config) moves services.subscriptions services.items (rows_of_run r)
  went = goes (opening config space).core.services moves gone.world.core.services (posted config space events) (joined_effects r.steps) gone.goes [] []

  shown : (P : TableState → Type 0) → (let services : Services = gone.world.core.services in P services.subscriptions.table) → IfShown P r.server
  shown P p = seen gone (λ (world : World). let services : Services = world.core.services in P services.subscriptions.table) p

  pub comes_by_moves : IfRuns (LeadTo config moves (rows_of_run r)) r.server
  comes_by_moves = seen gone (LeadTo config moves (rows_of_run r)) (leads config moves gone.world (rows_of_run r) went.replied went.left)

  pub stays_steady : IfRuns (StaysSteady (rows_of_run r)) r.server
  stays_steady = seen gone (StaysSteady (rows_of_run r)) (subst (λ (ran : Ran). AreSteady ran.subscriptions.table ran.items ran.rows) went.left (all_steady config moves))

  stays_sound : IfRuns VariablesAreSound r.server
  stays_sound = seen gone VariablesAreSound (λ number s found. steady_is_sound _ (steady_now number s found))
    where
      steady_now : let services : Services = gone.world.core.services in AreSteady services.subscriptions.table services.items (rows_of_run r)
      steady_now = subst (λ (ran : Ran). AreSteady ran.subscriptions.table ran.items ran.rows) went.left (all_steady config moves)

  pub reached_lawful : AreLawful (rows_of_run r)
  reached_lawful = subst (λ (ran : Ran). AreLawful ran.rows) went.left (rows_are_lawful config moves)

  rows_for_each : AreTheRowsFor (all_concerned config moves) (rows_of_run r)
  rows_for_each = subst (λ (ran : Ran). AreTheRowsFor (all_concerned config moves) ran.rows) went.left (one_row_for_each config moves)

  pub none_waits : IfShown NoneWaitsBesideARequest r.server
  none_waits = shown NoneWaitsBesideARequest (subst (λ (ran : Ran). NoneWaitsBesideARequest ran.subscriptions.table) went.left (none_beside config moves))

  lives_are_counted : IfShown (LivesCountTimers (rows_of_run r)) r.server
  lives_are_counted = shown (LivesCountTimers (rows_of_run r)) (subst (λ (ran : Ran). LivesCountTimers ran.rows ran.subscriptions.table) went.left (lives_count config moves))

  pub none_is_skipped : IfShown (NoKeepAliveIsSkipped (rows_of_run r)) r.server
  none_is_skipped = shown (NoKeepAliveIsSkipped (rows_of_run r)) (subst (λ (ran : Ran). NoKeepAliveIsSkipped ran.rows ran.subscriptions.table) went.left (none_skipped config moves))

  pub one_row : FiresOneRow config space events
  one_row = record {
    each = rows_for_each;
    next = seen gone FiresForEach (fires_for_each gone.world);
    only = λ before f rest is. (reached_lawful before f rest is).only;
    sound = λ before f rest is. (reached_lawful before f rest is).sound;
    steady = stays_steady;
    sound_now = stays_sound;
  }

  pub exact_time_out : TimesOutExactly config space events
  exact_time_out = record {
    then = λ before f rest is out. let t = (reached_lawful before f rest is).times_out out in (t.0, t.3);
    only_then = λ before f rest is timer last. (reached_lawful before f rest is).in_time timer last;
    counted = lives_are_counted;
  }

  pub none_times_out_beside : NoneTimesOutBesideARequest (rows_of_run r)
  none_times_out_beside before f rest is out = let t = (reached_lawful before f rest is).times_out out in (t.1, t.2)

  -- ---- the sessions

  begun : CameBy (opening config space).core.services.subscriptions (opening config space).core.services.items
  begun = record { config = config; rows = []; moves = []; came = record { replied = []; left = refl } }

  came : CameBy gone.world.core.services.subscriptions gone.world.core.services.items
  came = record { config = config; rows = rows_of_run r; moves = moves; came = went }

  fresh : IsFresh gone.world.core.services.sessions
  fresh = gone.goes.fresh begun (λ number above. get-empty nat_cmp number)

  keeps_sessions_apart : IfRuns KeepsSessionsApart r.server
  keeps_sessions_apart = seen gone KeepsSessionsApart (λ request. keeps_apart gone.world.core.setting request gone.world.core.services came fresh)

  pub sessions_apart : SessionsStayApart config space events
  sessions_apart = record { requests = keeps_sessions_apart; frames = serves_by_frames }

  -- ---- items, and answers

  pub items_live : IfRuns ItemsAreOfLive r.server
  items_live = seen gone ItemsAreOfLive (subst (λ (ran : Ran). AreOfLive ran.subscriptions.table.subscriptions ran.items.items) went.left (items_of_live config moves))

  pub answers_stay : AnswersStayInSessions config space events
  answers_stay before m rest is = answers_are_own config before m

  pub best_first : ServesTheBestFirst config space events
  best_first = record { asked = λ before clock session asked acks rest is. comes_to_the_best config before clock session asked acks; due = λ before clock rest is. each_is_met config before clock }
