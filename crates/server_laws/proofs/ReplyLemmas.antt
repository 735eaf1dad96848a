-- Each message that is made at an event is in a reply that is given then.
use Rattle.std.proofs.Common.{◌≡◌, ◌⊎◌, inl, inr, List, [], ◌∷◌, ◌++◌, Option, Some, None, refl, sym, ap, ◌∙◌, subst}
use Rattle.ua_types.specs.Configuration.{Configuration}
use Rattle.server_messages.specs.declared.fired.Fired.{Fired}
use Rattle.server_messages.specs.declared.reply.Reply.{Reply}
use Rattle.ua_space.specs.Nodes.{SpaceState}
use Rattle.server_connections.specs.Connecting.{taking_of}
use Rattle.server_connections.specs.declared.frame_outcome.FrameOutcome.{FrameOutcome}
use Rattle.ua_monitored_items.specs.Items.{ItemsState}
use Rattle.ua_subscriptions.specs.SubscriptionCalls.{SubscriptionsState}
use Rattle.subscription_laws.specs.Answering.{Brings, AreBrought}
use Rattle.subscription_laws.specs.Messaging.{Made, run_made}
use Rattle.subscription_laws.specs.Runs.{Move, Ran, start, run}
use Rattle.subscription_laws.proofs.RunMessages.{IsRunNumbered, run_numbered}
use Rattle.subscription_laws.proofs.RunsKept.{IsRunKept, run_kept}
use Rattle.subscription_laws.proofs.TellingRuns.{all_answers}
use Rattle.server_laws.specs.EventMoves.{serving_moves, ticking_moves, moves_of}
use Rattle.server_laws.specs.Moving.{ran_at, StandIn, ComesOnBy}
use Rattle.server_laws.specs.Replying.{BringsItsMessages, BringsMessages, SendsReplies}
use Rattle.server_laws.specs.Tables.{rows_of_run, LeadTo}
use Rattle.ua_services.specs.Serving.{Serving}
use Rattle.ua_services.specs.Services.{serving_of, ticking_of}
use Rattle.ua_services.specs.declared.services.Services.{Services}
use Rattle.server_core.specs.Coherent.{reached, IfRuns}
use Rattle.server_core.specs.Handling.{asked_for, setting_at, handled}
use Rattle.server_core.specs.declared.world.World.{World}
use Rattle.server_core.specs.declared.parts.Core.{Core}
use Rattle.server_core.specs.declared.event.Event.{Event}
use Rattle.server_laws.proofs.MovingLemmas.{serving_on, ticking_on}
use Rattle.server_laws.proofs.TableLemmas.{comes_by_moves}

-- ---- among more replies

brought_among : (xs ys : List Reply) (ms : List Made) → StandIn xs ys → AreBrought xs ms → AreBrought ys ms
brought_among xs ys [] p h = tt
brought_among [] ys (m ∷ ms) p h = absurd h
brought_among (x ∷ xs) [] (m ∷ ms) p h = absurd p
brought_among (x ∷ xs) (y ∷ ys) (m ∷ ms) p h = by p h (λ rest told. brought_among xs ys ms rest told) (λ rest told. brought_among xs ys (m ∷ ms) rest told) (λ rest. brought_among (x ∷ xs) ys (m ∷ ms) rest h)
  where
    by : ((x ≡ y) × StandIn xs ys) ⊎ StandIn (x ∷ xs) ys → (Brings x m × AreBrought xs ms) ⊎ AreBrought xs (m ∷ ms) → (StandIn xs ys → AreBrought xs ms → AreBrought ys ms) →
        (StandIn xs ys → AreBrought xs (m ∷ ms) → AreBrought ys (m ∷ ms)) → (StandIn (x ∷ xs) ys → AreBrought ys (m ∷ ms)) → (Brings y m × AreBrought ys ms) ⊎ AreBrought ys (m ∷ ms)
    by (inl (same, rest)) (inl (b, told)) f g k = inl (subst (λ (reply : Reply). Brings reply m) same b, f rest told)
    by (inl (same, rest)) (inr told) f g k = inr (g rest told)
    by (inr rest) h f g k = inr (k rest)

same_behind : (front xs ys : List Reply) → front ++ xs ≡ front ++ ys → xs ≡ ys
same_behind [] xs ys e = e
same_behind (f ∷ front) xs ys e = same_behind front xs ys (cc)

-- ---- a serving

brings : (state : Services) (s : Serving) (rows : List Fired) (replies : List Reply) (moves : List Move) (made : List Made) → IsRunKept (ran_at state rows replies) → IsRunNumbered made (ran_at state rows replies) → ComesOnBy state moves s → BringsItsMessages (ran_at state rows replies) moves s
brings state s rows replies moves made kept numbered goes =
    let from = ran_at state rows replies in
    let went = goes rows replies in
    let told = all_answers moves made from kept numbered in
    let same : told.more ≡ went.answers = same_behind replies told.more went.answers (sym told.so ∙ ap (λ (r : Ran). r.replies) went.left) in
    record {
      went = went;
      brought = brought_among went.answers s.replies (run_made from moves) went.among (subst (λ (rs : List Reply). AreBrought rs (run_made from moves)) same told.brought);
    }

-- from where some calls led
brings_from : (config : Configuration) (before moves : List Move) (state : Services) (s : Serving) → (run config before).subscriptions ≡ state.subscriptions → (run config before).items ≡ state.items → ComesOnBy state moves s → BringsItsMessages (run config before) moves s
brings_from config before moves state s subs items goes =
    let r = run config before in
    let same : ran_at state r.rows r.replies ≡ r =
    ap (λ (x : SubscriptionsState). record { subscriptions = x; items = state.items; rows = r.rows; replies = r.replies }) (sym subs)
    ∙ ap (λ (x : ItemsState). record { subscriptions = r.subscriptions; items = x; rows = r.rows; replies = r.replies }) (sym items) in
    subst (λ (from : Ran). BringsItsMessages from moves s) same
    (brings state s r.rows r.replies moves (run_made (start config) before) (subst IsRunKept (sym same) (run_kept config before)) (subst (IsRunNumbered (run_made (start config) before)) (sym same) (run_numbered config before)) goes)

-- ---- a server

brings_by : (config : Configuration) (moves : List Move) (rows : List Fired) (server : Option World) → IfRuns (LeadTo config moves rows) server → IfRuns (BringsMessages (run config moves)) server
brings_by config moves rows None h = tt
brings_by config moves rows (Some world) h = record {
  requests = λ request. brings_from config moves (serving_moves world.core.setting request world.core.services) world.core.services (serving_of world.core.setting request world.core.services) h.subscriptions h.items (serving_on world.core.setting request world.core.services);
  ticks = λ clock. brings_from config moves (ticking_moves (setting_at world.core clock) world.core.services) world.core.services (ticking_of (setting_at world.core clock) world.core.services) h.subscriptions h.items (ticking_on (setting_at world.core clock) world.core.services);
}

pub brings_messages : (config : Configuration) (space : SpaceState) (events : List Event) → IfRuns (BringsMessages (run config (moves_of config space events))) (reached config space events).server
brings_messages config space events =
    let r = reached config space events in
    brings_by config (moves_of config space events) (rows_of_run r) r.server (comes_by_moves config space events)

pub sends_replies : (core : Core) → SendsReplies core
unfolding handled
sends_replies core = record {
  frames = λ conn frame request e. let t = taking_of core.setting conn core.connections frame in ap (λ (a : FrameOutcome). (asked_for conn (record core { connections = t.connections }) t.outs a).outs) e;
  ticks = λ clock. refl;
}
