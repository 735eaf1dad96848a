-- Once a server was shut down, it has no subscription and no item.
use Rattle.std.proofs.Common.{◌≡◌, ◌≢◌, ◌⊎◌, inl, inr, ℕ, Bool, true, false, not, cond, List, [], ◌∷◌, ◌++◌, map, Option, Some, None, Result, Ok, Err, refl, sym, ap, ◌∙◌}
use Rattle.std.specs.Prelude.{⊤}
use Rattle.std.specs.FinMap.{FinMap, get, remove, get-empty}
use Rattle.std.specs.List.{AllByRecursion}
use Rattle.std.specs.Option.{is_some}
use Rattle.std.specs.Ordering.{nat_cmp}
use Rattle.ua_types.specs.Configuration.{Configuration}
use Rattle.ua_types.specs.Moments.{later}
use Rattle.ua_types.specs.declared.moment.Moment.{Moment}
use Rattle.ua_types.specs.declared.status.Status.{Status}
use Rattle.ua_types.specs.declared.status.TheConstants.Status as status
use Rattle.ua_transport.specs.Feeding.{Framing}
use Rattle.server_messages.specs.declared.setting.Setting.{Setting}
use Rattle.server_connections.specs.Connecting.{is_known, is_new}
use Rattle.ua_space.specs.Nodes.{SpaceState}
use Rattle.ua_monitored_items.specs.ItemTables.{item_at}
use Rattle.ua_monitored_items.specs.declared.item.Item.{Item}
use Rattle.ua_session.specs.Sessions.{ended_by}
use Rattle.ua_subscriptions.specs.SubscriptionCalls.{stage_of}
use Rattle.ua_subscriptions.specs.Tables.{TableState, subscription_at}
use Rattle.ua_subscriptions.specs.declared.subscription.Subscription.{Subscription}
use Rattle.ua_subscriptions.proofs.Shutdowns.{nothing_left}
use Rattle.ua_services.specs.Services.{ticking_of, shutting_of}
use Rattle.ua_services.specs.Serving.{Serving}
use Rattle.ua_services.specs.declared.services.Services.{Services}
use Rattle.subscription_laws.specs.Runs.{Move, Ran}
use Rattle.subscription_laws.proofs.ShutdownLemmas.{none_comes}
use Rattle.subscription_laws.proofs.Walks.{makes}
use Rattle.server_core.specs.Coherent.{reached, IfRuns}
use Rattle.server_core.specs.Effects.{Effect}
use Rattle.server_core.specs.Handling.{setting_at}
use Rattle.server_core.specs.Stepping as stepping
use Rattle.server_core.specs.Stepping.{WorldStep, world_step, fed_to, fed, step_of}
use Rattle.server_core.specs.World.{opening}
use Rattle.server_core.specs.declared.event.Event.{Event}
use Rattle.server_core.specs.declared.event.Event.TheVariants.{Opened, Bytes, Gone, Tick, Shutdown}
use Rattle.server_core.specs.declared.out.StepFault.{StepFault}
use Rattle.server_core.specs.declared.out.StepFault.TheVariants.{KnownConnection, UnknownConnection}
use Rattle.server_core.specs.declared.world.World.{World}
use Rattle.server_core.proofs.Keeping.{Kept, lift}
use Rattle.collections.proofs.NumberMaps.{get_removed, get_removed_elsewhere}
use Rattle.server_laws.specs.EventMoves.{end_move, ticking_moves}
use Rattle.server_laws.specs.Moving.{ComesOnBy, ran_at}
use Rattle.server_laws.specs.Tables.{ItemsAreOfLive, IsEmptyOnceShut, ItemsHaveSubscriptions}
use Rattle.server_core.proofs.ApartLemmas.{fed_apart}
use Rattle.server_laws.proofs.MovingLemmas.{ticking_on, shutting_on}
use Rattle.server_laws.proofs.TableLemmas.{items_live}
use Rattle.subscription_laws.proofs.Entries.{same_or_not}

-- it hears no connection, and has no subscription
abbrev IsEmpty : World → Type 0
IsEmpty world = ((conn : ℕ) → get world.framers conn ≡ None) × (let services : Services = world.core.services in services.subscriptions.table.subscriptions ≡ [])

abbrev EndsEmpty : World → Type 0
EndsEmpty world = world.core.is_shut ≡ true → IsEmpty world

-- ---- a tick, which makes none

abbrev Plain : Move → Type 0
Plain m = makes m ≡ false

ends_plain : (setting : Setting) (numbers : List ℕ) (rest : List Move) → AllByRecursion Plain rest → AllByRecursion Plain (map (end_move setting) numbers ++ rest)
ends_plain setting [] rest h = h
ends_plain setting (n ∷ ns) rest h = (refl, ends_plain setting ns rest h)

none_after : (before : Services) (moves : List Move) (s : Serving) → ComesOnBy before moves s → AllByRecursion Plain moves → before.subscriptions.table.subscriptions ≡ [] → s.state.subscriptions.table.subscriptions ≡ []
none_after before moves s goes plain none = sym (ap (λ (r : Ran). r.subscriptions.table.subscriptions) (goes [] []).left) ∙ none_comes moves (ran_at before [] []) plain none

ticked_empty : (world : World) (now : Moment) → EndsEmpty world → EndsEmpty (stepping.ticked world now).world
ticked_empty world now h is =
    let setting = setting_at world.core (later world.core.setting.clock now) in
    let empty = h is in
    (empty.0, none_after world.core.services (ticking_moves setting world.core.services) (ticking_of setting world.core.services) (ticking_on setting world.core.services) (ends_plain setting (ended_by world.core.services.sessions setting.clock) _ (refl, tt)) empty.1)

-- ---- the shutdown

none_left : (setting : Setting) (services : Services) → (shutting_of setting services).state.subscriptions.table.subscriptions ≡ []
none_left setting services =
    sym (ap (λ (r : Ran). r.subscriptions.table.subscriptions) (shutting_on setting services [] []).left) ∙ ap (λ (t : TableState). t.subscriptions) (nothing_left (stage_of services.subscriptions services.items setting.clock))

shut_empty : (world : World) → EndsEmpty world → EndsEmpty (stepping.shut_down world).world
unfolding stepping.shut_down
shut_empty world h = by world.core.is_shut
  where
    by : (b : Bool) → EndsEmpty (cond b (world_step world []) (stepping.ended world)).world
    by true = h
    by false = λ is. ((λ conn. get-empty nat_cmp conn), none_left world.core.setting world.core.services)

-- ---- bytes, of a connection that is heard still

fed_empty : (world : World) (conn : ℕ) (piece : List ℕ) → EndsEmpty world → EndsEmpty (fed world conn piece).world
unfolding fed
fed_empty world conn piece h = by (get world.framers conn) refl (ap (λ (w : World). w.core.is_shut) (fed_apart world conn piece).rest)
  where
    by : (o : Option Framing) → get world.framers conn ≡ o → (fed_to world conn piece o).world.core.is_shut ≡ world.core.is_shut → EndsEmpty (fed_to world conn piece o).world
    by None found same = h
    by (Some framing) found same = λ is.
        let clash : None ≡ Some framing = sym ((h (sym same ∙ is)).0 conn) ∙ found in
        absurd (cc)

-- ---- any event

abbrev Left : Result WorldStep StepFault → Type 0
Left r = Kept EndsEmpty (λ (effects : List Effect). ⊤) r

either : (b : Bool) (x y : Result WorldStep StepFault) → Left x → Left y → Left (cond b x y)
either true x y p q = p
either false x y p q = q

none_greeted : (b : Bool) (code : Status) (o : Option Status) → cond b (Some code) o ≡ None → b ≡ true → ⊥
none_greeted true code o e is = absurd (cc)
none_greeted false code o e is = absurd (cc)

opened_empty : (world : World) (conn : ℕ) (key : List ℕ) → EndsEmpty world → (why : Option Status) → stepping.refusal_of world ≡ why → Left (Ok (stepping.opened_by world conn key why))
opened_empty world conn key h None is = ((λ shut. absurd (none_greeted world.core.is_shut status.BAD_SHUTDOWN _ is shut)), tt)
opened_empty world conn key h (Some code) is = (h, tt)

gone_at : (framers : FinMap nat_cmp Framing) (conn q : ℕ) → get framers q ≡ None → get (remove framers conn) q ≡ None
gone_at framers conn q none = by (same_or_not q conn)
  where
    by : (q ≡ conn) ⊎ (q ≢ conn) → get (remove framers conn) q ≡ None
    by (inl same) = ap (λ (k : ℕ). get (remove framers conn) k) same ∙ get_removed framers conn
    by (inr other) = get_removed_elsewhere framers conn q other ∙ none

step_empty : (world : World) (event : Event) → EndsEmpty world → Left (step_of world event)
step_empty world (Opened conn key) h =
    either (not (is_new world.core.connections conn)) (Err KnownConnection) (Ok (stepping.opened_by world conn key (stepping.refusal_of world))) tt (opened_empty world conn key h (stepping.refusal_of world) refl)
step_empty world (Bytes conn bytes) h = either (is_known world.core.connections conn) (Ok (fed world conn bytes)) (Err UnknownConnection) (fed_empty world conn bytes h, tt) tt
step_empty world (Gone conn) h =
    either (is_known world.core.connections conn) (Ok (world_step (stepping.forgotten world conn) [])) (Err UnknownConnection) ((λ is. let empty = h is in ((λ q. gone_at world.framers conn q (empty.0 q)), empty.1)), tt) tt
step_empty world (Tick now) h = (ticked_empty world now h, tt)
step_empty world Shutdown h = (shut_empty world h, tt)

-- ---- any run

no_items : (world : World) → EndsEmpty world → ItemsAreOfLive world → IsEmptyOnceShut world
no_items world h live is number = by (item_at number world.core.services.items.items) refl
  where
    by : (o : Option Item) → item_at number world.core.services.items.items ≡ o → o ≡ None
    by None e = refl
    by (Some item) e =
        let found : is_some (subscription_at item.subscription []) ≡ true = ap (λ (xs : List (ℕ × Subscription)). is_some (subscription_at item.subscription xs)) (sym (h is).1) ∙ live number item e in
        absurd (cc)

both_run : (P Q R : World → Type 0) → ((world : World) → P world → Q world → R world) → (server : Option World) → IfRuns P server → IfRuns Q server → IfRuns R server
both_run P Q R f None p q = tt
both_run P Q R f (Some world) p q = f world p q

pub items_owned : (config : Configuration) (space : SpaceState) (events : List Event) → ItemsHaveSubscriptions config space events
items_owned config space events =
    let empty = (lift EndsEmpty (λ (effects : List Effect). ⊤) step_empty events (opening config space) (λ is. absurd (cc))).0 in
    let live = items_live config space events in
    record { live = live; shut = both_run EndsEmpty ItemsAreOfLive IsEmptyOnceShut no_items (reached config space events).server empty live }
