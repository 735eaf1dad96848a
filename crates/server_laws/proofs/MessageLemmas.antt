-- The messages that a server makes are those of the calls by which it came, and more events only add calls.
use Rattle.std.proofs.Common.{◌≡◌, ℕ, Bool, true, false, cond, List, [], ◌∷◌, ◌++◌, map, fold, Option, Some, None, Result, Ok, Err, refl, sym, ap, subst, ◌∙◌, append_assoc}
use Rattle.std.proofs.lemmas.Bool.{eq-eqb}
use Rattle.std.proofs.lemmas.List.Concat.{flat_map-append}
use Rattle.std.specs.List.{AllByRecursion, flat_map}
use Rattle.std.specs.Option.{is_some}
use Rattle.std.specs.Prelude.{find}
use Rattle.ua_types.specs.Configuration.{Configuration}
use Rattle.ua_types.specs.declared.moment.Moment.{Moment}
use Rattle.ua_space.specs.Nodes.{SpaceState}
use Rattle.ua_subscriptions.specs.declared.messages.KeptMessage.{KeptMessage}
use Rattle.ua_subscriptions.specs.declared.subscription.Subscription.{Subscription}
use Rattle.ua_subscriptions.specs.Answers.{number_of}
use Rattle.ua_subscriptions.specs.Making.{bytes_of, kept_bytes_by, kept_at, republished}
use Rattle.ua_subscriptions.specs.Messages.{has_number}
use Rattle.ua_subscriptions.specs.SubscriptionCalls.{SubscriptionsState, stage_of}
use Rattle.ua_subscriptions.specs.Tables.{kept_numbers_by, subscription_at}
use Rattle.ua_monitored_items.specs.Items.{ItemsState}
use Rattle.ua_services.specs.declared.services.Services.{Services}
use Rattle.subscription_laws.specs.Messaging.{Made, moved_made, run_made, messages_for, IsAmong, NotesComeNext}
use Rattle.subscription_laws.specs.Runs.{Move, moved, start, run}
use Rattle.subscription_laws.proofs.Folds.{of_run-append}
use Rattle.subscription_laws.proofs.RunMessages.{messages_numbered, messages_live, messages_kept, messages_given_again, messages_noted}
use Rattle.server_laws.specs.Dealings.{Dealing, event_dealings, dealings_then, dealings_from, dealings_of}
use Rattle.server_laws.specs.EventMoves.{moves_at, moves_of}
use Rattle.server_core.specs.Coherent.{reached, IfRuns}
use Rattle.server_laws.specs.Messages.{LastsAreTheirs, KeepsWhatItShows, made_by, NumbersItsMessages, GivesTheFirstBytes}
use Rattle.server_core.specs.Stepping.{WorldStep, step_of}
use Rattle.server_laws.specs.Tables.{rows_of_run, LeadTo}
use Rattle.server_core.specs.World.{opening}
use Rattle.server_core.specs.declared.world.World.{World}
use Rattle.server_core.specs.declared.event.Event.{Event}
use Rattle.server_core.specs.declared.out.StepFault.{StepFault}
use Rattle.server_laws.proofs.TableLemmas.{comes_by_moves}

-- ---- the calls of events

-- more events only add to what is asked
add_by : (world : World) (event : Event) (r : Result WorldStep StepFault) (long short : World → List Dealing) → ((next : World) → (later : List Dealing) × (long next ≡ short next ++ later)) →
    (later : List Dealing) × (dealings_then world event r long ≡ dealings_then world event r short ++ later)
add_by world event (Ok s) long short f =
    let rest = f s.world in
    let first = event_dealings world event in
    (rest.0, ap (λ (ds : List Dealing). first ++ ds) rest.1 ∙ sym (append_assoc first (short s.world) rest.0))
add_by world event (Err fault) long short f = ([], refl)

dealings_add : (events more : List Event) (world : World) → (later : List Dealing) × (dealings_from world (events ++ more) ≡ dealings_from world events ++ later)
dealings_add [] more world = (dealings_from world more, refl)
dealings_add (event ∷ events) more world =
    add_by world event (step_of world event) (λ next. dealings_from next (events ++ more)) (λ next. dealings_from next events) (λ next. dealings_add events more next)

-- and so to the calls
pub more_moves : (config : Configuration) (space : SpaceState) (events more : List Event) → (later : List Move) × (moves_of config space (events ++ more) ≡ moves_of config space events ++ later)
more_moves config space events more =
    let added = dealings_add events more (opening config space) in
    (flat_map moves_at added.0, ap (flat_map moves_at) added.1 ∙ flat_map-append moves_at (dealings_of config space events) added.0)

-- ---- under each number that is shown a message is kept

abbrev IsKept : List KeptMessage → ℕ → Type 0
IsKept kept wanted = is_some (bytes_of (find (has_number wanted) kept)) ≡ true

kept_behind : (m : KeptMessage) (kept : List KeptMessage) (wanted : ℕ) → IsKept kept wanted → IsKept (m ∷ kept) wanted
kept_behind m kept wanted h = by (has_number wanted m)
  where
    by : (b : Bool) → is_some (bytes_of (cond b (Some m) (find (has_number wanted) kept))) ≡ true
    by true = refl
    by false = h

all_behind : (m : KeptMessage) (kept : List KeptMessage) (numbers : List ℕ) → AllByRecursion (IsKept kept) numbers → AllByRecursion (IsKept (m ∷ kept)) numbers
all_behind m kept [] h = tt
all_behind m kept (n ∷ ns) h = (kept_behind m kept n h.0, all_behind m kept ns h.1)

kept_first : (m : KeptMessage) (kept : List KeptMessage) → IsKept (m ∷ kept) m.number
kept_first m kept = ap (λ (b : Bool). is_some (bytes_of (cond b (Some m) (find (has_number m.number) kept)))) (eq-eqb m.number m.number refl)

all_kept : (kept : List KeptMessage) → AllByRecursion (IsKept kept) (map number_of kept)
all_kept [] = tt
all_kept (m ∷ kept) = (kept_first m kept, all_behind m kept (map number_of kept) (all_kept kept))

shown_by : (found : Option Subscription) → AllByRecursion (λ wanted. is_some (kept_bytes_by wanted found) ≡ true) (kept_numbers_by found)
shown_by None = tt
shown_by (Some s) = all_kept s.kept

shows_kept : (world : World) → KeepsWhatItShows world
shows_kept world number = let subs : SubscriptionsState = world.core.services.subscriptions in shown_by (subscription_at number subs.table.subscriptions)

-- ---- a server's

module _ (config : Configuration) (space : SpaceState) (events : List Event) where
  abbrev moves : List Move
  moves = moves_of config space events

  abbrev made : List Made
  made = made_by config space events

  adds : (more : List Event) → (later : List Made) × (made_by config space (events ++ more) ≡ made ++ later)
  adds more =
      let added = more_moves config space events more in
      (run_made (fold moved (start config) moves) added.0, ap (run_made (start config)) added.1 ∙ of_run-append moved_made moves added.0 (start config))

  -- what holds of the subscriptions and items after the calls, holds of the server's
  holds : (P : SubscriptionsState → ItemsState → Type 0) → P (run config moves).subscriptions (run config moves).items →
      IfRuns (λ (world : World). let services : Services = world.core.services in P services.subscriptions services.items) (reached config space events).server
  holds P p = by (reached config space events).server (comes_by_moves config space events)
    where
      by : (server : Option World) → IfRuns (LeadTo config moves (rows_of_run (reached config space events))) server → IfRuns (λ (world : World). let services : Services = world.core.services in P services.subscriptions services.items) server
      by None h = tt
      by (Some world) h = subst (λ (items : ItemsState). P world.core.services.subscriptions items) h.items (subst (λ (subs : SubscriptionsState). P subs (run config moves).items) h.subscriptions p)

  -- what holds of each world
  always : (P : World → Type 0) → ((world : World) → P world) → IfRuns P (reached config space events).server
  always P p = by (reached config space events).server
    where
      by : (server : Option World) → IfRuns P server
      by None = tt
      by (Some world) = p world

  pub numbers_messages : NumbersItsMessages config space events
  numbers_messages = record {
    numbered = messages_numbered config moves;
    adds = adds;
    lasts = holds (λ (subs : SubscriptionsState) (items : ItemsState). LastsAreTheirs made subs.table) (λ number s found. (messages_live config moves number s found).last);
    notes = holds (λ (subs : SubscriptionsState) (items : ItemsState). NotesComeNext made subs.table) (messages_noted config moves);
  }

  pub gives_first_bytes : GivesTheFirstBytes config space events
  gives_first_bytes = record {
    kept = holds (λ (subs : SubscriptionsState) (items : ItemsState). (number wanted : ℕ) (bytes : List ℕ) → kept_at number wanted subs.table ≡ Some bytes → IsAmong (record { number = wanted; bytes = bytes }) (messages_for number made)) (messages_kept config moves);
    republished = holds (λ (subs : SubscriptionsState) (items : ItemsState). (clock : Moment) (session number wanted : ℕ) (bytes : List ℕ) → (republished session number wanted (stage_of subs items clock)).answer ≡ Ok bytes →
        IsAmong (record { number = wanted; bytes = bytes }) (messages_for number made)) (messages_given_again config moves);
    shown = always KeepsWhatItShows shows_kept;
  }
