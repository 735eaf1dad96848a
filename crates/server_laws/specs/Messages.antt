-- The messages with notifications that a server makes (IEC 62541-4, 5.13: SequenceNumber, and the retransmission queue).
use Rattle.std.specs.Prelude.{◌≡◌, ℕ, true, List, ◌++◌, Some, is_some, Ok}
use Rattle.std.specs.List.{AllByRecursion}
use Rattle.ua_types.specs.Configuration.{Configuration}
use Rattle.ua_types.specs.declared.moment.Moment.{Moment}
use Rattle.ua_space.specs.Nodes.{SpaceState}
use Rattle.ua_subscriptions.specs.Making.{republished}
use Rattle.ua_subscriptions.specs.SubscriptionCalls.{stage_of}
use Rattle.ua_subscriptions.specs.Tables.{TableState, subscription_at}
use Rattle.ua_subscriptions.specs.declared.subscription.Subscription.{Subscription}
use Rattle.subscription_laws.specs.Messaging.{Made, run_made, messages_for, IsAmong, AllAreNumbered, NotesComeNext}
use Rattle.subscription_laws.specs.Numbering.{last_number}
use Rattle.subscription_laws.specs.Runs.{start}
use Rattle.ua_services.specs.declared.services.Services.{Services}
use Rattle.server_core.specs.Coherent.{reached, IfRuns}
use Rattle.server_core.specs.Subscriptions.{kept_numbers_on, kept_on}
use Rattle.server_laws.specs.EventMoves.{moves_of}
use Rattle.server_laws.specs.Tables.{IfShown}
use Rattle.server_core.specs.declared.world.World.{World}
use Rattle.server_core.specs.declared.event.Event.{Event}

-- a live subscription has the number of its last message
abbrev pub LastsAreTheirs : List Made → TableState → Type 0
LastsAreTheirs made t = (number : ℕ) (s : Subscription) → subscription_at number t.subscriptions ≡ Some s → last_number 0 (messages_for number made) ≡ s.number

-- what the server keeps is, byte for byte, a message that was made under that number
abbrev pub KeepsWhatWasMade : List Made → World → Type 0
KeepsWhatWasMade made world = (number wanted : ℕ) (bytes : List ℕ) → kept_on (Some world) number wanted ≡ Some bytes →
    IsAmong (record { number = wanted; bytes = bytes }) (messages_for number made)

-- and what Republish gives, whenever and to whichever session, is so, too
abbrev pub GivesAgainWhatWasMade : List Made → World → Type 0
GivesAgainWhatWasMade made world = (clock : Moment) (session number wanted : ℕ) (bytes : List ℕ) → let services : Services = world.core.services in
    (republished session number wanted (stage_of services.subscriptions services.items clock)).answer ≡ Ok bytes →
    IsAmong (record { number = wanted; bytes = bytes }) (messages_for number made)

-- under each number that it shows it keeps a message
abbrev pub KeepsWhatItShows : World → Type 0
KeepsWhatItShows world = (number : ℕ) → AllByRecursion (λ wanted. is_some (kept_on (Some world) number wanted) ≡ true) (kept_numbers_on (Some world) number)

-- the messages that were made in a run, in the order in which they were made
abbrev pub made_by : Configuration → SpaceState → List Event → List Made
made_by config space events = run_made (start config) (moves_of config space events)

-- They are numbered without a gap, and more events only add messages. A live subscription has the number of its last message, and a
-- note of a time-out that of the message that would have come next
pub record NumbersItsMessages (config : Configuration) (space : SpaceState) (events : List Event) : Type 0 where
  pub numbered : AllAreNumbered (made_by config space events)
  pub adds : (more : List Event) → (later : List Made) × (made_by config space (events ++ more) ≡ made_by config space events ++ later)
  pub lasts : IfShown (LastsAreTheirs (made_by config space events)) (reached config space events).server
  pub notes : IfShown (NotesComeNext (made_by config space events)) (reached config space events).server

-- What the server keeps, and what Republish gives, are the bytes with which the message was made; and it keeps what it shows
pub record GivesTheFirstBytes (config : Configuration) (space : SpaceState) (events : List Event) : Type 0 where
  pub kept : IfRuns (KeepsWhatWasMade (made_by config space events)) (reached config space events).server
  pub republished : IfRuns (GivesAgainWhatWasMade (made_by config space events)) (reached config space events).server
  pub shown : IfRuns KeepsWhatItShows (reached config space events).server
