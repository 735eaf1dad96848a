-- In whose session a Publish request came, and whose answers it gets (IEC 62541-4, 5.13: the publishing queue of a Session).
use Rattle.std.specs.Prelude.{◌≡◌, ⊤, ◌⊎◌, ℕ, List, [], ◌∷◌, ◌++◌, Some}
use Rattle.std.specs.List.{AllByRecursion}
use Rattle.ua_types.specs.Configuration.{Configuration}
use Rattle.server_messages.specs.declared.origin.Origin.{Origin}
use Rattle.ua_subscriptions.specs.Scenes.{Scene}
use Rattle.subscription_laws.specs.Encounters.{TellsNote, Encounter, Meets, Does, encounters, all_encounters}
use Rattle.subscription_laws.specs.Runs.{Move, run}
use Rattle.subscription_laws.specs.Tellings.{Telling, told_at}

-- a request of this origin is among some calls, and came in this session
abbrev pub CameIn : ℕ → Origin → List Move → Type 0
CameIn session origin [] = ⊥
CameIn session origin (Move.Publish clock own asked acks ∷ moves) = ((own ≡ session) × (asked.origin ≡ origin)) ⊎ CameIn session origin moves
CameIn session origin (move ∷ moves) = CameIn session origin moves

-- the subscription of this number was met while it was of this session. None is ever of another
abbrev pub WasOf : (session number : ℕ) → List Encounter → Type 0
WasOf session number [] = ⊥
WasOf session number (Meets c ∷ es) = ((c.round.own ≡ number) × (c.subscription.session ≡ Some session)) ⊎ WasOf session number es
WasOf session number (Does w b ∷ es) = WasOf session number es

-- what a row answers is given to a request that came in the session of its subscription
abbrev pub IsOwnAnswer : List Move → Scene → Telling → Type 0
IsOwnAnswer moves c t = (session : ℕ) × (c.subscription.session ≡ Some session) × CameIn session t.call.origin moves

-- so it is with each answer at an encounter. The note of a time-out is given in the session that its subscription had; what else is
-- answered beside the rows is about no subscription
abbrev pub AnswersItsOwn : List Encounter → List Move → Encounter → Type 0
AnswersItsOwn es moves (Meets c) = AllByRecursion (IsOwnAnswer moves c) (told_at (Meets c))
AnswersItsOwn es moves (Does w (TellsNote session asked note)) = WasOf session note.subscription es × CameIn session asked.origin moves
AnswersItsOwn es moves (Does w b) = ⊤

-- of a call behind others, by all that was met and came up to then
abbrev pub AreOwnAnswers : Configuration → List Move → Move → Type 0
AreOwnAnswers config moves m = let all = moves ++ m ∷ [] in AllByRecursion (AnswersItsOwn (all_encounters config all) all) (encounters (run config moves) m)
