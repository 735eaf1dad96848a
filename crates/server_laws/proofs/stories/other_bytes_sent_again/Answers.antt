use Rattle.std.proofs.Common.{◌≡◌, ℕ, List, [], ◌∷◌, Option, subst, ap, inl, inr}
use Rattle.ua_subscriptions.specs.declared.messages.KeptMessage.{KeptMessage}
use Rattle.subscription_laws.specs.Messaging.{IsAmong}
use Rattle.server_core.specs.Coherent.{IfRuns}
use Rattle.server_core.specs.declared.world.World.{World}
use Rattle.server_laws.specs.Messages.{made_by, KeepsWhatWasMade}
use Rattle.server_laws.proofs.stories.other_bytes_sent_again.Goals as goal

-- the one that was made has these bytes
alone : (made : KeptMessage) (bytes : List ℕ) → IsAmong (record { number = made.number; bytes = bytes }) (made ∷ []) → bytes ≡ made.bytes
alone made bytes (inl same) = ap (λ (m : KeptMessage). m.bytes) same
alone made bytes (inr none) = absurd none

pub returns : goal.returns
returns c config space events number world made bytes is runs kept other =
    let keeps : KeepsWhatWasMade (made_by config space events) world =
    subst (λ (server : Option World). IfRuns (KeepsWhatWasMade (made_by config space events)) server) runs (c.losses.ensures.republish_gives_the_first_bytes config space events).kept
    in
    other (alone made bytes (subst (λ (ms : List KeptMessage). IsAmong (record { number = made.number; bytes = bytes }) ms) is (keeps number made.number bytes kept)))
