use Rattle.std.proofs.Common.{◌≡◌, List, [], ◌∷◌, ◌++◌, refl, subst}
use Rattle.ua_types.specs.declared.data_value.DataValue.{DataValue}
use Rattle.ua_item_queue.specs.Fates.{AccountEntry, GoesOn}
use Rattle.ua_item_queue.specs.Fates.Fate.{Waits, WasSent}
use Rattle.server_laws.specs.Fates.{account_after}
use Rattle.server_laws.specs.Stories.{sent, waiting}
use Rattle.server_laws.proofs.stories.a_fate_that_changes_back.Goals as goal

pub returns : goal.returns
returns c config space events more number value is later =
    let on = (c.losses.ensures.fates config space events number).for_good more in
    let from : GoesOn (sent value ∷ []) (account_after config space (events ++ more) number) = subst (λ (ts : List (AccountEntry DataValue)). GoesOn ts (account_after config space (events ++ more) number)) is on in
    let to : GoesOn (sent value ∷ []) (waiting value ∷ []) = subst (λ (us : List (AccountEntry DataValue)). GoesOn (sent value ∷ []) us) later from in
    let no : Waits ≡ WasSent = to.0.last_fate refl in
    absurd (cc)
