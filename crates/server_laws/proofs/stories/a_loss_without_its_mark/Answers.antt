use Rattle.std.proofs.Common.{◌≡◌, true, false, List, [], ◌∷◌, refl, subst}
use Rattle.ua_types.specs.declared.data_value.DataValue.{DataValue}
use Rattle.ua_item_queue.specs.Fates.{AccountEntry, LossesAreMarked}
use Rattle.server_laws.specs.Stories.{lost, waiting}
use Rattle.server_laws.proofs.stories.a_loss_without_its_mark.Goals as goal

pub returns : goal.returns
returns c config space events number first next is =
    let told : LossesAreMarked (lost first ∷ waiting next ∷ []) = subst (λ (ts : List (AccountEntry DataValue)). LossesAreMarked ts) is (c.losses.ensures.overflow_marks config space events number).told in
    let no : false ≡ true = told.0 refl in
    absurd (cc)
