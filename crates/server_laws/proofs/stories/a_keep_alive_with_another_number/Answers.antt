use Rattle.std.proofs.Common.{◌≡◌, List, [], ◌∷◌, refl, subst, ◌∙◌}
use Rattle.subscription_laws.specs.Tellings.{Telling, Told, IsNext, AreInSequence, number_next}
use Rattle.subscription_laws.specs.Tellings.Told.{KeepAlive}
use Rattle.server_laws.proofs.stories.a_keep_alive_with_another_number.Goals as goal

pub returns : goal.returns
returns c config space events first subscription number is tells other =
    let all : AreInSequence [] (first ∷ []) = subst (λ (ts : List Telling). AreInSequence [] ts) is (c.losses.ensures.answers_numbered config space events) in
    let next : IsNext [] first.kept (KeepAlive subscription number) = subst (λ (t : Told). IsNext [] first.kept t) tells all.0 in
    let one : number_next subscription [] ≡ 1 = refl in
    other (next.0 ∙ one)
