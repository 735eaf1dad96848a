use Rattle.std.proofs.Common.{List, [], ◌∷◌, ◌++◌, subst}
use Rattle.std.specs.List.{AllByRecursion}
use Rattle.subscription_laws.specs.Encounters.{Encounter, Meets, all_encounters}
use Rattle.subscription_laws.specs.OwnRequests.{AnswersItsOwn, IsOwnAnswer}
use Rattle.subscription_laws.specs.Tellings.{Telling}
use Rattle.server_laws.proofs.stories.an_answer_across_sessions.Goals as goal

pub returns : goal.returns
returns c config space events before m rest scene answer is met told none =
    let all = before ++ m ∷ [] in
    let own = c.table.ensures.answers_in_their_sessions config space events before m rest is in
    let here : AllByRecursion (AnswersItsOwn (all_encounters config all) all) (Meets scene ∷ []) = subst (λ (es : List Encounter). AllByRecursion (AnswersItsOwn (all_encounters config all) all) es) met own in
    let one : AllByRecursion (IsOwnAnswer all scene) (answer ∷ []) = subst (λ (ts : List Telling). AllByRecursion (IsOwnAnswer all scene) ts) told here.0 in
    let mine = one.0 in
    none mine.0 mine.1 mine.2
