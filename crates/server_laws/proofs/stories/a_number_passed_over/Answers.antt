use Rattle.std.proofs.Common.{◌≡◌, List, [], ◌∷◌, subst, sym, ap, ◌∙◌}
use Rattle.ua_subscriptions.specs.Messages.{number_after}
use Rattle.ua_subscriptions.specs.declared.messages.KeptMessage.{KeptMessage}
use Rattle.subscription_laws.specs.Numbering.{AreNumbered}
use Rattle.server_laws.proofs.stories.a_number_passed_over.Goals as goal

pub returns : goal.returns
returns c config space events number first next is one three =
    let numbered : AreNumbered 0 (first ∷ next ∷ []) = subst (λ (ms : List KeptMessage). AreNumbered 0 ms) is ((c.losses.ensures.message_numbers config space events).numbered number) in
    let two : next.number ≡ number_after 1 = numbered.1.0 ∙ ap number_after one in
    let no : 3 ≡ 2 = sym three ∙ two in
    absurd (cc)
