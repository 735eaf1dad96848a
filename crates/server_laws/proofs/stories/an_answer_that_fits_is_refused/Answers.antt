use Rattle.std.proofs.Common.{◌≡◌, inl, inr, ℕ, List, [], ◌∷◌, Some, Result, Ok, Err, subst, ap, ◌∙◌}
use Rattle.std.specs.List.{AllByRecursion}
use Rattle.ua_transport.specs.Cutting.{send_of}
use Rattle.ua_transport.specs.declared.send_fault.SendFault.{SendFault}
use Rattle.ua_transport.specs.declared.send_fault.SendFault.TheVariants.{TooLarge}
use Rattle.server_connections.specs.Reactions.{sends}
use Rattle.server_laws.specs.Postings.{Posting, IsSentBy, IsSent}
use Rattle.server_laws.proofs.stories.an_answer_that_fits_is_refused.Goals as goal

pub returns : goal.returns
returns c config space events p channel chunks configured posts has fits other =
    let all : AllByRecursion IsSent (p ∷ []) = subst (λ (ps : List Posting). AllByRecursion IsSent ps) posts (c.losses.ensures.answers_are_sent config space events configured) in
    by (subst (IsSentBy p) has all.0)
  where
    same : (answer : Result (List (List ℕ)) SendFault) (xs ys : List (List ℕ)) → answer ≡ Ok xs → answer ≡ Ok ys → xs ≡ ys
    same answer xs ys e f = cc

    never : (answer : Result (List (List ℕ)) SendFault) → answer ≡ Err TooLarge → answer ≡ Ok chunks → ⊥
    never answer e f = absurd (cc)

    by : IsSentBy p (Some channel) → ⊥
    by (inl goes) = other (goes.sent ∙ ap (sends p.reply.origin.conn) (same (send_of channel p.reply.origin.id p.reply.body).answer (goes.first ∷ goes.more) chunks goes.chunks fits))
    by (inr late) = never (send_of channel p.reply.origin.id p.reply.body).answer late.0 fits
