use Rattle.std.proofs.Common.{◌≡◌, inl, inr, ℕ, List, [], ◌∷◌, Option, Some, None, sym, subst, ◌∙◌}
use Rattle.std.specs.List.{AllByRecursion}
use Rattle.ua_types.specs.declared.status.TheConstants.Status as status
use Rattle.ua_messages.specs.ServiceFaults.{fault_body}
use Rattle.ua_transport.specs.ChannelStates.{ChannelState}
use Rattle.server_connections.specs.Reactions.{sends}
use Rattle.server_laws.specs.Postings.{Posting, GoesBy, IsSentBy, IsSent}
use Rattle.server_laws.proofs.stories.an_answer_that_is_swallowed.Goals as goal

pub returns : goal.returns
returns c config space events p configured posts silent =
    let all : AllByRecursion IsSent (p ∷ []) = subst (λ (ps : List Posting). AllByRecursion IsSent ps) posts (c.losses.ensures.answers_are_sent config space events configured) in
    by p.channel all.0
  where
    nothing : (s : ChannelState) (body : List ℕ) → GoesBy s p body → ⊥
    nothing s body goes = let clash : [] ≡ sends p.reply.origin.conn (goes.first ∷ goes.more) = sym silent ∙ goes.sent in absurd (cc)

    by : (found : Option ChannelState) → IsSentBy p found → ⊥
    by None sent = sent
    by (Some s) (inl goes) = nothing s p.reply.body goes
    by (Some s) (inr late) = nothing s (fault_body p.reply.origin.handle status.BAD_RESPONSE_TOO_LARGE p.clock) late.1
