use Rattle.std.proofs.Common.{List, [], ◌∷◌, map, subst}
use Rattle.subscription_laws.specs.Tellings.{Telling, answer_of}
use Rattle.server_laws.specs.Moving.{StandIn}
use Rattle.server_laws.specs.Postings.{Posting, reply_posted, posted}
use Rattle.server_laws.proofs.stories.an_answer_that_is_not_posted.Goals as goal

pub returns : goal.returns
returns c config space events answer told none =
    subst (λ (ps : List Posting). StandIn (map answer_of (answer ∷ [])) (map reply_posted ps)) none
    (subst (λ (ts : List Telling). StandIn (map answer_of ts) (map reply_posted (posted config space events))) told (c.losses.ensures.answers_go_out config space events).are_posted)
