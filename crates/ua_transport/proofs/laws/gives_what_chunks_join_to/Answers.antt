use Rattle.ua_transport.proofs.JoiningLemmas.{joined_all}
use Rattle.ua_transport.proofs.laws.gives_what_chunks_join_to.Goals as goal

pub returns : goal.returns
returns c = joined_all
