use Rattle.ua_transport.proofs.CuttingLemmas.{chunk_count_of_send}
use Rattle.ua_transport.proofs.laws.chunk_count_is_exact.Goals as goal

pub returns : goal.returns
returns c = chunk_count_of_send
