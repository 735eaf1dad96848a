use Rattle.ua_binary.proofs.Counts.{list_within}
use Rattle.ua_binary.proofs.laws.list_is_within_its_bytes.Goals as goal

pub returns : goal.returns
returns g c = list_within g.T.Wire.reading
