use Rattle.ua_space.proofs.Making.{spaces_made}
use Rattle.ua_space.proofs.laws.spaces_are_made.Goals as goal

pub returns : goal.returns
returns c = spaces_made
