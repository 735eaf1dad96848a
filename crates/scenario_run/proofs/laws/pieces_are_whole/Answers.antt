use Rattle.scenario_run.proofs.Pieces.{whole_pieces}
use Rattle.scenario_run.proofs.laws.pieces_are_whole.Goals as goal

pub returns : goal.returns
returns c = whole_pieces
