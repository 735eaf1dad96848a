use Rattle.scenario_run.proofs.FrameLemmas.{hello_read, opening_read, closing_read}
use Rattle.scenario_run.proofs.laws.channels_are_read_again.Goals as goal

pub returns : goal.returns
returns c = record { hello = hello_read; opening = opening_read; closing = closing_read }
