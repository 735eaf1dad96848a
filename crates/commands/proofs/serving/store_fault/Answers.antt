use Rattle.commands.proofs.ServeLemmas.{not_for_memory}
use Rattle.commands.proofs.serving.store_fault.Goals as goal

pub returns-in_default : goal.returns-in_default
returns-in_default g c = not_for_memory c.args.fault c.in_default.not-Memory
