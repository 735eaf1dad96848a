use Rattle.std.proofs.Common.{◌∙◌, ap, [], ◌∷◌}
use Rattle.std.specs.Prelude.{replicate}
use Rattle.server_core.specs.Running.{run_of}
use Rattle.server_core.specs.World.{world_of}
use Rattle.server_core.specs.declared.event.Event.TheVariants.{Opened}
use Rattle.stream_server.specs.Pumped.{State}
use Rattle.commands.specs.Commands.{opened}
use Rattle.commands.proofs.PipeLemmas.{stepped}
use Rattle.commands.proofs.program.opened_server.Goals as goal

pub returns-in-Ok : goal.returns-in-Ok
unfolding opened
returns-in-Ok c =
    stepped (world_of c.in_ok-server.server) (world_of c.step.new.self) c.in-Ok.field-0 _ c.in-Ok.ensures.step
    ∙ ap (λ (s : State). (run_of s (Opened 1 (replicate 32 0) ∷ [])).server) c.in_ok-server.ensures.opening
