use Rattle.std.proofs.Common.{◌≡◌, refl, subst}
use Rattle.scenario_run.specs.Held.{place}
use Rattle.commands.specs.Said.{MadeBy}
use Rattle.commands.specs.Serving.{ServesBy}
use Rattle.commands.proofs.MadeLemmas.{unmade}
use Rattle.commands.proofs.ServeLemmas.{no_memory_by}
use Rattle.commands.proofs.serving.serve_made.Goals as goal

pub returns-in-Err : goal.returns-in-Err
returns-in-Err g c =
    let at = place g.O.Write.contents c.args.output.now in
    let o = c.args.options.now in
    λ said by. unmade (ServesBy at at o) (at ≡ at) said c.in-Err.status (subst (λ r. MadeBy r said) c.in-Err.is by) refl (no_memory_by at o)
