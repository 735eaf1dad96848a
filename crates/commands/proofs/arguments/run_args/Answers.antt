use Rattle.std.proofs.Common.{rules, ◌≡◌, List, ℕ, map, drop, string_bytes, subst, inl}
use Rattle.commands.specs.Commands.{Runs}
use Rattle.commands.proofs.arguments.run_args.Goals as goal

pub returns-in-Ok : goal.returns-in-Ok
returns-in-Ok g c =
    let words : map (λ w. w.now) c.as_slice.result.now ≡ map string_bytes (drop 1 c.args.args.now) = search rules in
    inl (subst (λ (l : List (List ℕ)). Runs g.I.Read.remaining g.O.Write.contents c.args.input.now c.run.new.input c.args.output.now c.run.new.output l c.run.result) words c.run.ensures)
