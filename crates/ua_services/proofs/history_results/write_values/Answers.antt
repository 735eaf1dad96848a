use Rattle.std.proofs.Common.{◌≡◌, ◌++◌, ◌∷◌, [], ◌+◌, true, false, take, sym, ap, ◌∙◌}
use Rattle.std.proofs.lemmas.List.{take_more}
use Rattle.ua_services.proofs.WrittenValues.{run_more}
use Rattle.ua_services.proofs.history_results.write_values.Goals as goal

pub loop-run-preserved : goal.loop-run-preserved
loop-run-preserved c =
    let runs = c.in-Rising.runs.now in
    let i = c.loop-run.run-index in
    let run = c.run-item.result in
    let more : take (i + 1) runs ≡ take i runs ++ run ∷ [] = take_more runs i run c.loop-run-test.true ∙ ap (λ r. take i runs ++ r ∷ []) (sym c.run-item.is) in
    rw more
    (run_more c.args.timestamps c.args.out.now.items c.loop-run.out.items c.write_rising.new.out.items false (take i runs) run c.loop-run.invariant c.in_ok-write_rising-in-Rising.ensures.ok)

pub loop-run-2-preserved : goal.loop-run-2-preserved
loop-run-2-preserved c =
    let runs = c.in-Falling.runs.now in
    let i = c.loop-run-2.run-index in
    let run = c.run-item-in-loop-run-2.result in
    let more : take (i + 1) runs ≡ take i runs ++ run ∷ [] = take_more runs i run c.loop-run-2-test.true ∙ ap (λ r. take i runs ++ r ∷ []) (sym c.run-item-in-loop-run-2.is) in
    rw more
    (run_more c.args.timestamps c.args.out.now.items c.loop-run-2.out.items c.write_falling.new.out.items true (take i runs) run c.loop-run-2.invariant c.in_ok-write_falling-in-Falling.ensures.ok)
