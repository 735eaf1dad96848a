use Rattle.std.proofs.Common.{◌≡◌, ◌++◌, ◌∷◌, [], ◌+◌, take, sym, ap, ◌∙◌}
use Rattle.std.proofs.lemmas.List.{take_more}
use Rattle.ua_services.proofs.WrittenValues.{one_more}
use Rattle.ua_services.proofs.history_results.write_rising.Goals as goal

pub loop-value-preserved : goal.loop-value-preserved
loop-value-preserved c =
    let xs = c.args.run.now in
    let i = c.loop-value.value-index in
    let x = c.loop-value-item.result in
    let more : take (i + 1) xs ≡ take i xs ++ x ∷ [] = take_more xs i x c.loop-value-test.true ∙ ap (λ y. take i xs ++ y ∷ []) (sym c.loop-value-item.is) in
    rw more
    (one_more c.args.timestamps c.args.out.now.items c.loop-value.out.items c.write.new.out.items (take i xs) x c.shown.result c.loop-value.invariant c.shown.ensures c.in_ok-write.ensures.ok c.in_ok-write.ensures.again c.in_ok-write.ensures.some)
