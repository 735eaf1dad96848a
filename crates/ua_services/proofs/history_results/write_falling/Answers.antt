use Rattle.std.proofs.Common.{◌∷◌, [], map, sym, subst}
use Rattle.std.proofs.lemmas.List.{map-append}
use Rattle.ua_history.specs.Histories.{Values}
use Rattle.ua_services.specs.HistoryResults.{all_shown, AreWritten}
use Rattle.ua_services.proofs.WrittenValues.{one_more}
use Rattle.ua_services.proofs.history_results.write_falling.Goals as goal

pub loop-value-preserved : goal.loop-value-preserved
loop-value-preserved c =
    let entry = c.in-Some.field-0 in
    let so_far : Values = map (λ e. e.now) c.loop-value.yielded in
    let more = map-append (λ e. e.now) c.loop-value.yielded (entry ∷ []) in (
      tt,
      tt,
      subst (λ (values : Values). AreWritten c.args.out.now.items c.write.new.out.items (all_shown c.args.timestamps values)) (sym more)
          (one_more c.args.timestamps c.args.out.now.items c.loop-value.out.items c.write.new.out.items so_far entry.now c.shown.result c.loop-value.invariant.2 c.shown.ensures c.in_ok-write.ensures.ok c.in_ok-write.ensures.again c.in_ok-write.ensures.some),
    )
