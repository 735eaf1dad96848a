use Rattle.std.proofs.Common.{◌∷◌, [], ◌++◌, ap, sym, ◌∙◌, append_assoc}
use Rattle.std.proofs.lemmas.List.Sums.{fold-append}
use Rattle.ua_monitored_items.specs.ItemTables.{NumberedItems}
use Rattle.ua_monitored_items.specs.Releases.{with_release}
use Rattle.ua_monitored_items.proofs.sampling.release_all.Goals as goal

pub loop-release-preserved : goal.loop-release-preserved
loop-release-preserved c =
    let front = c.loop-release.invariant.2 in
    let release = c.in-Some.release.now in (
      tt,
      tt,
      front ++ release ∷ [],
      append_assoc front (release ∷ []) c.next.new.self ∙ ap (λ xs. front ++ xs) (sym c.in-Some.ensures.steps) ∙ c.loop-release.invariant.3,
      c.edit.ensures ∙ ap (λ (es : NumberedItems). with_release es release) c.loop-release.invariant.4 ∙ sym (fold-append with_release c.args.items.now front (release ∷ [])),
    )
