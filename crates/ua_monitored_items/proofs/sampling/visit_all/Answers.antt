use Rattle.std.proofs.Common.{◌++◌, ◌∷◌, [], List, ap, sym, ◌∙◌, append_assoc}
use Rattle.std.proofs.lemmas.List.Sums.{fold-append}
use Rattle.std.specs.BTreeSet.{insert_key}
use Rattle.ua_monitored_items.specs.Item.{seen}
use Rattle.ua_monitored_items.specs.ItemTables.{NumberedItems, item_at, with_item}
use Rattle.ua_monitored_items.specs.Releases.{release_cmp, with_releases, visit_releases, sample_releases}
use Rattle.ua_monitored_items.specs.Sampling.{visits_by}
use Rattle.ua_monitored_items.specs.declared.releases.Release.{Release}
use Rattle.ua_monitored_items.proofs.Serving.{on_any, visits_more, visits_before}
use Rattle.ua_monitored_items.proofs.Releasing.{number_releases_more}
use Rattle.ua_monitored_items.proofs.sampling.visit_all.Goals as goal

pub loop-number-preserved : goal.loop-number-preserved
loop-number-preserved c =
    let front = c.loop-number.invariant.2 in
    let number = c.in-Some.number.now in
    let value = c.args.value.now in
    let visit_of = λ (es : NumberedItems). visit_releases (record { number = number; value = value }) (item_at number es) in (
      tt,
      tt,
      front ++ number ∷ [],
      append_assoc front (number ∷ []) c.next.new.self ∙ ap (λ xs. front ++ xs) (sym c.in-Some.ensures.steps) ∙ c.loop-number.invariant.3,
      c.in_ok-visit.ensures.ok ∙ ap (with_item number (seen value)) c.loop-number.invariant.4 ∙ sym (visits_more c.args.items.now value front number),
      c.in_ok-visit.ensures.releases
          ∙ ap (λ (rs : List Release). with_releases rs (visit_of c.loop-number.items)) c.loop-number.invariant.5
          ∙ sym (fold-append (insert_key release_cmp) [] (sample_releases c.args.items.now (visits_by value front)) (visit_of c.loop-number.items))
          ∙ ap (λ (es : NumberedItems). with_releases [] (sample_releases c.args.items.now (visits_by value front) ++ visit_of es)) c.loop-number.invariant.4
          ∙ ap (with_releases []) (sym (number_releases_more c.args.items.now value front number)),
    )

pub returns-in_err-visit-clause-err : goal.returns-in_err-visit-clause-err
returns-in_err-visit-clause-err c =
    let front = c.loop-number.invariant.2 in
    on_any c.from_residual.result
    (visits_before c.args.items.now c.args.value.now front c.in-Some.number.now c.next.new.self c.args.numbers.now.keys c.visit.new.self c.loop-number.items
    (ap (λ xs. front ++ xs) (sym c.in-Some.ensures.steps) ∙ c.loop-number.invariant.3) c.loop-number.invariant.4 c.in_err-visit.ensures.err c.in_err-visit.ensures.takes)
