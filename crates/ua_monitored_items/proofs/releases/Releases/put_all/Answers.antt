use Rattle.std.proofs.Common.{ℕ, List, ◌++◌, ◌∷◌, [], map, ap, sym, ◌∙◌, append_assoc}
use Rattle.std.proofs.lemmas.List.{map-append}
use Rattle.std.proofs.lemmas.List.Sums.{fold-append}
use Rattle.std.specs.BTreeSet.{insert_key}
use Rattle.ua_monitored_items.specs.Releases.{release_cmp, with_releases}
use Rattle.ua_monitored_items.specs.declared.releases.Release.{Release}
use Rattle.ua_monitored_items.proofs.releases.Releases.put_all.Goals as goal

pub loop-number-preserved : goal.loop-number-preserved
loop-number-preserved c =
    let front = c.loop-number.invariant.2 in
    let number = c.in-Some.number.now in
    let before = c.args.self.now in
    let one : ℕ → Release = λ n. record { subscription = c.args.subscription; number = n } in (
      tt,
      tt,
      front ++ number ∷ [],
      append_assoc front (number ∷ []) c.next.new.self ∙ ap (λ xs. front ++ xs) (sym c.in-Some.ensures.steps) ∙ c.loop-number.invariant.3,
      c.in_ok-put.ensures
          ∙ ap (λ q. insert_key release_cmp c.loop-number.self (record { subscription = q; number = number })) c.subscription.view_is
          ∙ ap (λ (rs : List Release). insert_key release_cmp rs (one number)) c.loop-number.invariant.4
          ∙ sym (fold-append (insert_key release_cmp) before (map one front) (one number ∷ []))
          ∙ ap (with_releases before) (sym (map-append one front (number ∷ []))),
    )
