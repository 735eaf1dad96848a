use Rattle.std.proofs.Common.{◌∙◌, refl, ap, sym}
use Rattle.std.specs.FinMap as map
use Rattle.collections.proofs.NumberMaps.{get_is, lent_in}
use Rattle.collections.proofs.numbered.Numbered.get_mut.Goals as goal

pub returns : goal.returns
returns g c =
    let values = c.self.inside.values in
    let lent = c.get_mut in (
      (
        refl,
        λ w. lent_in lent.result values (lent.follows.lender w) c.args.number w c.args.self.now lent.ensures.value (lent.follows.holds w) c.self.view_is,
        ap (λ es. map.from_entries es) lent.follows.holds-at-none ∙ c.self.view_is,
      ),
      record { writes_back = tt; found = lent.ensures.value ∙ sym (get_is values c.args.number) ∙ ap (λ m. map.get m c.args.number) c.self.view_is },
    )
