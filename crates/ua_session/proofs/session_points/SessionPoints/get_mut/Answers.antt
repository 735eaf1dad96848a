use Rattle.std.proofs.Common.{◌∙◌, refl, ap, sym}
use Rattle.std.specs.FinMap as map
use Rattle.collections.proofs.NumberMaps.{get_is, one_lent}
use Rattle.ua_session.proofs.session_points.SessionPoints.get_mut.Goals as goal

pub returns : goal.returns
returns c =
    let entries = c.self.inside.entries.entries in (
      (
        refl,
        λ w. one_lent c.get_mut.result entries (c.get_mut.follows.lender w).entries c.args.number w c.args.self.now c.get_mut.ensures.value
            (λ is. ((c.get_mut.follows.holds w).3 is).0) c.self.view_is,
        ap (λ m. map.from_entries m.entries) c.get_mut.follows.holds-at-none ∙ c.self.view_is,
      ),
      record { writes_back = tt; found = c.get_mut.ensures.value ∙ sym (get_is entries c.args.number) ∙ ap (λ m. map.get m c.args.number) c.self.view_is },
    )
