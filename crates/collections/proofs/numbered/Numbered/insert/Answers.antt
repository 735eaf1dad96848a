use Rattle.std.proofs.Common.{◌∙◌, ap, sym, subst}
use Rattle.std.specs.Prelude.{IfSome, IsOk}
use Rattle.std.specs.Option.{option_copied_mut}
use Rattle.std.specs.FinMap as map
use Rattle.collections.proofs.NumberMaps.{get_is, given_back, lent_in, put_is}
use Rattle.collections.proofs.numbered.Numbered.insert.Goals as goal
use Rattle.collections.proofs.numbered.Numbered.insert.Goals.{in-Ok, in-Err}

pub returns-in-Some-clause-ok : goal.returns-in-Some-clause-ok
returns-in-Some-clause-ok g c =
    let lent = c.get_mut in
    given_back _ lent.result c.in-Some.held c.in-Some.is
    (lent_in lent.result c.self.inside.values (lent.follows.lender c.args.value) c.args.number c.args.value c.args.self.now lent.ensures.value (lent.follows.holds c.args.value) c.self.view_is)

pub returns-clause-ok : goal.returns-clause-ok
returns-clause-ok g c =
    elim c.match-insert.branch [
      | in-Ok w ↦
          rw w.result-is (ap (λ es. map.from_entries es) w.in-Ok.ensures.ok ∙ put_is c.get_mut.follows.lender-at-none c.args.number c.args.value
          ∙ ap (λ es. map.insert (map.from_entries es) c.args.number c.args.value) c.get_mut.follows.holds-at-none ∙ ap (λ m. map.insert m c.args.number c.args.value) c.self.view_is)
      | in-Err w ↦ rw w.result-is tt
    ]

pub returns-clause-memory : goal.returns-clause-memory
returns-clause-memory g c =
    let none = sym (ap (λ m. map.get m c.args.number) c.self.view_is) ∙ get_is c.self.inside.values c.args.number ∙ sym c.get_mut.ensures.value ∙ ap option_copied_mut c.in_default.is in
    subst (λ o. IfSome o (λ before. IsOk c.match-insert.result)) (sym none) tt
