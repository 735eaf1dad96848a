use Rattle.std.proofs.Common.{◌∙◌, ap, sym}
use Rattle.std.specs.FinMap as map
use Rattle.collections.proofs.NumberMaps.{get_is, taken_is}
use Rattle.collections.proofs.numbered.Numbered.remove.Goals as goal

pub returns-clause-found : goal.returns-clause-found
returns-clause-found g c =
    c.remove.ensures.value ∙ sym (get_is c.self.inside.values c.args.number) ∙ ap (λ m. map.get m c.args.number) c.self.view_is

pub returns-clause-removed : goal.returns-clause-removed
returns-clause-removed g c =
    ap (λ es. map.from_entries es) c.remove.ensures.entries ∙ taken_is c.self.inside.values c.args.number c.remove.ensures.rising ∙ ap (λ m. map.remove m c.args.number) c.self.view_is
