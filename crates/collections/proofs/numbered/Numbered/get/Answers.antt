use Rattle.std.proofs.Common.{◌∙◌, ap, sym}
use Rattle.std.specs.FinMap as map
use Rattle.collections.proofs.NumberMaps.{get_is}
use Rattle.collections.proofs.numbered.Numbered.get.Goals as goal

pub returns : goal.returns
returns g c =
    c.get.ensures ∙ sym (get_is c.self.inside.values c.args.number) ∙ ap (λ m. map.get m c.args.number) c.self.view_is
