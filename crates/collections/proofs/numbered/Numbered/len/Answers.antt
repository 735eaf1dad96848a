use Rattle.std.proofs.Common.{◌∙◌, ap}
use Rattle.std.specs.FinMap as map
use Rattle.collections.proofs.NumberMaps.{count_is}
use Rattle.collections.proofs.numbered.Numbered.len.Goals as goal

pub returns : goal.returns
returns g c =
    c.len.ensures.count ∙ count_is c.self.inside.values c.len.ensures.rising ∙ ap (λ m. map.len m) c.self.view_is
