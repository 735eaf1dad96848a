use Rattle.std.proofs.Common.{ap, sym, ◌∙◌, is_some}
use Rattle.std.proofs.lemmas.Option.{IfSome_then}
use Rattle.std.specs.FinMap as map
use Rattle.collections.proofs.NumberMaps.{get_is}
use Rattle.collections.proofs.numbered.Numbered.number_above.Goals as goal

pub returns-clause-held : goal.returns-clause-held
returns-clause-held g c =
    IfSome_then c.number_above.result c.number_above.ensures.held
    (λ number there. sym (ap (λ m. is_some (map.get m number)) c.self.view_is) ∙ ap is_some (get_is c.self.inside.values number) ∙ there)

pub returns-clause-lowest : goal.returns-clause-lowest
returns-clause-lowest g c =
    λ number above there.
    c.number_above.ensures.lowest number above
    (sym (ap is_some (get_is c.self.inside.values number)) ∙ ap (λ m. is_some (map.get m number)) c.self.view_is ∙ there)
