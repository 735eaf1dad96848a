use Rattle.std.proofs.Common.{◌≡◌, ◌∙◌, ap, sym, subst}
use Rattle.std.specs.Prelude.{IfOk}
use Rattle.std.specs.FinMap as map
use Rattle.std.specs.Map.{keys_of}
use Rattle.collections.proofs.NumberMaps.{entries_are}
use Rattle.collections.proofs.numbered.Numbered.numbers.Goals as goal

pub returns : goal.returns
returns g c =
    let all = sym (entries_are c.self.inside.values c.numbers.ensures.rising) ∙ ap map.entries c.self.view_is in
    subst (λ es. IfOk c.numbers.result (λ numbers. numbers.items ≡ keys_of es)) all c.numbers.ensures.numbers
