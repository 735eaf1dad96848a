use Rattle.std.proofs.Common.{◌∙◌, ap, sym, is_some}
use Rattle.std.specs.FinMap as map
use Rattle.collections.proofs.NumberMaps.{get_is}
use Rattle.scenario_text.proofs.open_connections.OpenConnections.contains.Goals as goal

pub returns : goal.returns
returns c =
    c.contains_key.ensures ∙ ap is_some (sym (get_is c.self.inside.numbers.entries c.args.connection) ∙ ap (λ m. map.get m c.args.connection) c.self.view_is)
