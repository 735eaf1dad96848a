use Rattle.std.proofs.Common.{◌∙◌, ap}
use Rattle.std.specs.FinMap as map
use Rattle.collections.proofs.NumberMaps.{one_gone}
use Rattle.scenario_text.proofs.open_connections.OpenConnections.remove.Goals as goal

pub returns : goal.returns
returns c =
    one_gone c.self.inside.numbers.entries c.remove.new.self.entries c.args.connection c.remove.ensures.updates.0 ∙ ap (λ m. map.remove m c.args.connection) c.self.view_is
