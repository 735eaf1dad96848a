use Rattle.std.proofs.Common.{◌∙◌, ap}
use Rattle.std.specs.FinMap as map
use Rattle.collections.proofs.NumberMaps.{one_given}
use Rattle.scenario_text.proofs.open_connections.OpenConnections.insert.Goals as goal

pub returns-clause-ok : goal.returns-clause-ok
returns-clause-ok c =
    one_given c.self.inside.numbers.entries c.insert.new.self.entries c.args.connection tt c.in_ok-insert.ensures.updates.0 ∙ ap (λ m. map.insert m c.args.connection tt) c.self.view_is
