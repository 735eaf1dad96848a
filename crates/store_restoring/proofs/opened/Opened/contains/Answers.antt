use Rattle.std.proofs.Common.{is_some, sym, ap, ◌∙◌}
use Rattle.std.specs.Map.{values_of}
use Rattle.store_restoring.specs.Opened.{OpenedState}
use Rattle.store_restoring.specs.Restored.{past_of}
use Rattle.store_restoring.proofs.ByTime.{past_looked_up}
use Rattle.store_restoring.proofs.opened.Opened.contains.Goals as goal

pub returns : goal.returns
returns c =
    c.contains_key.ensures
    ∙ ap is_some (sym (past_looked_up c.self.inside.values.entries c.args.time.0 c.self.invariant.timed) ∙ ap (λ (s : OpenedState). past_of (values_of s.values) c.args.time.0) c.self.view_is)
