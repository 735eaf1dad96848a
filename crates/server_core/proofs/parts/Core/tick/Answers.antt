use Rattle.std.proofs.Common.{◌∙◌, ap}
use Rattle.std.proofs.lemmas.Bool.{false≢true}
use Rattle.ua_services.proofs.SubLemmas.{idle_is_silent}
use Rattle.server_core.specs.Handling.{setting_at}
use Rattle.server_core.proofs.parts.Core.tick.Goals as goal

pub returns-in_err-deliver-clause-idle : goal.returns-in_err-deliver-clause-idle
returns-in_err-deliver-clause-idle c = λ idle.
    absurd (false≢true (c.in_err-deliver.ensures.none (ap (λ g. g.served.replies) c.in_ok-served.ensures.ticks ∙ idle_is_silent (setting_at c.args.self.now c.args.clock) c.args.self.now.services idle)))
