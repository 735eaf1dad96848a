use Rattle.std.proofs.Common.{sym, ◌∙◌}
use Rattle.store_restoring.proofs.Steps.{reopened}
use Rattle.store_restoring.proofs.histories.opened_at.Goals as goal

pub returns-then-place-clause-opened : goal.returns-then-place-clause-opened
returns-then-place-clause-opened c =
    rw c.in-Some.is (reopened c.args.space.now.nodes c.in-Some.opened c.args.place (sym c.place.ensures ∙ c.if-place.true) c.requires.place)
