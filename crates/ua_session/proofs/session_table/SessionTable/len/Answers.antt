use Rattle.std.proofs.Common.{◌∙◌, ap}
use Rattle.std.specs.FinMap as map
use Rattle.ua_session.proofs.TableLemmas.{count_held}
use Rattle.ua_session.proofs.session_table.SessionTable.len.Goals as goal

pub returns : goal.returns
returns c = c.len.ensures.len ∙ count_held c.self.inside.slots.slots c.self.inside.numbers.entries c.self.invariant.numbered c.len.ensures.ordered ∙ ap (λ m. map.len m) c.self.view_is
