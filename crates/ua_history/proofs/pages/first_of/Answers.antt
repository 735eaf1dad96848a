use Rattle.std.proofs.lemmas.List.{take_rest}
use Rattle.ua_history.proofs.Filling.{first_turned}
use Rattle.ua_history.proofs.pages.first_of.Goals as goal

pub returns-then-is_falling-clause-values : goal.returns-then-is_falling-clause-values
returns-then-is_falling-clause-values c = rw (c.if-is_falling.true, take_rest) (first_turned c.args.most c.args.run.now c.min-count.result c.min-count.ensures)
