use Rattle.ua_views.proofs.Looking.{is_counted}
use Rattle.ua_views.proofs.arrays.ArrayView.len.Goals as goal

pub returns-in-Some-clause-len : goal.returns-in-Some-clause-len
returns-in-Some-clause-len g c = (is_counted g.T.Readable.reading c.self.inside.left c.self.inside.at c.in-Some.left c.args.self.now c.in-Some.is c.self.invariant c.self.view_is).count

pub returns-in-Some-clause-small : goal.returns-in-Some-clause-small
returns-in-Some-clause-small g c = (is_counted g.T.Readable.reading c.self.inside.left c.self.inside.at c.in-Some.left c.args.self.now c.in-Some.is c.self.invariant c.self.view_is).small
