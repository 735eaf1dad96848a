use Rattle.std.proofs.Common.{◌<◌, ◌∙◌, ap, length, arith, Some}
use Rattle.ua_views.proofs.Looking.{is_fault, none_is_at_end, is_next, is_no_fault}
use Rattle.ua_views.proofs.Stepping.{ends, yields}
use Rattle.ua_views.proofs.arrays.ArrayViewIterator.next.Goals as goal

pub returns-then-left-eq0-clause-steps : goal.returns-then-left-eq0-clause-steps
returns-then-left-eq0-clause-steps g c =
    ends c.args.self.now (none_is_at_end g.T.Readable.reading c.self.inside.left c.self.inside.at c.args.self.now (c.in-Some.is ∙ ap (λ n. Some n) c.if-left-eq0.true) c.self.view_is)

pub invariant_of-self : goal.invariant_of-self
invariant_of-self g c =
    let some : 0 < c.in-Some.left = omega arith in
    (is_next g.T.Readable.reading c.self.inside.left c.self.inside.at c.in-Some.left c.in-Ok.element c.look.new.cursor c.args.self.now c.in-Some.is some c.self.invariant c.self.view_is c.in-Ok.ensures.reads).there

pub unreachable-requires : goal.unreachable-requires
unreachable-requires g c =
    let some : 0 < c.in-Some.left = omega arith in
    let fault = is_fault c.look.result c.look.new.cursor (g.T.Readable.reading c.self.inside.at) c.in-Err.field-0 c.in-Err.is c.look.ensures.reads c.look.ensures.no_memory in
    is_no_fault g.T.Readable.reading c.self.inside.left c.self.inside.at c.in-Some.left c.in-Err.field-0 c.in-Some.is some c.self.invariant fault

pub returns-clause-steps : goal.returns-clause-steps
returns-clause-steps g c =
    let some : 0 < c.in-Some.left = omega arith in
    yields g.T.Readable.reading c.in-Some.left c.in-Ok.element c.look.new.cursor c.args.self.now (is_next g.T.Readable.reading c.self.inside.left c.self.inside.at c.in-Some.left c.in-Ok.element c.look.new.cursor c.args.self.now c.in-Some.is some c.self.invariant c.self.view_is c.in-Ok.ensures.reads)

pub returns-clause-goes : goal.returns-clause-goes
returns-clause-goes g c =
    let some : 0 < c.in-Some.left = omega arith in
    let steps = yields g.T.Readable.reading c.in-Some.left c.in-Ok.element c.look.new.cursor c.args.self.now (is_next g.T.Readable.reading c.self.inside.left c.self.inside.at c.in-Some.left c.in-Ok.element c.look.new.cursor c.args.self.now c.in-Some.is some c.self.invariant c.self.view_is c.in-Ok.ensures.reads) in
    let sizes = ap length steps in
    record { on = λ f. (tt, tt, omega (arith, sizes)); keeps = tt; rests = λ f. tt }
