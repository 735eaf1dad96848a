use Rattle.std.proofs.Common.{◌≡◌, ℕ, List, [], Option, false, eqb, ap, sym, ◌∙◌, arith}
use Rattle.std.specs.Int.{w32}
use Rattle.std.proofs.lemmas.Result.{err_from_is_err_and}
use Rattle.ua_types.specs.Matrices.{is_shape}
use Rattle.ua_binary.specs.Numbers.{number_reading}
use Rattle.ua_binary.specs.Arrays.{elements_reading}
use Rattle.ua_views.proofs.Elements.{seen, walks_on, walk_ends, walk_is_done, was_seen, was_faulty}
use Rattle.ua_views.proofs.Shapes.{in_shape, one_dimension, no_dimension}
use Rattle.ua_views.proofs.passing.pass_shape.Goals as goal

pub returns-in_err-dimension-clause-tells : goal.returns-in_err-dimension-clause-tells
returns-in_err-dimension-clause-tells c =
    let view = λ (ds : List ℕ). is_shape ds c.args.count in
    let all = elements_reading (number_reading w32) c.args.rank c.args.cursor.now in
    let p = err_from_is_err_and c.from_residual.result c.from_residual.ensures.1 in
    rw (p.1, p.2) (was_faulty view all _ (walk_ends (number_reading w32) (in_shape c.loop.size c.args.count) c.args.rank c.loop.counter c.loop.cursor _ (seen view all) c.loop-test.true c.in_err-dimension.ensures.err c.loop.invariant))

pub loop-preserved : goal.loop-preserved
loop-preserved c =
    let d = c.in_ok-dimension.dimension in
    let count = c.args.count in
    let all = elements_reading (number_reading w32) c.args.rank c.args.cursor.now in
    let next = λ (ds : List ℕ). one_dimension c.loop.size d count ds ∙ ap (λ (size : Option ℕ). in_shape size count ds) (sym c.with_dimension-size.ensures) in
    walks_on (number_reading w32) (in_shape c.loop.size count) (in_shape c.with_dimension-size.result count) c.args.rank c.loop.counter c.loop.cursor d c.number.new.self (seen (λ (ds : List ℕ). is_shape ds count) all) c.loop-test.true c.in_ok-dimension.ensures.ok next c.loop.invariant

pub returns-in-Some-clause-tells : goal.returns-in-Some-clause-tells
returns-in-Some-clause-tells c =
    let count = c.args.count in
    let view = λ (ds : List ℕ). is_shape ds count in
    let all = elements_reading (number_reading w32) c.args.rank c.args.cursor.now in
    let done = walk_is_done (number_reading w32) (in_shape c.loop.size count) c.args.rank c.loop.counter c.loop.cursor (seen view all) c.loop-test.false c.loop.invariant in
    let last : in_shape c.loop.size count [] ≡ eqb c.in-Some.size count = rw c.in-Some.is (no_dimension c.in-Some.size count (omega arith)) in
    was_seen view all (eqb c.in-Some.size count) c.loop.cursor (rw last at done)

pub returns-in-None-clause-tells : goal.returns-in-None-clause-tells
returns-in-None-clause-tells c =
    let count = c.args.count in
    let view = λ (ds : List ℕ). is_shape ds count in
    let all = elements_reading (number_reading w32) c.args.rank c.args.cursor.now in
    let done = walk_is_done (number_reading w32) (in_shape c.loop.size count) c.args.rank c.loop.counter c.loop.cursor (seen view all) c.loop-test.false c.loop.invariant in
    was_seen view all false c.loop.cursor (rw c.in-None.is at done)
