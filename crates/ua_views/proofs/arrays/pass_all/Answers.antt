use Rattle.std.proofs.Common.{refl}
use Rattle.std.proofs.lemmas.Result.{err_from_is_err_and}
use Rattle.ua_binary.specs.Arrays.{elements_reading}
use Rattle.ua_views.proofs.Elements.{seen, walks_on, walk_ends, walk_is_done, was_faulty}
use Rattle.ua_views.proofs.Looking.{unseen, was_read}
use Rattle.ua_views.proofs.arrays.pass_all.Goals as goal

pub returns-in_err-pass-clause-skips : goal.returns-in_err-pass-clause-skips
returns-in_err-pass-clause-skips g c =
    let reading = g.T.Readable.reading in
    let all = elements_reading reading c.args.count c.args.cursor.now in
    let p = err_from_is_err_and c.from_residual.result c.from_residual.ensures.1 in
    rw (p.1, p.2) (was_faulty unseen all _ (walk_ends reading unseen c.args.count c.loop.counter c.loop.cursor _ (seen unseen all) c.loop-test.true c.in_err-pass.ensures.skips c.loop.invariant))

pub loop-preserved : goal.loop-preserved
loop-preserved g c =
    let reading = g.T.Readable.reading in
    let all = elements_reading reading c.args.count c.args.cursor.now in
    let one = c.in_ok-pass.ensures.skips in
    walks_on reading unseen unseen c.args.count c.loop.counter c.loop.cursor one.value c.pass.new.cursor (seen unseen all) c.loop-test.true one.is (λ xs. refl) c.loop.invariant

pub returns-clause-skips : goal.returns-clause-skips
returns-clause-skips g c =
    let reading = g.T.Readable.reading in
    let all = elements_reading reading c.args.count c.args.cursor.now in
    was_read all c.loop.cursor (walk_is_done reading unseen c.args.count c.loop.counter c.loop.cursor (seen unseen all) c.loop-test.false c.loop.invariant)
