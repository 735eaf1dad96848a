use Rattle.std.proofs.Common.{arith}
use Rattle.std.proofs.lemmas.Result.{err_from_is_err_and}
use Rattle.ua_binary.specs.Arrays.{elements_reading}
use Rattle.ua_binary.proofs.Elements.{goes_on, ends, is_done}
use Rattle.ua_binary.proofs.arrays.elements.Goals as goal

pub returns-in_err-item-clause-reads : goal.returns-in_err-item-clause-reads
returns-in_err-item-clause-reads g c =
    let reading = g.T.Wire.reading in
    let p = err_from_is_err_and c.from_residual-in_err-item.result c.from_residual-in_err-item.ensures.1 in
    rw (p.1, p.2) (λ other. ends reading c.loop.items.items c.args.count c.loop.counter c.loop.cursor _ (elements_reading reading c.args.count c.args.cursor.now) c.loop-test.true (c.in_err-item.ensures.reads other) c.loop.invariant.read)

pub loop-preserved : goal.loop-preserved
loop-preserved g c =
    let reading = g.T.Wire.reading in
    record {
      read = rw c.in_ok-push.ensures.items (goes_on reading c.loop.items.items c.args.count c.loop.counter c.loop.cursor c.in_ok-item.item c.decode.new.cursor (elements_reading reading c.args.count c.args.cursor.now) c.loop-test.true c.in_ok-item.ensures.reads c.loop.invariant.read);
      len = omega (arith, c.in_ok-push.ensures.len, c.loop.invariant.len);
    }

pub returns-clause-reads : goal.returns-clause-reads
returns-clause-reads g c = is_done g.T.Wire.reading c.loop.items.items c.args.count c.loop.counter c.loop.cursor (elements_reading g.T.Wire.reading c.args.count c.args.cursor.now) c.loop-test.false c.loop.invariant.read
