use Rattle.std.proofs.lemmas.Result.{err_from_is_err_and}
use Rattle.server_core.specs.declared.event.Event.TheVariants.{Bytes}
use Rattle.scenario_run.proofs.EventLemmas.{pieces_put, put_more, put_over, put_ends}
use Rattle.scenario_run.proofs.assembly.put_pieces.Goals as goal

pub returns-in_err-put_piece : goal.returns-in_err-put_piece
returns-in_err-put_piece c =
    let p = err_from_is_err_and c.from_residual.result c.from_residual.ensures.1 in
    rw (p.1, p.2) (put_over _ c.args.size c.args.conn c.loop-rest.rest.now (Bytes c.args.conn c.split_at.result.0.now) c.loop-rest.events.items c.args.events.now.items (pieces_put c.args.size c.args.conn c.args.bytes.now) c.in_err-put_piece.ensures c.loop-rest.invariant)

pub loop-rest-preserved : goal.loop-rest-preserved
loop-rest-preserved c =
    rw (c.in_ok-put_piece.ensures.0, c.split_at.ensures.front, c.split_at.ensures.back)
    (put_more c.args.size c.args.conn c.loop-rest.rest.now c.loop-rest.events.items c.args.events.now.items (pieces_put c.args.size c.args.conn c.args.bytes.now) c.requires c.loop-rest-test.true c.loop-rest.invariant)

pub returns : goal.returns
returns c =
    put_ends c.put_piece-2.result c.args.size c.args.conn c.loop-rest.rest.now c.loop-rest.events.items c.put_piece-2.new.events.items c.args.events.now.items (pieces_put c.args.size c.args.conn c.args.bytes.now) c.requires c.loop-rest-test.false c.put_piece-2.ensures c.loop-rest.invariant
