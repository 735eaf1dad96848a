use Rattle.std.proofs.Common.{◌≡◌, take, drop, length, sym, take-append-drop, arith}
use Rattle.std.proofs.lemmas.List.{length-take-le}
use Rattle.server_core.specs.Running.{joined}
use Rattle.stream_server.proofs.Pump.answer.Goals as goal

pub returns-then-not-all-clause-answered : goal.returns-then-not-all-clause-answered
returns-then-not-all-clause-answered g c =
    let n = c.put_outs-count.result.0 in
    let all = joined c.args.outs.now in
    let len : length (take n all) ≡ n = length-take-le n all c.put_outs-count.ensures.count in
    (take n all, (drop n all, sym (take-append-drop n all)), c.put_outs-count.ensures.written, omega arith)
