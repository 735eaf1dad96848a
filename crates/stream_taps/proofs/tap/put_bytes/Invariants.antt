use Rattle.stream_taps.proofs.TapLemmas.{PutSoFar}
use Rattle.stream_taps.proofs.tap.put_bytes.Given as goal

abbrev pub invariant-loop-turn : goal.invariant-loop-turn
invariant-loop-turn g l =
    PutSoFar l.bytes l.done (g.W.Write.contents l.initial.writer.stream) (g.W.Write.contents l.writer.stream)
    l.initial.writer.failures l.writer.failures
