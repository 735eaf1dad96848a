use Rattle.std.proofs.Common.{rules}
use Rattle.std.proofs.lemmas.List.{take_rest}
use Rattle.stream_taps.proofs.TapLemmas.{put_more, put_none}
use Rattle.stream_taps.proofs.tap.put_bytes.Goals as goal
use Rattle.stream_taps.proofs.tap.put_bytes.Goals.{in-Ok, in-Err+else-not-is_interruption}

pub loop-turn-preserved : goal.loop-turn-preserved
loop-turn-preserved g c =
    elim c.match-write.branch [
      | in-Ok w ↦ rw w.done-is (put_more _ _ _ _ _ _ _ _ _ _ c.loop-turn.invariant (rw take_rest at w.in-Ok.ensures.bytes) (rw take_rest at w.in-Ok.ensures.bound)
          w.in-Ok.n-test.1 w.in-Ok.ensures.counts.0)
      | in-Err+else-not-is_interruption w ↦ rw w.done-is (put_none _ _ _ _ _ _ _ _ c.loop-turn.invariant w.in-Err.ensures.bytes (w.in-Err.ensures.counts.0 (w.is_interruption.ensures.yes (search rules))).0)
    ]
