use Rattle.std.proofs.Common.{◌≡◌, ◌<◌, ◌≤◌, true, false, length, subst, sym, rules}
use Rattle.std.specs.Prelude.{is_err}
use Rattle.std.proofs.KnownBytes.{Appends-kept}
use Rattle.stream_taps.proofs.TapLemmas.{counted-le, counted-Rose}
use Rattle.scenario_run.specs.Held.{place}
use Rattle.scenario_run.proofs.HeldLemmas.{all_out, cut_at}
use Rattle.commands.specs.Said.{Says}
use Rattle.commands.proofs.program.say.Goals as goal

pub returns-then-count-bytes : goal.returns-then-count-bytes
returns-then-count-bytes g c =
    let bytes : c.as_bytes-bytes.result.now ≡ c.args.text.now = c.as_bytes-bytes.ensures.value in
    let low : c.put_bytes-count.result < length c.as_bytes-bytes.result.now = c.if-count-bytes.true in
    subst (Says c.args.text.now (place g.O.Write.contents c.args.output.now) (place g.O.Write.contents c.put_bytes-count.new.writer)) (sym c.stream.ensures)
    (cut_at _ _ _ c.put_bytes-count.result (rw bytes at c.put_bytes-count.ensures.written) c.put_bytes-count.ensures.failures (c.put_bytes-count.ensures.failed low))

pub returns-then-is_err : goal.returns-then-is_err
returns-then-is_err g c =
    let bytes : c.as_bytes-bytes.result.now ≡ c.args.text.now = c.as_bytes-bytes.ensures.value in
    let failed : is_err c.flush.result ≡ true = search rules in
    let counts = rw failed at c.flush.ensures.counts in
    subst (Says c.args.text.now (place g.O.Write.contents c.args.output.now) (place g.O.Write.contents c.flush.new.self)) (sym c.stream-then-is_err.ensures)
    (cut_at _ _ _ c.put_bytes-count.result
    (Appends-kept _ _ _ _ (rw bytes at c.put_bytes-count.ensures.written) c.flush.ensures.bytes)
    (rw counts (counted-le _ _ true c.put_bytes-count.ensures.failures))
    (rw counts (counted-Rose _ _ c.put_bytes-count.ensures.failures)))

pub returns : goal.returns
returns g c =
    let bytes : c.as_bytes-bytes.result.now ≡ c.args.text.now = c.as_bytes-bytes.ensures.value in
    let high : length c.as_bytes-bytes.result.now ≤ c.put_bytes-count.result = c.if-count-bytes.false in
    let kept : is_err c.flush.result ≡ false = search rules in
    let counts = rw kept at c.flush.ensures.counts in
    all_out _ _ _ c.put_bytes-count.result (rw bytes at high)
    (Appends-kept _ _ _ _ (rw bytes at c.put_bytes-count.ensures.written) c.flush.ensures.bytes)
    (rw counts (counted-le _ _ false c.put_bytes-count.ensures.failures))
