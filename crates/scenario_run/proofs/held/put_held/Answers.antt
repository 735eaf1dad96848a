use Rattle.std.proofs.Common.{◌≡◌, ◌∙◌, ◌<◌, true, refl, length, rules}
use Rattle.std.specs.Prelude.{is_err, string_bytes}
use Rattle.std.proofs.KnownBytes.{Appends-kept}
use Rattle.stream_taps.proofs.TapLemmas.{counted-le, counted-Rose}
use Rattle.scenario_run.proofs.HeldLemmas.{cut_at}
use Rattle.scenario_run.proofs.held.put_held.Goals as goal

pub returns-then-count-bytes : goal.returns-then-count-bytes
returns-then-count-bytes g c =
    let bytes : c.as_bytes-bytes.result.now ≡ string_bytes c.args.held.now = c.as_bytes-bytes.ensures.value ∙ c.as_str.ensures.value in
    let low : c.put_bytes-count.result < length c.as_bytes-bytes.result.now = c.if-count-bytes.true in
    (refl, cut_at _ _ _ c.put_bytes-count.result (rw bytes at c.put_bytes-count.ensures.written) c.put_bytes-count.ensures.failures (c.put_bytes-count.ensures.failed low))

pub returns-then-is_err : goal.returns-then-is_err
returns-then-is_err g c =
    let bytes : c.as_bytes-bytes.result.now ≡ string_bytes c.args.held.now = c.as_bytes-bytes.ensures.value ∙ c.as_str.ensures.value in
    let failed : is_err c.flush.result ≡ true = search rules in
    let counts = rw failed at c.flush.ensures.counts in (
      refl,
      cut_at _ _ _ c.put_bytes-count.result
          (Appends-kept _ _ _ _ (rw bytes at c.put_bytes-count.ensures.written) c.flush.ensures.bytes)
          (rw counts (counted-le _ _ true c.put_bytes-count.ensures.failures))
          (rw counts (counted-Rose _ _ c.put_bytes-count.ensures.failures)),
    )
