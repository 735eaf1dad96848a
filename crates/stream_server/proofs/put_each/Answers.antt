use Rattle.std.proofs.Common.{◌≡◌, ◌∙◌, sym, ap, arith}
use Rattle.server_core.specs.Running.{sent_bytes}
use Rattle.stream_server.proofs.PumpLemmas.{part_put}
use Rattle.stream_server.proofs.put_each.Goals as goal

pub returns-then-count-bytes-clause-count : goal.returns-then-count-bytes-clause-count
returns-then-count-bytes-clause-count g c =
    let bytes : c.as_slice-bytes.result.now ≡ sent_bytes c.out-item.result = c.as_slice-bytes.ensures ∙ sym (ap sent_bytes c.in-Send.is) in
    let fits = rw bytes at c.put_bytes-count.ensures.count in
    let wrote = rw bytes at c.put_bytes-count.ensures.written in
    (part_put _ _ _ _ _ _ _ _ _ _ (omega arith) c.out-item.is c.loop-out.invariant fits wrote).0

pub returns-then-count-bytes-clause-written : goal.returns-then-count-bytes-clause-written
returns-then-count-bytes-clause-written g c =
    let bytes : c.as_slice-bytes.result.now ≡ sent_bytes c.out-item.result = c.as_slice-bytes.ensures ∙ sym (ap sent_bytes c.in-Send.is) in
    let fits = rw bytes at c.put_bytes-count.ensures.count in
    let wrote = rw bytes at c.put_bytes-count.ensures.written in
    (part_put _ _ _ _ _ _ _ _ _ _ (omega arith) c.out-item.is c.loop-out.invariant fits wrote).1
