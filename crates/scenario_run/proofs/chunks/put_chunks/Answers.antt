use Rattle.std.proofs.Common.{◌∙◌, ◌++◌, List, ℕ, ap, append_assoc, take}
use Rattle.std.specs.List.{concat}
use Rattle.scenario_run.proofs.RequestRunLemmas.{chunks_more}
use Rattle.scenario_run.proofs.chunks.put_chunks.Goals as goal

pub loop-chunk-preserved : goal.loop-chunk-preserved
loop-chunk-preserved c =
    let out = c.args.out.now.items in
    let before = concat (take c.loop-chunk.chunk-index c.args.chunks.now) in
    let chunk = c.chunk-item.result in
    c.in_ok-extend_from_slice.ensures.items
    ∙ ap (λ (t : List ℕ). c.loop-chunk.out.items ++ t) c.as_slice.ensures
    ∙ ap (λ (t : List ℕ). t ++ chunk) c.loop-chunk.invariant
    ∙ append_assoc out before chunk
    ∙ ap (λ (t : List ℕ). out ++ t) (chunks_more c.args.chunks.now c.loop-chunk.chunk-index chunk c.loop-chunk-test.true c.chunk-item.is)
