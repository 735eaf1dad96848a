use Rattle.std.proofs.Common.{◌≡◌, ◌++◌, take}
use Rattle.std.specs.List.{concat}
use Rattle.scenario_run.proofs.chunks.put_chunks.Given as goal

-- the chunks so far are written
abbrev pub invariant-loop-chunk : goal.invariant-loop-chunk
invariant-loop-chunk l = l.out.items ≡ l.initial.out.items ++ concat (take l.chunk-index l.chunks)
