use Rattle.std.proofs.Common.{◌∙◌, sym, ap, ◌∷◌, [], take}
use Rattle.ua_transport.specs.declared.frame.ChunkType.TheVariants.{Intermediate}
use Rattle.ua_transport.specs.Cutting.{cut_after, chunk_encoding}
use Rattle.ua_transport.proofs.CuttingLemmas.{cut_more, cut_last, cut_after_twice}
use Rattle.ua_transport.proofs.cutting.cut.Goals as goal

pub loop-rest-preserved : goal.loop-rest-preserved
loop-rest-preserved c =
    let rest = c.loop-rest.rest.now in
    let part = chunk_encoding c.loop-rest.header Intermediate (take c.args.room rest) in
    record {
      cut = rw (c.in_ok-push.ensures.ok, c.in_ok-chunk.ensures, c.sequence_number_after.ensures.value, c.split_at.ensures.front, c.split_at.ensures.back)
          (cut_after_twice c.loop-rest.chunks (part ∷ []) _
          ∙ ap (cut_after c.loop-rest.chunks) (sym (cut_more c.args.last c.loop-rest.header c.args.room rest c.requires.some c.loop-rest-test.true))
          ∙ c.loop-rest.invariant.cut);
      small = λ _. c.sequence_number_after.ensures.small;
    }

pub returns-clause-cut : goal.returns-clause-cut
returns-clause-cut c =
    let rest = c.loop-rest.rest.now in
    rw (c.in_ok-push-2.ensures.ok, c.in_ok-chunk-2.ensures)
    (ap (cut_after c.loop-rest.chunks) (sym (cut_last c.args.last c.loop-rest.header c.args.room rest c.requires.some c.loop-rest-test.false))
    ∙ c.loop-rest.invariant.cut)
