use Rattle.std.proofs.Common.{◌≡◌, take, sym, subst, ◌∙◌, List}
use Rattle.std.proofs.lemmas.Bool.{false≢true}
use Rattle.std.proofs.lemmas.List.{take_all}
use Rattle.std.specs.List.{All}
use Rattle.ua_space.specs.declared.triple.Triple.{Triple}
use Rattle.ua_space.proofs.Counting.{Has_number, is_source, sources_more, complete_more}
use Rattle.ua_space.proofs.numbering.Numbering.new.Goals as goal
use Rattle.ua_space.proofs.numbering.Numbering.new.Goals.{in-None, in-Some+in_ok-add-in-Some, then-is_subtyping+in_ok-add, else-is_subtyping}

pub loop-place-preserved : goal.loop-place-preserved
loop-place-preserved c =
    let ts = c.args.triples.now in
    elim c.match-get.branch [
      | in-None w ↦ rw (w.numbers-is, w.types-is) c.loop-place.invariant
      | in-Some+in_ok-add-in-Some w ↦
          let t = w.in-Some.triple.now in
          let here = is_source ts _ t w.in-Some.ensures.lookup.3.0 w.in-Some.ensures.lookup.1 in
          rw (w.numbers-is, w.types-is) (record {
            each = w.in_ok-add-in-Some.ensures.numbers;
            sources = sources_more ts c.loop-place.numbers.entries _ t.source c.loop-place.invariant.sources w.in_ok-add-in-Some.ensures.only here;
          })
    ]

pub loop-triple-preserved : goal.loop-triple-preserved
loop-triple-preserved c =
    let ts = c.args.triples.now in
    let i = c.loop-triple.triple-index in
    let t = c.triple-item.result in
    let old = c.loop-triple.numbers.entries in
    elim c.if-is_subtyping.branch [
      | then-is_subtyping+in_ok-add w ↦
          rw (w.numbers-is, w.types-is) (record {
            each = w.in_ok-add.ensures.numbers;
            sources = sources_more ts old _ t.source c.loop-triple.invariant.sources w.in_ok-add.ensures.only (is_source ts i t c.loop-triple-test.true c.triple-item.is);
            complete = complete_more ts i t old _ c.loop-triple-test.true c.triple-item.is c.loop-triple.invariant.complete w.in_ok-add.ensures.kept (λ kind. w.in_ok-add.ensures.here);
          })
      | else-is_subtyping w ↦
          rw (w.numbers-is, w.types-is) (record {
            each = c.loop-triple.invariant.each;
            sources = c.loop-triple.invariant.sources;
            complete = complete_more ts i t old old c.loop-triple-test.true c.triple-item.is c.loop-triple.invariant.complete (λ q n h. h)
                (λ kind. absurd (false≢true (sym w.if-is_subtyping.false ∙ c.is_subtyping.ensures ∙ kind)));
          })
    ]

pub returns : goal.returns
returns c =
    let ts = c.args.triples.now in
    let all : take c.loop-triple.triple-index ts ≡ ts = take_all c.loop-triple.triple-index ts c.loop-triple-test.false in
    record {
      each = c.loop-triple.invariant.each;
      sources = c.loop-triple.invariant.sources;
      complete = (let P : List Triple → Type 0 = λ xs. All (Has_number c.loop-triple.numbers.entries) xs in subst P all c.loop-triple.invariant.complete);
    }
