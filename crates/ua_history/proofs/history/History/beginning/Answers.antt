use Rattle.std.proofs.Common.{◌+◌, length, drop, refl, sym, ap, ◌∙◌, arith}
use Rattle.std.proofs.lemmas.Bool.{false≢true}
use Rattle.std.specs.Prelude.{slice_get}
use Rattle.std.specs.List.{fold}
use Rattle.ua_space.specs.Histories.{history_in, without_history_in}
use Rattle.ua_space.specs.Nodes.{Nodes}
use Rattle.ua_history.specs.Histories.{HistoryState, with_node, with_node_if}
use Rattle.ua_history.proofs.Begun.{emptied, still_there, none_there, emptied_by_one, as_many, all_emptied, goes_on_by_one, at_the_end}
use Rattle.ua_history.proofs.history.History.beginning.Goals as goal

pub loop-place-init : goal.loop-place-init
unfolding emptied
loop-place-init c = record { nodes = refl; triples = refl; left = ap (λ (h : HistoryState). fold with_node h c.args.space.now.nodes) c.new-history.ensures }

pub begin_with-requires : goal.begin_with-requires
begin_with-requires c =
    let many = ap length c.loop-place.invariant.nodes ∙ as_many c.loop-place.place c.args.space.now.nodes in
    let end = c.node_count-place-end.ensures in
    let under = c.loop-place-test.true in
    omega (arith, many, end, under)

pub loop-place-preserved : goal.loop-place-preserved
loop-place-preserved c =
    let n = c.loop-place.place in
    let nodes = c.args.space.now.nodes in
    let here = ap (λ (ns : Nodes). slice_get ns n) c.loop-place.invariant.nodes ∙ still_there n nodes in
    record {
      nodes = c.begin_with.ensures.nodes ∙ ap (without_history_in n) c.loop-place.invariant.nodes ∙ emptied_by_one n nodes;
      triples = c.begin_with.ensures.triples ∙ c.loop-place.invariant.triples;
      left =
          ap (λ (h : HistoryState). fold with_node h (drop (n + 1) nodes)) (c.in_ok-begin_with.ensures.history ∙ ap (λ o. with_node_if c.loop-place.history o) here)
          ∙ goes_on_by_one n nodes c.loop-place.history ∙ c.loop-place.invariant.left;
    }

pub returns-clause-nodes : goal.returns-clause-nodes
returns-clause-nodes c =
    let end = c.node_count-place-end.ensures in
    let over = c.loop-place-test.false in
    c.loop-place.invariant.nodes ∙ all_emptied c.loop-place.place c.args.space.now.nodes (omega (arith, end, over))

pub returns-clause-histories : goal.returns-clause-histories
returns-clause-histories c =
    let end = c.node_count-place-end.ensures in
    let over = c.loop-place-test.false in
    sym (at_the_end c.loop-place.place c.args.space.now.nodes c.loop-place.history (omega (arith, end, over))) ∙ c.loop-place.invariant.left

pub returns-in_err-begin_with-clause-memory : goal.returns-in_err-begin_with-clause-memory
returns-in_err-begin_with-clause-memory c same =
    let n = c.loop-place.place in
    let nodes = c.args.space.now.nodes in
    let here = ap (λ (ns : Nodes). slice_get ns n) c.loop-place.invariant.nodes ∙ still_there n nodes in
    absurd (false≢true (c.in_err-begin_with.ensures.memory (ap history_in here ∙ none_there n nodes same)))
