use Rattle.std.proofs.Common.{sym, ◌∙◌}
use Rattle.std.proofs.lemmas.Result.{err_from_is_err_and}
use Rattle.scenario_text.specs.Entries.{entries_within}
use Rattle.scenario_text.proofs.Entries.{goes_on, fails, stops, is_done}
use Rattle.scenario_text.proofs.phrases.entries_within.Goals as goal

pub returns-then-not-has_more : goal.returns-then-not-has_more
returns-then-not-has_more g c =
    stops g.T.Phrase.reading c.loop.entries.items c.args.most c.loop.counter c.loop.words (entries_within c.args.most g.T.Phrase.reading c.args.words.now) c.loop-test.true (sym c.has_more.ensures ∙ c.if-not-has_more.true) c.loop.invariant

pub returns-in_err-entry : goal.returns-in_err-entry
returns-in_err-entry g c =
    let p = err_from_is_err_and c.from_residual.result c.from_residual.ensures.1 in
    rw (p.1, p.2) (λ other. fails g.T.Phrase.reading c.loop.entries.items c.args.most c.loop.counter c.loop.words _ (entries_within c.args.most g.T.Phrase.reading c.args.words.now) c.loop-test.true (sym c.has_more.ensures ∙ c.if-not-has_more.false) (c.in_err-entry.ensures other) c.loop.invariant)

pub loop-preserved : goal.loop-preserved
loop-preserved g c =
    rw c.in_ok-push.ensures.items (goes_on g.T.Phrase.reading c.loop.entries.items c.args.most c.loop.counter c.loop.words c.in_ok-entry.entry c.read.new.words (entries_within c.args.most g.T.Phrase.reading c.args.words.now) c.loop-test.true (sym c.has_more.ensures ∙ c.if-not-has_more.false) c.in_ok-entry.ensures c.loop.invariant)

pub returns : goal.returns
returns g c = is_done g.T.Phrase.reading c.loop.entries.items c.args.most c.loop.counter c.loop.words (entries_within c.args.most g.T.Phrase.reading c.args.words.now) c.loop-test.false c.loop.invariant
