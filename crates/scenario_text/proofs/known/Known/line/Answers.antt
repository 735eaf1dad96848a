use Rattle.std.proofs.Common.{sym, ◌∙◌}
use Rattle.scenario_text.proofs.Fronts.{begins_well}
use Rattle.scenario_text.proofs.known.Known.line.Goals as goal

pub returns-in_err-end-clause-front : goal.returns-in_err-end-clause-front
returns-in_err-end-clause-front c =
    begins_well c.args.self.now c.args.words.now c.word.new.self c.in_ok-word.field-0.now c.in_ok-verb.verb c.in_ok-statement.statement _
    (sym c.has_more.ensures ∙ c.if-not-has_more.false) c.in_ok-word.ensures c.in_ok-verb.ensures c.in_ok-statement.ensures.asker

pub returns-clause-front : goal.returns-clause-front
returns-clause-front c =
    begins_well c.args.self.now c.args.words.now c.word.new.self c.in_ok-word.field-0.now c.in_ok-verb.verb c.in_ok-statement.statement _
    (sym c.has_more.ensures ∙ c.if-not-has_more.false) c.in_ok-word.ensures c.in_ok-verb.ensures c.in_ok-statement.ensures.asker
