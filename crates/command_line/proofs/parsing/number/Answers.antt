use Rattle.std.proofs.Common.{sym, ◌∙◌}
use Rattle.command_line.proofs.Digits.{misread}
use Rattle.command_line.proofs.parsing.number.Goals as goal

pub returns-in_default : goal.returns-in_default
returns-in_default c =
    misread c.parse.result c.in_default.field-0 c.args.digits.now (sym c.all_digits.ensures ∙ c.if-not-all_digits.false) c.parse.ensures.value.0 c.in_default.is
