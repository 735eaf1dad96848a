use Rattle.std.proofs.Common.{arith, sym, ◌∙◌, ◌+◌}
use Rattle.ua_types.proofs.IdTexts.{number_misread}
use Rattle.ua_types.proofs.parsing.decimal_up_to.Goals as goal

pub returns-in_default-clause-value : goal.returns-in_default-clause-value
returns-in_default-clause-value c =
    number_misread c.parse.result c.in_default.field-0 c.args.digits.now (c.args.highest + 1) (sym c.all_digits.ensures ∙ c.if-not-all_digits.false) c.parse.ensures.value.0 c.in_default.is (omega (arith, c.ranges.highest.fits))
