use Rattle.ua_types.proofs.IdTexts.{behind_is}
use Rattle.ua_types.proofs.parsing.behind.Goals as goal

pub returns : goal.returns
returns c = behind_is c.strip_prefix.result c.args.front.now c.args.text.now c.strip_prefix.ensures.cases
