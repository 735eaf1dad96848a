use Rattle.std.proofs.Common.{refl}
use Rattle.uuid.specs.Text.{parsed}
use Rattle.ua_types.proofs.IdTexts.{not_read}
use Rattle.ua_types.proofs.guid.Guid.parse.Goals as goal

pub returns-in-Err : goal.returns-in-Err
returns-in-Err c =
    rw (not_read c.try_parse.result c.in-Err.field-0 (parsed c.args.text.now) c.in-Err.is c.try_parse.ensures.ok) refl
