use Rattle.std.proofs.Common.{refl}
use Rattle.server_core.proofs.HandlingLemmas.{request_shows}
use Rattle.server_core.proofs.parts.Core.handle.Goals as goal

pub returns-in_ok-add-in-Request : goal.returns-in_ok-add-in-Request
returns-in_ok-add-in-Request c =
    request_shows c.args.conn c.args.self.now c.args.frame.now c.args.step.now c.take.new.outs c.deliver.new.outs c.add.new.self c.in_ok-take.field-0 c.in-Request.request
    c.take.new.self c.deliver.new.self c.serve.new.self c.in_ok-served-in-Request.served c.in_ok-served-in-Request.served.replies
    c.in_ok-take.ensures c.in-Request.is c.in_ok-served-in-Request.ensures refl c.in_ok-deliver-in-Request.ensures.sent c.in_ok-add-in-Request.ensures
