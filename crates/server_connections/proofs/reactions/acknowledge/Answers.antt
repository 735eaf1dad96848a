use Rattle.std.proofs.Common.{ℕ, List, [], ◌∷◌, ◌++◌, ◌∙◌, ap}
use Rattle.server_connections.specs.Reactions.{acknowledgement}
use Rattle.server_messages.specs.declared.out.Out.TheVariants.{Send}
use Rattle.server_connections.proofs.reactions.acknowledge.Goals as goal

pub returns : goal.returns
unfolding acknowledgement
returns c = c.in_ok-push.ensures.ok ∙ ap (λ (bytes : List ℕ). c.args.outs.now ++ Send c.args.conn bytes ∷ []) c.in_ok-ack.ensures.bytes
