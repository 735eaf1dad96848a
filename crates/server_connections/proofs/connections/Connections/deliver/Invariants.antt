use Rattle.std.proofs.Common.{◌≡◌, []}
use Rattle.server_connections.specs.Delivering.{sending_after, delivery_of}
use Rattle.server_connections.proofs.connections.Connections.deliver.Given as goal

-- what was sent so far and what is left are the whole, and nothing is left of no replies
abbrev pub invariant-loop-reply : goal.invariant-loop-reply
invariant-loop-reply l = record {
  sent : sending_after l.outs (delivery_of l.setting l.self l.reply-iterator) ≡ sending_after l.fn.outs (delivery_of l.setting l.fn.self l.fn.replies);
  none : l.fn.replies ≡ [] → l.reply-iterator ≡ [];
}
