use Rattle.subscription_laws.proofs.TellingRuns.{messages_brought}
use Rattle.server_laws.specs.EventMoves.{moves_of}
use Rattle.server_laws.proofs.ReplyLemmas.{brings_messages, sends_replies}
use Rattle.server_laws.proofs.messages_are_answers.Goals as goal

pub returns : goal.returns
returns c = record {
  answers = λ config space events. messages_brought config (moves_of config space events);
  replies = brings_messages;
  sent = sends_replies;
}
