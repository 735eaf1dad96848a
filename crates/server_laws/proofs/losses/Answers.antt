use Rattle.subscription_laws.proofs.TellingRuns.{numbers_follow}
use Rattle.server_laws.proofs.FateLemmas.{have_one_fate, stand_in_messages, marks_losses}
use Rattle.server_laws.proofs.MessageLemmas.{numbers_messages, gives_first_bytes}
use Rattle.server_laws.proofs.PostingLemmas.{answers_go_out}
use Rattle.server_laws.proofs.SentLemmas.{answers_sent}
use Rattle.server_laws.specs.EventMoves.{moves_of}
use Rattle.server_laws.proofs.losses.Goals as goal

pub returns : goal.returns
returns c = record {
  fates = have_one_fate;
  each_in_one_message = stand_in_messages;
  overflow_marks = marks_losses;
  message_numbers = numbers_messages;
  answers_numbered = λ config space events. numbers_follow config (moves_of config space events);
  republish_gives_the_first_bytes = gives_first_bytes;
  answers_go_out = answers_go_out;
  answers_are_sent = answers_sent;
}
