use Rattle.subscription_laws.proofs.TellingRuns.{all_are_told, messages_told}
use Rattle.server_laws.specs.EventMoves.{moves_of}
use Rattle.server_laws.proofs.tellings.answers_are_told.Goals as goal

pub returns : goal.returns
returns c = record {
  answers = λ config space events. all_are_told config (moves_of config space events);
  messages = λ config space events. messages_told config (moves_of config space events);
}
