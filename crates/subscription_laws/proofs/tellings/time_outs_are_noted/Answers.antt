use Rattle.subscription_laws.specs.Runs.{run}
use Rattle.subscription_laws.proofs.TellingRuns.{note_answers, note_taken}
use Rattle.subscription_laws.proofs.tellings.time_outs_are_noted.Goals as goal

pub returns : goal.returns
returns c = record {
  answer = λ config moves clock session asked acks note is. note_answers (run config moves) clock session asked acks note is;
  taken = λ config moves clock session asked acks note is. note_taken (run config moves) clock session asked acks note is;
}
