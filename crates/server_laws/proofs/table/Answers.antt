use Rattle.server_laws.proofs.TableLemmas.{one_row, none_waits, exact_time_out, none_times_out_beside, none_is_skipped, sessions_apart, answers_stay, best_first}
use Rattle.server_laws.proofs.ShutLemmas.{items_owned}
use Rattle.server_laws.proofs.table.Goals as goal

pub returns : goal.returns
returns c = record {
  one_row = one_row;
  no_waiting_beside_a_request = none_waits;
  exact_time_out = exact_time_out;
  no_time_out_beside_a_request = none_times_out_beside;
  no_keep_alive_skipped = none_is_skipped;
  sessions_apart = sessions_apart;
  answers_in_their_sessions = answers_stay;
  best_first = best_first;
  items_have_subscriptions = items_owned;
}
