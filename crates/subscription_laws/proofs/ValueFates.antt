-- What becomes of the values that items queue, whatever is called.
use Rattle.std.proofs.Common.{◌≡◌, ℕ, List, [], ◌∷◌, ◌++◌, append_assoc, sym, ap, ◌∙◌, subst}
use Rattle.std.proofs.lemmas.List.Sums.{fold-append}
use Rattle.ua_types.specs.Configuration.{Configuration}
use Rattle.ua_types.specs.declared.data_value.DataValue.{DataValue}
use Rattle.ua_item_queue.specs.Fates.{AccountEntry, account, account_after, waiting, GoesOn, IsInOrder, LossesAreMarked, NewLossesAreMarked}
use Rattle.ua_item_queue.specs.ItemQueue.{QueueMove}
use Rattle.ua_item_queue.specs.ItemQueue.QueueMove.{Sample}
use Rattle.ua_item_queue.specs.Sendings.{values_of, sampled_by}
use Rattle.ua_item_queue.specs.Causes.{may_give, GetsOnly}
use Rattle.ua_item_queue.proofs.CauseLemmas.{own_fates}
use Rattle.ua_item_queue.proofs.KeptLemmas.{queue_moves_go}
use Rattle.ua_item_queue.proofs.MarkLemmas.{marks_losses}
use Rattle.ua_item_queue.proofs.NextMarked.{marks_the_next}
use Rattle.ua_item_queue.proofs.ValueLemmas.{values_are_sent}
use Rattle.ua_monitored_items.specs.Items.{ItemsState}
use Rattle.ua_monitored_items.specs.Moves as item_moves
use Rattle.ua_monitored_items.specs.Moves.{queue_at}
use Rattle.ua_monitored_items.proofs.Causing.{fates_have_their_causes}
use Rattle.ua_monitored_items.proofs.Runs.{queues_are_what_waits, fates_are_final, accounts_are_in_order, accounts_mark_losses}
use Rattle.subscription_laws.specs.Fates.{queue_moves_at, account_at, AreCaused, HaveTheirCauses, EachLossIsMarked}
use Rattle.subscription_laws.specs.ItemCalls.{calls_of, item_calls}
use Rattle.subscription_laws.specs.Marks.{MarksWhatFollows}
use Rattle.subscription_laws.specs.Runs.{Move, run, of_run}
use Rattle.subscription_laws.proofs.ItemsCalled.{items_come_by_their_calls, calls_go_on}

module _ (config : Configuration) (moves : List Move) (number : ℕ) where
  pub all_are_made_of : values_of (account_at config moves number) ≡ sampled_by (queue_moves_at config moves number)
  all_are_made_of = values_are_sent (queue_moves_at config moves number)

  pub those_wait : waiting (account_at config moves number) ≡ queue_at number (run config moves).items.items
  those_wait = queues_are_what_waits config (item_calls config moves) number ∙ ap (λ (s : ItemsState). queue_at number s.items) (sym (items_come_by_their_calls config moves))

  pub they_stay : (more : List Move) → GoesOn (account_at config moves number) (account_at config (moves ++ more) number)
  they_stay more =
      subst (λ (calls : List item_moves.Move). GoesOn (account_at config moves number) (item_moves.account_of config calls number)) (sym (calls_go_on config moves more))
      (fates_are_final config (item_calls config moves) (of_run calls_of (run config moves) more) number)

  pub sent_in_order : IsInOrder (account_at config moves number)
  sent_in_order = accounts_are_in_order config (item_calls config moves) number

  pub losses_are_marked : LossesAreMarked (account_at config moves number)
  losses_are_marked = accounts_mark_losses config (item_calls config moves) number

pub are_caused : (config : Configuration) (calls : List item_moves.Move) (number : ℕ) → AreCaused config calls number
are_caused config calls number before after call is = fates_have_their_causes config before call number

pub have_their_causes : (queue_moves : List (QueueMove DataValue)) → HaveTheirCauses queue_moves
have_their_causes queue_moves before after queue_move is =
    subst (λ (ts : List (AccountEntry DataValue)). GetsOnly (may_give (account before) queue_move) (account before) ts) (sym (fold-append account_after [] before (queue_move ∷ []))) (own_fates queue_move (account before))

-- what stands in the account stays, whatever else is done
pub stays : (before : List (QueueMove DataValue)) (queue_move : QueueMove DataValue) (after : List (QueueMove DataValue)) → GoesOn (account (before ++ queue_move ∷ [])) (account (before ++ queue_move ∷ after))
stays before queue_move after =
    subst (λ (ts : List (AccountEntry DataValue)). GoesOn (account (before ++ queue_move ∷ [])) ts)
    (sym (fold-append account_after [] (before ++ queue_move ∷ []) after) ∙ ap (λ (queue_moves : List (QueueMove DataValue)). account queue_moves) (append_assoc before (queue_move ∷ []) after))
    (queue_moves_go after (account (before ++ queue_move ∷ [])))

pub each_loss_is_marked : (queue_moves : List (QueueMove DataValue)) → EachLossIsMarked queue_moves
each_loss_is_marked queue_moves before after size oldest value is large = record {
  at_once = subst (λ (ts : List (AccountEntry DataValue)). NewLossesAreMarked (account before) ts) (sym (fold-append account_after [] before (Sample size oldest value ∷ []))) (marks_losses (account before) size oldest value large);
  for_good = stays before (Sample size oldest value) after;
}

pub marks_what_follows : (queue_moves : List (QueueMove DataValue)) → MarksWhatFollows queue_moves
marks_what_follows queue_moves before after size oldest value is large above = marks_the_next before after size oldest value large above
