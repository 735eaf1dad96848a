use Rattle.std.proofs.Common.{List, [], ap, ◌∙◌}
use Rattle.ua_types.specs.declared.data_value.DataValue.{DataValue}
use Rattle.store_restoring.specs.Restored.{past_of}
use Rattle.store_restoring.proofs.Ids.{keys_stay, put_twice}
use Rattle.store_restoring.proofs.opened.Opened.new.Goals as goal

pub returns-in_err-opened-clause-ids : goal.returns-in_err-opened-clause-ids
returns-in_err-opened-clause-ids c = rw c.take_history-values.ensures.nodes (keys_stay [] c.args.space.now.nodes c.args.place)

pub returns-clause-opened : goal.returns-clause-opened
returns-clause-opened c = record {
  place = c.in_ok-opened.ensures.place;
  past = λ t. c.in_ok-opened.ensures.past t ∙ ap (λ (vs : List DataValue). past_of vs t) (c.into_vec.ensures ∙ c.take_history-values.ensures.taken);
  nodes = λ values. rw c.take_history-values.ensures.nodes (put_twice values [] c.args.space.now.nodes c.args.place);
}

pub returns-clause-ids : goal.returns-clause-ids
returns-clause-ids c = rw c.take_history-values.ensures.nodes (keys_stay [] c.args.space.now.nodes c.args.place)
