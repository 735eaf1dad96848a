use Rattle.std.proofs.Common.{ap, ◌∙◌}
use Rattle.std.specs.Prelude.{option_map}
use Rattle.ua_item_queue.proofs.LastLemmas.{newest_is_last}
use Rattle.ua_item_queue.proofs.queue.newest.Goals as goal

pub returns-in-Some : goal.returns-in-Some
returns-in-Some g c = ap (option_map (λ e. e.value)) c.in-Some.ensures ∙ newest_is_last c.args.ring.now.items

pub returns-in-None : goal.returns-in-None
returns-in-None g c = ap (option_map (λ e. e.value)) c.in-None.ensures ∙ newest_is_last c.args.ring.now.items
