use Rattle.std.proofs.Common.{◌∙◌, ap, sym}
use Rattle.ua_item_queue.specs.ItemQueue.{newest as newest_spec}
use Rattle.ua_item_queue.proofs.LastLemmas.{newest_again, has_newest}
use Rattle.ua_item_queue.proofs.queue.keep_front.Goals as goal

pub returns-in-Some-clause-newest : goal.returns-in-Some-clause-newest
returns-in-Some-clause-newest g c = ap (λ ring. newest_spec ring.items) c.push.ensures
    ∙ newest_again c.args.ring.now.items c.truncate_back.new.self.items c.in-Some.last c.in-Some.ensures.value

pub returns-in_default-clause-entries : goal.returns-in_default-clause-entries
returns-in_default-clause-entries g c = absurd (has_newest c.args.keeps_last c.args.size c.args.ring.now.items c.requires.more (sym c.in_default.is ∙ c.pop_back.ensures.value))

pub returns-in_default-clause-newest : goal.returns-in_default-clause-newest
returns-in_default-clause-newest g c = absurd (has_newest c.args.keeps_last c.args.size c.args.ring.now.items c.requires.more (sym c.in_default.is ∙ c.pop_back.ensures.value))

pub returns-in_default-clause-within : goal.returns-in_default-clause-within
returns-in_default-clause-within g c = absurd (has_newest c.args.keeps_last c.args.size c.args.ring.now.items c.requires.more (sym c.in_default.is ∙ c.pop_back.ensures.value))
