use Rattle.std.proofs.Common.{ap, sym, ◌∙◌}
use Rattle.std.specs.Option.{option_copied}
use Rattle.ua_views.specs.Views.{or_none}
use Rattle.ua_monitored_items.specs.Links.{after_link}
use Rattle.ua_monitored_items.proofs.Linking.{no_entry}
use Rattle.ua_monitored_items.proofs.items.Items.link.Goals as goal

pub returns-then-len-eq0-2-clause-ok : goal.returns-then-len-eq0-2-clause-ok
returns-then-len-eq0-2-clause-ok c =
    let s = c.args.self.now in
    let own = sym c.own_item.ensures ∙ ap option_copied c.in-Some.is in
    let no_more = sym c.len.ensures.len ∙ c.if-len-eq0.true in
    let no_less = sym c.len-then-len-eq0.ensures.len ∙ c.if-len-eq0-2.true in
    sym (ap (after_link s) (no_entry s c.args.subscription c.args.triggering (or_none c.args.add) (or_none c.args.remove) c.in-Some.item.now no_more no_less own))
