use Rattle.std.proofs.Common.{ℕ, List, [], ◌∷◌, ◌++◌, append_assoc, ap, sym, ◌∙◌}
use Rattle.ua_views.specs.Views.{or_none}
use Rattle.ua_monitored_items.specs.Links.{Linking}
use Rattle.ua_monitored_items.proofs.Linking.{statuses_more, numbers_more}
use Rattle.ua_monitored_items.proofs.items.Items.link_all.Goals as goal

pub loop-number-preserved : goal.loop-number-preserved
loop-number-preserved c =
    let s = c.args.self.now in
    let done = c.loop-number.yielded in
    let number = c.in-Some.number in
    let start : Linking = record { statuses = []; numbers = c.args.links.now } in
    record {
      statuses =
          c.in_ok-push.ensures.items
          ∙ statuses_more s c.args.subscription c.args.triggering start done number c.loop-number.statuses.items c.in_ok-status.status c.loop-number.invariant.statuses c.in_ok-status.ensures.status;
      links =
          numbers_more s c.args.subscription c.args.triggering start done number c.loop-number.links c.link_one.new.links c.loop-number.invariant.links c.in_ok-status.ensures.links;
      left = append_assoc done (number ∷ []) (or_none c.next.new.self) ∙ ap (λ (list : List ℕ). done ++ list) (sym c.in-Some.ensures.steps) ∙ c.loop-number.invariant.left;
    }
