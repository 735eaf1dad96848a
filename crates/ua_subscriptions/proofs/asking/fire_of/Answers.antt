use Rattle.std.proofs.Common.{sym, subst}
use Rattle.ua_subscriptions.specs.Askers.{asker_at}
use Rattle.ua_subscriptions.specs.Owing.{AllBy}
use Rattle.ua_subscriptions.specs.Scenes.{Scene, scene}
use Rattle.ua_subscriptions.proofs.AskingRows.{fired_asks}
use Rattle.ua_subscriptions.proofs.Askings.{StandsWith, all_weaker}
use Rattle.ua_subscriptions.proofs.asking.fire_of.Goals as goal

pub returns-in-Ok-fire-clause-asked : goal.returns-in-Ok-fire-clause-asked
returns-in-Ok-fire-clause-asked c =
    let before = scene c.args.round.now c.args.subscription.now c.args.part.now c.args.items.now in
    subst (λ (s : Scene). AllBy (StandsWith c.note_asked.new.askers c.args.session) s.part.requests) (sym c.in-Ok-fire.ensures)
    (fired_asks (StandsWith c.note_asked.new.askers c.args.session) before c.in-Ok.ensures.ok
    (all_weaker (StandsWith c.args.askers.now c.args.session) (StandsWith c.note_asked.new.askers c.args.session) (λ conn. c.note_asked.ensures.more (asker_at conn c.args.session)) c.args.part.now.requests c.requires))
