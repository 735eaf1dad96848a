use Rattle.std.proofs.Common.{◌∙◌, ap, sym}
use Rattle.std.specs.FinMap.{entries}
use Rattle.ua_session.specs.SessionTables.{due_in}
use Rattle.ua_session.specs.Sessions.{SessionsState, at_clock, ticked, ended_by}
use Rattle.ua_session.proofs.HeldLemmas.{held_anew, none_ended, clock_alone}
use Rattle.ua_session.proofs.sessions.Sessions.tick.Goals as goal

pub returns-then-is_before-clause-ended : goal.returns-then-is_before-clause-ended
returns-then-is_before-clause-ended c =
    let before = sym c.is_before.ensures ∙ c.if-is_before.true in
    c.new.ensures.items ∙ sym (none_ended c.self.inside.earliest c.self.inside.made c.self.inside.table c.later-clock.result before c.self.invariant)
    ∙ ap (λ clock. due_in clock (entries c.self.inside.table)) c.later-clock.ensures ∙ ap (λ s. ended_by s c.args.now) c.self.view_is

pub returns-then-is_before-clause-ok : goal.returns-then-is_before-clause-ok
returns-then-is_before-clause-ok c =
    let before = sym c.is_before.ensures ∙ c.if-is_before.true in
    let old : SessionsState = record { most = c.self.inside.most; time = c.self.inside.time; clock = c.self.inside.clock; sessions = c.self.inside.table; made = c.self.inside.made; nonces = c.self.inside.nonces; most_points = c.self.inside.most_points; points = c.self.inside.points } in
    clock_alone old c.self.inside.earliest c.later-clock.result before c.self.invariant
    ∙ ap (at_clock old) c.later-clock.ensures ∙ ap (λ s. ticked s c.args.now) c.self.view_is

pub invariant_of-self-2 : goal.invariant_of-self-2
invariant_of-self-2 c =
    held_anew c.self.inside.earliest c.earliest-self-inside.result c.self.inside.made c.self.inside.table c.remove_all.new.table c.deref.result.now c.remove_all.ensures c.earliest-self-inside.ensures c.self.invariant
