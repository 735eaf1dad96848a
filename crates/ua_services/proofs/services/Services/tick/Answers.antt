use Rattle.std.proofs.Common.{◌∙◌, ap}
use Rattle.ua_session.specs.Sessions.{ticked, ended_by}
use Rattle.ua_services.specs.Serving.{given_of}
use Rattle.ua_services.specs.SessionServing.{with_sessions}
use Rattle.ua_services.specs.SubServing.{all_timed_out, timers_met}
use Rattle.ua_services.proofs.SubLemmas.{then_gives}
use Rattle.ua_services.proofs.services.Services.tick.Goals as goal

pub returns-clause-ticks : goal.returns-clause-ticks
returns-clause-ticks c =
    let state = c.args.self.now in
    let setting = c.args.setting.now in
    let after = with_sessions state (ticked state.sessions setting.clock) in
    let ended = ended_by state.sessions setting.clock in
    let first =
    c.in_ok-served.ensures
    ∙ ap (λ s. given_of (all_timed_out setting (with_sessions state s) c.as_slice.result.now)) c.in_ok-ended.ensures.ok
    ∙ ap (λ numbers. given_of (all_timed_out setting after numbers)) (c.as_slice.ensures.value ∙ c.in_ok-ended.ensures.ended)
    in
    then_gives (all_timed_out setting after ended) (timers_met setting) c.end_sessions.new.services c.fire_timers-2.new.services c.in_ok-served.served c.in_ok-more.more c.in_ok-joined.field-0
    first c.in_ok-more.ensures.serves c.in_ok-joined.ensures
