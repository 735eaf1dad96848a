use Rattle.std.proofs.Common.{◌≡◌, ◌∙◌, ap, sym, subst, ℕ, ◌+◌, ◌<◌, List, [], ◌∷◌, ◌++◌, length, get_or, drop, Option, Some, rules}
use Rattle.std.proofs.lemmas.List.{drop_more}
use Rattle.server_core.specs.declared.event.Event.{Event}
use Rattle.server_core.specs.declared.out.Step.{Step}
use Rattle.server_core.specs.Running.{Runs}
use Rattle.server_core.specs.World.{World, world_of}
use Rattle.server_core.proofs.RunLemmas.{Begun, begun, next, ends}
use Rattle.server_core.proofs.server.Server.run.Goals as goal

-- what is left is one event, and then the rest
unrolled : (old server : Option World) (events : List Event) (i : ℕ) (event : Event) (steps : List Step) → i < length events → event ≡ get_or events i event →
    Begun old events (drop i events) steps server → Begun old events (event ∷ drop (i + 1) events) steps server
unrolled old server events i event steps h e b =
    subst (λ (es : List Event). Begun old events es steps server)
    (drop_more events i event h ∙ ap (λ (x : Event). x ∷ drop (i + 1) events) (sym e)) b

pub loop-event-init : goal.loop-event-init
loop-event-init c =
    let events = c.args.events.now in
    let old = world_of c.args.self.now in
    subst (λ (ss : List Step). Begun old events events ss old) (sym c.new-steps.ensures) (begun old events)

pub returns-in-Err : goal.returns-in-Err
returns-in-Err c =
    let events = c.args.events.now in
    let i = c.loop-event.event-index in
    let old = world_of c.args.self.now in
    let server = world_of c.loop-event.self in
    let event = c.event-item.result in
    let rest = drop (i + 1) events in
    let steps = c.loop-event.steps in
    subst (λ (ss : List Step). Runs (Some c.in-Err.fault) ss old events (world_of c.step.new.self)) (sym c.reserve_one.ensures)
    (ends old events event rest steps server (unrolled old server events i event steps c.loop-event-test.true c.event-item.is c.loop-event.invariant)
    c.in-Err.fault (world_of c.step.new.self) c.in-Err.ensures.step)

pub loop-event-preserved : goal.loop-event-preserved
loop-event-preserved c =
    let events = c.args.events.now in
    let i = c.loop-event.event-index in
    let old = world_of c.args.self.now in
    let server = world_of c.loop-event.self in
    let event = c.event-item.result in
    let rest = drop (i + 1) events in
    let steps = c.loop-event.steps in
    let pushed : c.push.new.self ≡ c.reserve_one.new.self ++ c.in-Ok.step ∷ [] = search rules in
    let items : c.push.new.self ≡ steps ++ c.in-Ok.step ∷ [] = pushed ∙ ap (λ (ss : List Step). ss ++ c.in-Ok.step ∷ []) c.reserve_one.ensures in
    subst (λ (ss : List Step). Begun old events rest ss (world_of c.step.new.self)) (sym items)
    (next old events event rest steps server (unrolled old server events i event steps c.loop-event-test.true c.event-item.is c.loop-event.invariant)
    c.in-Ok.step (world_of c.step.new.self) c.in-Ok.ensures.step c.in-Ok.ensures.counted)
