use Rattle.std.proofs.Common.{rules, ◌≡◌, ◌+◌, ℕ, List, refl, subst, ap, ◌∙◌}
use Rattle.server_messages.specs.declared.fired.Fired.{Fired}
use Rattle.socket_peers.specs.Peers.{owed_all}
use Rattle.socket_server.specs.Output.{Output, Puts, PutsOrFails}
use Rattle.socket_server.proofs.events.hand_in.Goals as goal

pub returns-in-Ok-saw : goal.returns-in-Ok-saw
returns-in-Ok-saw g c keys =
    let said = c.in-Ok.ensures in
    let step = said.0 in
    let owed : c.owe_all.new.self ≡ owed_all c.args.peers.now c.in-Ok.answer.outs = search rules in
    let number : c.in-Some.number ≡ c.args.events.now + 1 = search rules in
    let shown : c.as_slice-3.result.now ≡ c.in-Ok.answer.rows = search rules in
    let old = g.W.Observer.output c.sent.new.self in
    let new = g.W.Observer.output c.saw.new.self in
    let told : Puts old new (g.W.Observer.text c.in-Some.number c.as_slice-3.result.now) =
    subst (PutsOrFails (g.W.Observer.text c.in-Some.number c.as_slice-3.result.now) old new) c.in-Ok-saw.is c.saw.ensures
    in
    let of_rows = subst (λ (l : List Fired). Puts old new (g.W.Observer.text c.in-Some.number l)) (shown ∙ said.3) told in
    let of_number = subst (λ (n : ℕ). Puts old new (g.W.Observer.text n step.rows)) number of_rows in (
      step,
      said.1,
      owed ∙ ap (owed_all c.args.peers.now) said.2,
      number,
      subst (λ (o : Output). Puts o new (g.W.Observer.text (c.args.events.now + 1) step.rows)) c.sent.ensures of_number,
      refl,
    )
