use Rattle.std.proofs.Common.{append-nil, ap, sym, ◌∙◌}
use Rattle.std.proofs.lemmas.List.{nil_from_length}
use Rattle.std.specs.FinMap.{get}
use Rattle.server_connections.specs.Connecting.{Refusing, refusing}
use Rattle.server_connections.specs.Shutting.{all_shut, refusing_after}
use Rattle.server_connections.proofs.ShuttingLemmas.{none_shut, shut_ends}
use Rattle.server_connections.proofs.connections.Connections.shut.Goals as goal

pub returns-then-not-has_open-clause-shut : goal.returns-then-not-has_open-clause-shut
returns-then-not-has_open-clause-shut c =
    sym (
    ap (λ (r : Refusing). refusing_after c.args.outs.now r) (none_shut c.args.self.now (c.has_open.ensures.none c.if-not-has_open.true))
    ∙ ap (λ outs. refusing c.args.self.now outs) (append-nil c.args.outs.now)
    )

pub returns-clause-ended : goal.returns-clause-ended
returns-clause-ended c conn =
    let at = λ (r : Refusing). get r.connections.known conn in
    let rest = c.loop-conn.conn-iterator.rest in
    let done = nil_from_length rest.items (sym rest.ok.0 ∙ c.in-None.ensures.steps.0) in
    ap (λ conns. at (all_shut c.loop-conn.self conns)) (sym done)
    ∙ ap at c.loop-conn.invariant
    ∙ shut_ends c.args.self.now conn
