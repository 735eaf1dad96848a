use Rattle.std.proofs.Common.{◌≡◌, ◌∙◌, ap, subst, sym}
use Rattle.ua_types.specs.Configuration.{Configuration}
use Rattle.socket_server.specs.Keeping.{keeping}
use Rattle.scenario_run.specs.Held.{place}
use Rattle.commands.specs.Serving.{ServesBy, idle_of}
use Rattle.commands.proofs.ServeLemmas.{by_words, no_memory_by, served_from_store, served_without_store}
use Rattle.commands.proofs.serving.serve.Goals as goal

pub returns-in_default : goal.returns-in_default
returns-in_default g c =
    let at = place g.O.Write.contents c.args.output.now in
    subst (ServesBy at at c.args.options.now c.args.made) (sym c.no_memory.ensures) (no_memory_by at c.args.options.now c.args.made)

pub returns-in-None : goal.returns-in-None
returns-in-None g c =
    let old = place g.O.Write.contents c.args.output.now in
    let new = place g.O.Write.contents c.serve_begun.new.output in
    let o = c.args.options.now in
    let status = c.serve_begun.result in
    let asked = c.idle_of-idle.result in
    let idle : asked ≡ idle_of c.args.made.0.session_time o.idle = c.idle_of-idle.ensures ∙ ap (λ (k : Configuration). idle_of k.session_time o.idle) c.config.view_is in
    by_words old new o c.args.made status asked c.in-Ok.config idle c.in-Ok.ensures
    (served_without_store old new asked o c.in-Ok.config c.args.made.1 status c.in-None.is _ c.kept_server-begun.result c.kept_server-begun.ensures c.serve_begun.ensures)

pub returns-in-Some : goal.returns-in-Some
returns-in-Some g c =
    let old = place g.O.Write.contents c.args.output.now in
    let new = place g.O.Write.contents c.serve_begun-in-Some.new.output in
    let o = c.args.options.now in
    let status = c.serve_begun-in-Some.result in
    let asked = c.idle_of-idle.result in
    let idle : asked ≡ idle_of c.args.made.0.session_time o.idle = c.idle_of-idle.ensures ∙ ap (λ (k : Configuration). idle_of k.session_time o.idle) c.config.view_is in
    by_words old new o c.args.made status asked c.in-Ok.config idle c.in-Ok.ensures
    (served_from_store old new asked o c.in-Ok.config c.args.made.1 status c.in-Some.path c.in-Some.is (keeping g.P.Store.Keeper.kept) c.stored_server-begun.result
    c.stored_server-begun.ensures c.serve_begun-in-Some.ensures)
