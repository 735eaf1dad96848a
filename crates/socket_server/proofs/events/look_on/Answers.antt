use Rattle.std.proofs.Common.{ap, refl, sym, ◌∙◌}
use Rattle.socket_peers.specs.Peers.{is_owed_at}
use Rattle.socket_server.specs.Keeping.{keeping}
use Rattle.socket_server.specs.Serving.{scene, KeepsIf}
use Rattle.socket_server.specs.declared.serve_fault.ServeFault.TheVariants as serve_fault
use Rattle.socket_server.proofs.ServingLemmas.{kept_if_goes, kept_if_owed, looked_on, stops_after, stops_here, stops_unkept, unkept_if_not_owed}
use Rattle.socket_server.proofs.events.look_on.Goals as goal
use Rattle.socket_server.proofs.events.look_on.Goals.{then-is_owed+in-Ok, else-is_owed}

pub returns-in-Err : goal.returns-in-Err
returns-in-Err g c text keys events output =
    let failed = c.in-Err.ensures in
    stops_unkept g.S.Socket.remaining g.S.Socket.contents g.S.Socket.calls text (scene keys (keeping g.K.Keeper.kept c.args.server.now) c.args.peers.now events output)
    (scene keys (keeping g.K.Keeper.kept c.settle.new.self) c.args.peers.now events output) c.in-Err.fault failed.0 (failed.1, refl)

pub returns-in-Ok-look_at : goal.returns-in-Ok-look_at
returns-in-Ok-look_at g c text keys events output =
    let server = keeping g.K.Keeper.kept c.args.server.now in
    let kept = keeping g.K.Keeper.kept c.if-is_owed.server in
    let at = scene keys server c.args.peers.now events output in
    let is_owed = is_owed_at c.args.peers.now c.args.number in
    let may : KeepsIf g.S.Socket.remaining g.S.Socket.contents g.S.Socket.calls text is_owed at (scene keys kept c.args.peers.now events output) =
    elim c.if-is_owed.branch [
      | then-is_owed+in-Ok w ↦
          kept_if_owed g.S.Socket.remaining g.S.Socket.contents g.S.Socket.calls text is_owed at kept (keeping g.K.Keeper.kept w.settle.new.self) (sym c.is_owed.ensures ∙ w.if-is_owed.true)
          (ap (keeping g.K.Keeper.kept) w.server-is) w.in-Ok.ensures
      | else-is_owed w ↦
          unkept_if_not_owed g.S.Socket.remaining g.S.Socket.contents g.S.Socket.calls text is_owed at kept (sym c.is_owed.ensures ∙ w.if-is_owed.false) (ap (keeping g.K.Keeper.kept) w.server-is)
    ]
    in
    looked_on g.S.Socket.remaining g.S.Socket.contents g.S.Socket.calls text c.args.number at kept c.look_at.new.self may c.in-Ok-look_at.ensures

pub returns-in-Err-look_at : goal.returns-in-Err-look_at
returns-in-Err-look_at g c text keys events output =
    let server = keeping g.K.Keeper.kept c.args.server.now in
    let kept = keeping g.K.Keeper.kept c.if-is_owed.server in
    let at = scene keys server c.args.peers.now events output in
    let mid = scene keys kept c.args.peers.now events output in
    let is_owed = is_owed_at c.args.peers.now c.args.number in
    let may : KeepsIf g.S.Socket.remaining g.S.Socket.contents g.S.Socket.calls text is_owed at mid =
    elim c.if-is_owed.branch [
      | then-is_owed+in-Ok w ↦
          kept_if_owed g.S.Socket.remaining g.S.Socket.contents g.S.Socket.calls text is_owed at kept (keeping g.K.Keeper.kept w.settle.new.self) (sym c.is_owed.ensures ∙ w.if-is_owed.true)
          (ap (keeping g.K.Keeper.kept) w.server-is) w.in-Ok.ensures
      | else-is_owed w ↦
          unkept_if_not_owed g.S.Socket.remaining g.S.Socket.contents g.S.Socket.calls text is_owed at kept (sym c.is_owed.ensures ∙ w.if-is_owed.false) (ap (keeping g.K.Keeper.kept) w.server-is)
    ]
    in
    let new = scene keys kept c.look_at.new.self events output in
    stops_after g.S.Socket.remaining g.S.Socket.contents g.S.Socket.calls text 0 at mid new serve_fault.Memory (kept_if_goes g.S.Socket.remaining g.S.Socket.contents g.S.Socket.calls text is_owed at mid may)
    (stops_here g.S.Socket.remaining g.S.Socket.contents g.S.Socket.calls text mid new serve_fault.Memory tt refl refl)
