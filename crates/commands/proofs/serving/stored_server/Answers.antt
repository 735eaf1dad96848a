use Rattle.std.proofs.Common.{◌∙◌, Some, ap}
use Rattle.ua_types.specs.Configuration.{Configuration}
use Rattle.server_core.specs.World.{opening}
use Rattle.socket_server.specs.Keeping.{keeping_all}
use Rattle.commands.proofs.serving.stored_server.Goals as goal

pub returns-in-Ok-kept_server : goal.returns-in-Ok-kept_server
returns-in-Ok-kept_server g c =
    let is = g.P.Store.Keeper.kept c.in-Ok.opened.0 in
    let begun = c.in-Ok-restored.space in (
      c.in-Ok.opened.1,
      is,
      begun,
      c.in-Ok.ensures,
      c.in-Ok-restored.ensures,
      c.in-Ok-kept_server.ensures ∙ ap (λ (k : Configuration). keeping_all (Some (opening k begun)) is) c.with_store-config.ensures,
    )
