use Rattle.std.proofs.Common.{◌≡◌, List, Option, subst, sym, ◌∙◌}
use Rattle.ua_read_write.specs.declared.writing.Change.{Change}
use Rattle.ua_services.specs.Services.{serving_of}
use Rattle.ua_services.specs.Write.{sampled}
use Rattle.ua_services.specs.declared.services.Services.{Services}
use Rattle.server_core.specs.Coherent.{IfRuns}
use Rattle.server_core.specs.declared.world.World.{World}
use Rattle.server_core.specs.declared.parts.Core.{Core}
use Rattle.server_laws.specs.SessionsApart.{KeepsSessionsApart}
use Rattle.server_laws.proofs.stories.a_second_value_unseen.Goals as goal

pub returns : goal.returns
returns c config space events world request session first second runs write names both seen differs =
    let core : Core = world.core in
    let apart : KeepsSessionsApart world = subst (λ (server : Option World). IfRuns KeepsSessionsApart server) runs (c.table.ensures.sessions_apart config space events).requests in
    let samples = ((apart request).written session names write).items in
    let after : Services = (serving_of core.setting request core.services).state in
    let all = subst (λ (changed : List Change). after.items ≡ sampled core.services.items changed) both samples in
    differs (sym seen ∙ all)
