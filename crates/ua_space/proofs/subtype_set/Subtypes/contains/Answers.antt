use Rattle.std.proofs.Common.{sym, ◌∙◌, ap}
use Rattle.std.specs.List.{list_any}
use Rattle.ua_types.specs.NodeIdOrder.{same_id}
use Rattle.ua_space.proofs.Walking.{keys_any}
use Rattle.ua_space.proofs.subtype_set.Subtypes.contains.Goals as goal

pub returns : goal.returns
returns c = c.contains.ensures ∙ sym (keys_any c.self.inside.ids.keys c.args.id.now) ∙ ap (list_any (same_id c.args.id.now)) c.self.view_is
