use Rattle.std.proofs.Common.{ap, sym, ◌∙◌}
use Rattle.ua_types.specs.Shapes.{shape_of}
use Rattle.ua_binary.specs.Numbers.{byte_reading}
use Rattle.ua_views.proofs.VariantBytes.{shape_is_announced}
use Rattle.ua_views.proofs.variants.VariantView.first.Goals as goal

pub returns-clause-shape : goal.returns-clause-shape
returns-clause-shape c =
    ap shape_of (sym c.self.view_is)
    ∙ shape_is_announced _ _ _ (ap byte_reading (sym c.new.ensures) ∙ c.in-Ok.ensures.ok) c.self.invariant
