use Rattle.std.proofs.Common.{◌≡◌, ℕ, ◌==◌, List, codes, false, refl, sym, ◌∙◌, lit<}
use Rattle.std.specs.List.{slice_split}
use Rattle.std.specs.Str.{bytes_eq}
use Rattle.std.proofs.lemmas.Iterator.Consumers.{map_from_collect}
use Rattle.std.proofs.lemmas.Iterator.Splits.{YieldsList-from_str_split}
use Rattle.scenario_text.specs.Elements.{element_texts}
use Rattle.scenario_text.proofs.elements.element_texts.Goals as goal

some : (t : List ℕ) → bytes_eq t (codes "-") ≡ false → element_texts t ≡ slice_split (λ b. b == 44) t
unfolding element_texts
some t h = rw h refl

pub returns : goal.returns
returns c =
    rw (some c.args.text.now (sym c.eq.ensures ∙ c.if-eq.false)) (map_from_collect _ c.collect.ensures.ran (YieldsList-from_str_split 44 c.args.text.now (lit< tt) c.split.ensures.text c.split.ensures.has_more c.split.ensures.pattern))
