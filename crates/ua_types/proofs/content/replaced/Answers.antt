use Rattle.std.proofs.Common.{◌≡◌, ◌<◌, ◌++◌, ◌∷◌, [], List, arith, length, length-append, append_assoc, sym, ap, ◌∙◌}
use Rattle.std.specs.Vec.Iter.{into_iter_items}
use Rattle.ua_types.proofs.Replacing.{placed}
use Rattle.ua_types.proofs.content.replaced.Goals as goal

pub loop-element-preserved : goal.loop-element-preserved
loop-element-preserved g c =
    let so_far = c.loop-element.invariant in
    let ys = c.loop-element.yielded in
    let x = c.in-Some.element in
    let rest = into_iter_items c.next.new.self in
    let left : (ys ++ x ∷ []) ++ rest ≡ c.args.part.items = append_assoc ys (x ∷ []) rest ∙ ap (λ (l : List _). ys ++ l) (sym c.in-Some.ensures.steps.0) ∙ so_far.left in
    let one_more = length-append ys (x ∷ []) in
    let count = ap length left in
    let sum = length-append (ys ++ x ∷ []) rest in
    let inside : c.loop-element.at < length c.args.whole.items = omega arith in
    record {
      place = omega arith;
      replaced = placed c.loop-element.elements.items c.args.whole.items ys c.args.from c.loop-element.at x so_far.replaced so_far.place inside;
      len = so_far.len;
      left = left;
    }
