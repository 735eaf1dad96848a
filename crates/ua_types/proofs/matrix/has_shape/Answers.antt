use Rattle.std.proofs.Common.{◌≡◌, ◌++◌, ◌∷◌, [], ◌+◌, ◌*◌, ◌^◌, ◌-◌, ℕ, List, ltb, get_or, take, min, refl, sym, ap, ◌∙◌}
use Rattle.std.specs.List.{list_all}
use Rattle.std.proofs.lemmas.Bool.{lt-ltb}
use Rattle.std.proofs.lemmas.List.{take_more}
use Rattle.std.proofs.lemmas.List.Folds.{list_all-append}
use Rattle.ua_types.specs.Matrices.{product}
use Rattle.ua_types.proofs.Products.{product_last, min_times}
use Rattle.ua_types.proofs.matrix.has_shape.Goals as goal

pub loop-dimension-preserved : goal.loop-dimension-preserved
loop-dimension-preserved c =
    let xs = c.args.dimensions.now in
    let i = c.loop-dimension.dimension-index in
    let d = get_or xs i 0 in
    let so_far = c.loop-dimension.invariant in
    let more : take (i + 1) xs ≡ take i xs ++ d ∷ [] = take_more xs i 0 c.loop-dimension-test.true in
    let top = 2 ^ 64 - 1 in
    record {
      size = c.saturating_mul-size.ensures ∙ ap (λ (n : ℕ). min (n * d) top) so_far.size ∙ min_times (product (take i xs)) d top ∙ sym (ap (λ (ds : List ℕ). min (product ds) top) more ∙ ap (λ (n : ℕ). min n top) (product_last (take i xs) d));
      each = ap (λ (ds : List ℕ). list_all (λ e. ltb e (2 ^ 31)) ds) more ∙ list_all-append (λ e. ltb e (2 ^ 31)) (take i xs) (d ∷ []) ∙ rw (so_far.each, lt-ltb _ _ c.if-dimension.false) refl;
    }
