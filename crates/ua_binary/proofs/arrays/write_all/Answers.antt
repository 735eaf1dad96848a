use Rattle.std.proofs.Common.{◌≡◌, ◌++◌, ◌∷◌, [], ◌+◌, arith, take, List, ℕ, sym, ap, ◌∙◌, length-append}
use Rattle.std.specs.List.{flat_map}
use Rattle.std.proofs.lemmas.List.{flat_map_more, take_more}
use Rattle.std.proofs.lemmas.List.Concat.{flat_map-append}
use Rattle.std.proofs.lemmas.List.Elements.{All-more}
use Rattle.ua_binary.specs.Reading.{IsReadAgain}
use Rattle.ua_binary.proofs.arrays.write_all.Goals as goal

pub loop-item-preserved : goal.loop-item-preserved
loop-item-preserved g c =
    let encoding = g.W.Written.encoding in
    let xs = c.args.items.now in
    let i = c.loop-item.item-index in
    let x = c.item-item.result in
    let so_far = c.loop-item.invariant in
    let more : take (i + 1) xs ≡ take i xs ++ x ∷ [] = take_more xs i x c.loop-item-test.true ∙ ap (λ y. take i xs ++ y ∷ []) (sym c.item-item.is) in
    record {
      written = ◌∙◌ {A = List ℕ} c.in_ok-write.ensures.ok (◌∙◌ {A = List ℕ} (ap (λ (o : List ℕ). o ++ encoding x) so_far.written) (rw more (flat_map_more encoding c.args.out.now.items (take i xs) x)));
      some = rw (more, flat_map-append) (omega (arith, so_far.some, c.in_ok-write.ensures.some, length-append (flat_map encoding (take i xs)) (encoding x ++ []), length-append (encoding x) []));
      again = All-more (IsReadAgain g.W.Written.reading encoding) xs i x c.loop-item-test.true so_far.again (rw (← c.item-item.is) c.in_ok-write.ensures.again);
    }
