-- Elements that are put into a list one after the other.
use Rattle.std.proofs.Common.{◌≡◌, ◌+◌, ◌++◌, ◌∷◌, [], ℕ, ◌<◌, List, length, get_or, set, take, drop, arith, length-append, length-take, append_assoc, sym, ap, ◌∙◌}
use Rattle.std.proofs.lemmas.List.{drop_more}
use Rattle.std.proofs.Math.Seq.{set-append_seam}

-- one more stands in its place
pub placed : {A : Type 0} (elements xs ys : List A) (from at : ℕ) (v : A) → elements ≡ take from xs ++ ys ++ drop at xs → at ≡ from + length ys → at < length xs
    → set elements at v ≡ take from xs ++ (ys ++ v ∷ []) ++ drop (at + 1) xs
placed {A = A} elements xs ys from at v are place lt =
    let front : List A = take from xs ++ ys in
    let here : length front ≡ at = omega (arith, length-append (take from xs) ys, length-take from xs) in
    let y : A = get_or xs at v in
    let rest : List A = drop (at + 1) xs in
    ap (λ (l : List A). set l at v) (are ∙ ap (λ (l : List A). front ++ l) (drop_more xs at v lt))
    ∙ ap (λ (i : ℕ). set (front ++ y ∷ rest) i v) (sym here)
    ∙ set-append_seam front y rest v
    ∙ sym (append_assoc front (v ∷ []) rest)
    ∙ ap (λ (l : List A). l ++ rest) (append_assoc (take from xs) ys (v ∷ []))
