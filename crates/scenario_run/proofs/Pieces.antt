-- The first piece, and those of the rest.
use Rattle.std.proofs.Common.{◌≡◌, ℕ, zero, suc, ◌<◌, ◌≤◌, ◌+◌, Bool, true, false, cond, List, [], ◌∷◌, ◌++◌, length, take, drop, refl, ◌∙◌, ap, arith}
use Rattle.std.specs.Prelude.{nat_lt}
use Rattle.std.specs.List.{concat, AllByRecursion}
use Rattle.std.proofs.lemmas.List.{length-drop, length-take-le, take-append-drop, append-nil}
use Rattle.std.proofs.lemmas.Bool.Decides.{nat_tests}
use Rattle.scenario_run.specs.Pieces.{pieces_of, pieces_within}

-- no more pieces than bytes are needed
enough : (m n : ℕ) (size : ℕ) (bytes : List ℕ) → 0 < size → length bytes ≤ m → length bytes ≤ n → pieces_within m size bytes ≡ pieces_within n size bytes
unfolding pieces_within
enough zero zero size bytes r a b = refl
enough zero (suc n) size [] r a b = let e : nat_lt size 0 ≡ false = grind (arith, nat_tests) in rw e refl
enough zero (suc n) size (x ∷ xs) r a b = absurd (omega arith)
enough (suc m) zero size [] r a b = let e : nat_lt size 0 ≡ false = grind (arith, nat_tests) in rw e refl
enough (suc m) zero size (x ∷ xs) r a b = absurd (omega arith)
enough (suc m) (suc n) size [] r a b = let e : nat_lt size 0 ≡ false = grind (arith, nat_tests) in rw e refl
enough (suc m) (suc n) size (x ∷ xs) r a b =
    let fewer : length (drop size (x ∷ xs)) ≤ m = omega (arith, length-drop size (x ∷ xs)) in
    let fewer' : length (drop size (x ∷ xs)) ≤ n = omega (arith, length-drop size (x ∷ xs)) in
    ap (λ (ps : List (List ℕ)). cond (nat_lt size (length (x ∷ xs))) (take size (x ∷ xs) ∷ ps) ((x ∷ xs) ∷ []))
    (enough m n size (drop size (x ∷ xs)) r fewer fewer')

-- bytes that are longer than a piece: a full piece, and then the rest
pub pieces_more : (size : ℕ) (bytes : List ℕ) → 0 < size → size < length bytes → pieces_of size bytes ≡ take size bytes ∷ pieces_of size (drop size bytes)
unfolding pieces_of pieces_within
pieces_more size bytes r l =
    let e : nat_lt size (length bytes) ≡ true = grind (arith, nat_tests) in
    let fewer : length (drop size bytes) ≤ length bytes = omega (arith, length-drop size bytes) in
    enough (length bytes) (suc (length bytes)) size bytes r (omega arith) (omega arith)
    ∙ rw e (ap (λ (ps : List (List ℕ)). take size bytes ∷ ps) (enough (length bytes) (length (drop size bytes)) size (drop size bytes) r fewer (omega arith)))

-- others: one piece
pub pieces_last : (size : ℕ) (bytes : List ℕ) → 0 < size → length bytes ≤ size → pieces_of size bytes ≡ bytes ∷ []
unfolding pieces_of pieces_within
pieces_last size bytes r l =
    let e : nat_lt size (length bytes) ≡ false = grind (arith, nat_tests) in
    enough (length bytes) (suc (length bytes)) size bytes r (omega arith) (omega arith) ∙ rw e refl

-- there is always a piece
either : (b : Bool) (p : List ℕ) (ps : List (List ℕ)) (q : List ℕ) → (x : List ℕ) × (xs : List (List ℕ)) × (cond b (p ∷ ps) (q ∷ []) ≡ x ∷ xs)
either true p ps q = (p, ps, refl)
either false p ps q = (q, [], refl)

pub some_within : (n size : ℕ) (bytes : List ℕ) → (p : List ℕ) × (ps : List (List ℕ)) × (pieces_within n size bytes ≡ p ∷ ps)
unfolding pieces_within
some_within zero size bytes = (bytes, [], refl)
some_within (suc n) size bytes = either (nat_lt size (length bytes)) (take size bytes) (pieces_within n size (drop size bytes)) bytes

pub some_piece : (size : ℕ) (bytes : List ℕ) → (p : List ℕ) × (ps : List (List ℕ)) × (pieces_of size bytes ≡ p ∷ ps)
unfolding pieces_of
some_piece size bytes = some_within (length bytes) size bytes

-- the pieces joined are the whole
either_whole : (b : Bool) (size : ℕ) (bytes : List ℕ) (ps : List (List ℕ)) → concat ps ≡ drop size bytes → concat (cond b (take size bytes ∷ ps) (bytes ∷ [])) ≡ bytes
either_whole true size bytes ps e = ap (λ (rest : List ℕ). take size bytes ++ rest) e ∙ take-append-drop size bytes
either_whole false size bytes ps e = append-nil bytes

whole_within : (n size : ℕ) (bytes : List ℕ) → concat (pieces_within n size bytes) ≡ bytes
unfolding pieces_within
whole_within zero size bytes = append-nil bytes
whole_within (suc n) size bytes = either_whole (nat_lt size (length bytes)) size bytes (pieces_within n size (drop size bytes)) (whole_within n size (drop size bytes))

pub whole_pieces : (size : ℕ) (bytes : List ℕ) → concat (pieces_of size bytes) ≡ bytes
unfolding pieces_of
whole_pieces size bytes = whole_within (length bytes) size bytes

-- each piece is within a limit that one of full size is within
either_short : (b : Bool) (limit size : ℕ) (bytes : List ℕ) (ps : List (List ℕ)) → nat_lt size (length bytes) ≡ b → size + 24 ≤ limit
    → AllByRecursion (λ part. 24 + length part ≤ limit) ps → AllByRecursion (λ part. 24 + length part ≤ limit) (cond b (take size bytes ∷ ps) (bytes ∷ []))
either_short true limit size bytes ps e m few =
    let long : size < length bytes = grind (arith, nat_tests) in
    let full : length (take size bytes) ≡ size = length-take-le size bytes (omega arith) in
    (omega arith, few)
either_short false limit size bytes ps e m few =
    let short : length bytes ≤ size = grind (arith, nat_tests) in
    (omega arith, tt)

short_within : (n limit size : ℕ) (bytes : List ℕ) → 0 < size → size + 24 ≤ limit → length bytes ≤ n → AllByRecursion (λ part. 24 + length part ≤ limit) (pieces_within n size bytes)
unfolding pieces_within
short_within zero limit size bytes r m l = (omega arith, tt)
short_within (suc n) limit size bytes r m l =
    let fewer : length (drop size bytes) ≤ n = omega (arith, length-drop size bytes) in
    either_short (nat_lt size (length bytes)) limit size bytes (pieces_within n size (drop size bytes)) refl m (short_within n limit size (drop size bytes) r m fewer)

pub short_pieces : (limit size : ℕ) (bytes : List ℕ) → 0 < size → size + 24 ≤ limit → AllByRecursion (λ part. 24 + length part ≤ limit) (pieces_of size bytes)
unfolding pieces_of
short_pieces limit size bytes r m = short_within (length bytes) limit size bytes r m (omega arith)
