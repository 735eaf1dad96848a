-- Bytes in pieces: all are full but the last, which is the whole where they are no more than a piece.
use Rattle.std.specs.Prelude.{ℕ, zero, suc, List, [], ◌∷◌, nat_lt, length, take, drop, if◌then◌else◌}

-- at most so many pieces before the last
unfoldable pub pieces_within : ℕ → ℕ → List ℕ → List (List ℕ)
pieces_within zero size bytes = bytes ∷ []
pieces_within (suc n) size bytes =
    if nat_lt size (length bytes) then take size bytes ∷ pieces_within n size (drop size bytes) else bytes ∷ []

-- no bytes are one piece
unfoldable pub pieces_of : ℕ → List ℕ → List (List ℕ)
pieces_of size bytes = pieces_within (length bytes) size bytes
